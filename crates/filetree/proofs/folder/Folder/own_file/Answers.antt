use Rattle.std.proofs.Common.{◌∙◌, ap, sym}
use Rattle.filetree.specs.NameMaps.{folder_entries}
use Rattle.filetree.specs.Folders.{text_at}
use Rattle.filetree.proofs.Levels.{at_name}
use Rattle.filetree.proofs.Sound.{parts_of}
use Rattle.filetree.proofs.folder.Folder.own_file.Goals as goal

pub get-requires : goal.get-requires
get-requires c = (parts_of (folder_entries c.self.inside.files) (folder_entries c.self.inside.folders) c.self.invariant).3

pub returns : goal.returns
returns c =
    c.get.ensures ∙ sym (at_name (folder_entries c.self.inside.files) (folder_entries c.self.inside.folders) c.args.name.now c.requires) ∙ ap (λ v. text_at v.entries c.args.name.now) c.self.view_is
