use Rattle.std.proofs.Common.{◌∙◌, ap, sym, ◌∷◌, ◌++◌}
use Rattle.std.specs.Prelude.{option_and_then}
use Rattle.filetree.specs.NameMaps.{folder_entries}
use Rattle.filetree.specs.Folders.{text_at}
use Rattle.filetree.proofs.Levels.{below_name}
use Rattle.filetree.proofs.Sound.{copied_then, copied_some, parts_of}
use Rattle.filetree.proofs.folder.Folder.folder.Goals as goal

pub get-requires : goal.get-requires
get-requires c = (parts_of (folder_entries c.self.inside.files) (folder_entries c.self.inside.folders) c.self.invariant).4

pub returns-clause-below : goal.returns-clause-below
returns-clause-below c = λ rest.
    copied_then c.get.result rest ∙ ap (option_and_then (λ b. text_at b.entries rest)) c.get.ensures
    ∙ sym (below_name (folder_entries c.self.inside.files) (folder_entries c.self.inside.folders) c.args.name.now rest c.self.invariant c.requires)
    ∙ ap (λ v. text_at v.entries (c.args.name.now ++ 47 ∷ rest)) c.self.view_is

pub returns-clause-some : goal.returns-clause-some
returns-clause-some c =
    copied_some c.get.result (folder_entries c.self.inside.folders) c.args.name.now (parts_of (folder_entries c.self.inside.files) (folder_entries c.self.inside.folders) c.self.invariant).1 c.get.ensures
