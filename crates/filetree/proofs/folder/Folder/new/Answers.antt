use Rattle.std.proofs.Common.{◌∙◌, ap, []}
use Rattle.filetree.specs.NameMaps.{folder_entries}
use Rattle.filetree.specs.Folders.{level, is_sound}
use Rattle.filetree.proofs.folder.Folder.new.Goals as goal

pub invariant_of-result : goal.invariant_of-result
invariant_of-result c = ap (λ fs. is_sound fs (folder_entries c.new-2.result)) c.new.ensures ∙ ap (is_sound []) c.new-2.ensures

pub returns : goal.returns
returns c = ap (λ fs. level fs (folder_entries c.new-2.result)) c.new.ensures ∙ ap (level []) c.new-2.ensures
