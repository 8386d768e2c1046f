use Rattle.std.proofs.Common.{◌≡◌, ◌++◌, drop, map}
use Rattle.filetree.specs.Changes.{path_of}
use Rattle.filetree.specs.ChangeView.{changes_seen}
use Rattle.loader_commands.specs.View.{texts_seen}
use Rattle.loader_commands.proofs.making.paths_in.Given as goal

abbrev pub invariant-loop-change : goal.invariant-loop-change
invariant-loop-change l = texts_seen l.paths.items ++ map path_of (changes_seen (drop l.change-index l.changes)) ≡ map path_of (changes_seen l.changes)
