use Rattle.std.proofs.Common.{◌≡◌, ◌++◌, drop}
use Rattle.filetree.specs.ChangeView.{changes_seen}
use Rattle.loader_commands.proofs.changes.Changes.add_all.Given as goal

abbrev pub invariant-loop-change : goal.invariant-loop-change
invariant-loop-change l = l.self ++ changes_seen (drop l.change-index l.changes) ≡ l.fn.self ++ changes_seen l.changes
