use Rattle.std.proofs.Common.{◌≡◌, drop}
use Rattle.filetree.specs.Changes.{first_refused, changes_refusal, all_changed}
use Rattle.filetree.specs.ChangeView.{changes_seen}
use Rattle.filetree.proofs.tree.Tree.change_each.Given as goal

-- the changes that are left have the refusal and the files of all
abbrev pub invariant-loop-at : goal.invariant-loop-at
invariant-loop-at l = record {
  refusal : first_refused l.at (changes_seen (drop l.at l.edits)) l.self ≡ changes_refusal (changes_seen l.edits) l.fn.self;
  change : all_changed (changes_seen (drop l.at l.edits)) l.self ≡ all_changed (changes_seen l.edits) l.fn.self;
}
