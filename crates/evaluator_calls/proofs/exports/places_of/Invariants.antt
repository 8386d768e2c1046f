use Rattle.std.proofs.Common.{◌≡◌, ◌≤◌, ℕ, List, length, drop}
use Rattle.std.specs.HashMap.{get}
use Rattle.values_semantics.specs.Comparing.{same_text}
use Rattle.evaluator_semantics.specs.Modules.{frozen_at}
use Rattle.evaluator_calls.specs.ExportTables.{value_at}
use Rattle.evaluator_calls.proofs.exports.places_of.Given as goal

abbrev pub invariant-loop-i : goal.invariant-loop-i
invariant-loop-i l = record {
  within : l.i ≤ length l.own;
  found : (x : List ℕ) → value_at l.own (get same_text l.places x) ≡ frozen_at x (drop l.i l.own);
}

abbrev pub decreases-loop-i : goal.decreases-loop-i
decreases-loop-i l = l.i
