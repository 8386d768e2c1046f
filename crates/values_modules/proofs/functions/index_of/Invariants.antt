use Rattle.std.proofs.Common.{◌≡◌, ℕ, List, take}
use Rattle.std.specs.HashMap.{get}
use Rattle.std.specs.Prelude.{is_some}
use Rattle.values_semantics.specs.Comparing.{same_text}
use Rattle.values_modules.specs.FunctionNames.{first_named, function_at}
use Rattle.values_modules.proofs.functions.index_of.Given as goal

abbrev pub invariant-loop-i : goal.invariant-loop-i
invariant-loop-i l = record {
  places : (x : List ℕ) → function_at l.functions (get same_text l.places x) ≡ first_named x (take l.i l.functions);
  known : (x : List ℕ) → is_some (get same_text l.places x) ≡ is_some (first_named x (take l.i l.functions));
}
