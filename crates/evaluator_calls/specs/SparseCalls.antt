-- What the positional and the named arguments of a call have to give, where parameters with defaults come last.
use Rattle.std.specs.Prelude.{◌≡◌, ℕ, ◌+◌, ◌<◌, ◌≤◌, true, false, List, length, is_some}
use Rattle.std.proofs.Common.{get_or}
use Rattle.values_semantics.specs.Functions.{KeywordArguments}
use Rattle.syntax_tree.specs.Tree.{Pa}
use Rattle.evaluator_semantics.specs.Arguments.{value_named}

-- no parameter of a range is named
abbrev pub NoneNamed : ℕ → ℕ → List Pa → KeywordArguments → Type 0
NoneNamed from to ps ns = (i : ℕ) → from ≤ i → i < to → (d : Pa) → is_some (value_named (get_or ps i d).name ns) ≡ false

-- each parameter of a range is named
abbrev pub AllNamed : ℕ → ℕ → List Pa → KeywordArguments → Type 0
AllNamed from to ps ns = (i : ℕ) → from ≤ i → i < to → (d : Pa) → is_some (value_named (get_or ps i d).name ns) ≡ true

-- So many positional arguments and the named ones give each parameter one value: all positional ones have a parameter
-- that is not named too, the other required ones are named, and there are defaults for all that are not required.
pub record AreGiven (ps : List Pa) (required number : ℕ) (ns : KeywordArguments) (defaults : ℕ) : Type 0 where
  pub short : number ≤ length ps
  pub within : required ≤ length ps
  pub enough : length ps ≤ required + defaults
  pub unnamed : NoneNamed 0 number ps ns
  pub named : AllNamed number required ps ns
