-- How many turns of a key were taken back, by the choices of a round.
use Rattle.std.specs.Prelude.{◌≡◌, ℕ, suc, true, false, List, [], ◌∷◌, ◌++◌, length, Option, Some, None, ⊤}
use Rattle.engine_semantics.specs.Choices as choices

-- exactly n turns of k were taken back
pub record HasBacks {K : Type 0} (k : K) (n : ℕ) (cs : List (choices.Choice K)) : Type 0 where
  pub taken : choices.Backs k n cs
  pub no_more : ¬ choices.Backs k (suc n) cs
