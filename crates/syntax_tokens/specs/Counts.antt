-- The counts of levels, as sums of the counts around each level.
use Rattle.std.specs.Prelude.{◌≡◌, ℕ, ◌-◌, ◌≤◌, List, [], ◌∷◌, reverse}
use Rattle.syntax_tokens.specs.declared.nesting.Depth.{Depth}
use Rattle.syntax_tokens.specs.Nesting.{Nesting}

abbrev pub counts_of : ℕ → List ℕ → List ℕ
counts_of total [] = []
counts_of total (around ∷ more) = (total - around) ∷ counts_of around more

abbrev pub AreOrdered : ℕ → List ℕ → Type 0
AreOrdered total [] = total ≡ 0
AreOrdered total (around ∷ more) = (around ≤ total) × AreOrdered around more

abbrev pub nesting_of : Depth → Nesting
nesting_of d = record { indents = d.indents; counts = counts_of d.total (reverse d.outer.items) }

abbrev pub IsOrdered : Depth → Type 0
IsOrdered d = AreOrdered d.total (reverse d.outer.items)
