-- What is written for a line, where an earlier write may have failed.
use Rattle.std.specs.Prelude.{◌≡◌, List, ℕ, ◌++◌, Bool, true, false}

abbrev pub IsPartOf : List ℕ → List ℕ → Type 0
IsPartOf part whole = (rest : List ℕ) × (whole ≡ part ++ rest)

-- a line is written whole, or the write fails and a part of it is written; after a failed write nothing is written
abbrev pub WritesLine : Bool → Bool → List ℕ → List ℕ → List ℕ → Type 0
WritesLine true failed line before after = (failed ≡ true) × (after ≡ before)
WritesLine false false line before after = after ≡ before ++ line
WritesLine false true line before after = (part : List ℕ) × IsPartOf part line × (after ≡ before ++ part)
