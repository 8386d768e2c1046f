-- The segments that are left of a text.
use Rattle.std.specs.Prelude.{ℕ, List, [], Option, Some, None}
use Rattle.std.specs.Borrow.{Bor}
use Rattle.labels.specs.Paths.{segments}

-- none, or those of a text
abbrev pub parts : Option (Bor (List ℕ)) → List (List ℕ)
parts None = []
parts (Some text) = segments text.now
