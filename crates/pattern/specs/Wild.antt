-- Patterns with wild items: the same for bytes in a segment and for segments in a path.
use Rattle.std.specs.Prelude.{Bool, true, false, ◌||◌, ◌&&◌, List, [], ◌∷◌, if◌then◌else◌}

-- some end of the list passes: the whole of it, or an end of its rest
abbrev pub some_end : {X : Type 0} → (List X → Bool) → List X → Bool
some_end test [] = test []
some_end test (x ∷ xs) = test (x ∷ xs) || some_end test xs

-- there is a first item, it fits, and the rest passes
abbrev pub first_fits : {X : Type 0} → (X → Bool) → (List X → Bool) → List X → Bool
first_fits fits test [] = false
first_fits fits test (x ∷ xs) = fits x && test xs

-- Nothing matches nothing. A wild item before a rest matches where the rest does, after no item or
-- after one item and so on. Another item before a rest matches a first item that fits it, before what
-- the rest matches.
abbrev pub wild_matches : {P X : Type 0} → (P → Bool) → (P → X → Bool) → List P → List X → Bool
wild_matches is_wild fits [] [] = true
wild_matches is_wild fits [] (x ∷ xs) = false
wild_matches is_wild fits (p ∷ ps) xs =
    if is_wild p then some_end (wild_matches is_wild fits ps) xs else first_fits (fits p) (wild_matches is_wild fits ps) xs
