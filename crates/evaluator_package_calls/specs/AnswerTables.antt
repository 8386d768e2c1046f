-- Answers by their places, and sets of questions.
use Rattle.std.specs.Prelude.{◌≡◌, ℕ, ◌+◌, List, [], ◌∷◌, Option, Some, None, option_map, slice_get, if◌then◌else◌, map}
use Rattle.std.specs.Arc.{arc_value}
use Rattle.std.specs.HashSet.{HashSet, contains}
use Rattle.values_semantics.specs.Comparing.{same_text}
use Rattle.evaluator_semantics.specs.Names.{has_name}
use Rattle.evaluator_semantics.specs.Environment.{Answers}
use Rattle.evaluator_package_calls.specs.declared.answers.GlobResult.{GlobResult}

-- what was asked, with the paths that were found
abbrev pub answer_of : GlobResult → List ℕ × List (List ℕ)
answer_of a = (a.pattern, (arc_value a.paths).items)

abbrev pub answers_of : List GlobResult → Answers
answers_of answers = map answer_of answers

-- the paths of the answer at a place, or none
abbrev pub paths_at : List (List ℕ × List (List ℕ)) → Option ℕ → Option (List (List ℕ))
paths_at answers None = None
paths_at answers (Some i) = option_map (λ a. a.1) (slice_get answers i)

-- the place of the first answer to a question
abbrev pub place_of : List ℕ → List (List ℕ × List (List ℕ)) → Option ℕ
place_of x [] = None
place_of x (a ∷ answers) = if same_text x a.0 then Some 0 else option_map (λ i. i + 1) (place_of x answers)

-- an earlier place, or else another one
abbrev pub earlier_or : Option ℕ → Option ℕ → Option ℕ
earlier_or None other = other
earlier_or (Some i) other = Some i

-- the set has exactly these texts
abbrev pub HasTexts : {S : Type 0} → HashSet (List ℕ) S → List (List ℕ) → Type 0
HasTexts set texts = (x : List ℕ) → contains same_text set x ≡ has_name x texts
