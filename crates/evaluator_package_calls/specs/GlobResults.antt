-- What a call of `glob` collects: paths, and patterns without an answer.
use Rattle.std.specs.Prelude.{ℕ, Bool, List, [], ◌∷◌, ◌++◌, map, filter, flat_map, not, is_some, ◌||◌, if◌then◌else◌}
use Rattle.labels.specs.Paths.{segments}
use Rattle.pattern.specs.Globs.{some_matches}
use Rattle.evaluator_semantics.specs.Names.{has_name}
use Rattle.evaluator_semantics.specs.Environment.{Answers}
use Rattle.evaluator_semantics.specs.Globs.{answer_to, found_or_none}

-- the paths that do not pass a test
abbrev pub kept_unless : (List ℕ → Bool) → List (List ℕ) → List (List ℕ)
kept_unless test paths = filter (λ path. not (test path)) paths

-- the paths that no pattern matches
abbrev pub kept_of : List (List ℕ) → List (List ℕ) → List (List ℕ)
kept_of excludes paths = filter (λ path. not (some_matches (map segments excludes) path)) paths

-- the paths that the patterns find
abbrev pub found_all : Answers → List (List ℕ) → List (List ℕ)
found_all answers patterns = flat_map (λ p. found_or_none (answer_to p answers)) patterns

-- the patterns with one more, if it has no answer and is not among them
abbrev pub with_unanswered : List ℕ → Answers → List (List ℕ) → List (List ℕ)
with_unanswered p answers all = if is_some (answer_to p answers) || has_name p all then all else all ++ p ∷ []
