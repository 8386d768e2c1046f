-- `glob(include, exclude = [], allow_empty = True, exclude_directories = 1)`.
--
-- Tested in order: the arguments (25), their types (5), that `exclude_directories` is 0 or 1 (25), the patterns (21);
-- then it waits for the includes that have no answer yet; then the size (13), and an empty result that is not allowed
-- (22).
use Rattle.std.specs.Prelude.{ℕ, ℤ, pos, ◌&&◌, ◌||◌, Bool, true, false, not, nat_le, List, [], ◌∷◌, length, map, filter, flat_map, Option, Some, None, is_some, if◌then◌else◌, slice_get, codes}
use Rattle.std.specs.List.{list_all}
use Rattle.std.specs.Ordering.{int_eq}
use Rattle.pattern.specs.Globs.{some_matches, question}
use Rattle.labels.specs.Paths.{segments}
use Rattle.pattern.specs.Patterns.{is_pattern}
use Rattle.values_semantics.specs.declared.val.Val.{Val}
use Rattle.values_semantics.specs.declared.val.Val.TheVariants as v
use Rattle.values_semantics.specs.Outcome as o
use Rattle.values_semantics.specs.Outcome.{Does, ValueOrFault, good, bad, then_checked, or_bad, lift_fault}
use Rattle.values_semantics.specs.Heap.{Obj, list, Store, at, makes_list, is_sized}
use Rattle.values_semantics.specs.Comparing.{same_text}
use Rattle.values_semantics.specs.Functions.{KeywordArguments, is_named, is_twice}
use Rattle.values_semantics.specs.Methods.{bytes_of, makes_texts}
use Rattle.values_semantics.specs.declared.faults.TheConstants.{BAD_PATTERN, EMPTY_GLOB, TOO_LARGE, WRONG_ARGUMENTS, WRONG_TYPE}
use Rattle.evaluator_semantics.specs.Sorting.{in_order}
use Rattle.evaluator_semantics.specs.World.{Here, Runs, ◌>>=◌, on_heap, waits}
use Rattle.evaluator_semantics.specs.Names.{or_else, has_name}
use Rattle.evaluator_semantics.specs.Environment.{Answers}
use Rattle.evaluator_semantics.specs.Arguments.{value_named}

-- ---- the arguments, positional or named; `exclude_directories` by its name only

abbrev pub plain_parameters : List (List ℕ)
plain_parameters = codes "include" ∷ codes "exclude" ∷ codes "allow_empty" ∷ []

abbrev pub parameters : List (List ℕ)
parameters = codes "include" ∷ codes "exclude" ∷ codes "allow_empty" ∷ codes "exclude_directories" ∷ []

abbrev pub are_known : KeywordArguments → List (List ℕ) → Bool
are_known [] names = true
are_known (n ∷ ns) names = if has_name n.0 names then are_known ns names else false

-- a positional argument whose parameter is named too
abbrev pub given_twice : List Val → List (List ℕ) → KeywordArguments → Bool
given_twice [] names ns = false
given_twice (x ∷ xs) [] ns = false
given_twice (x ∷ xs) (n ∷ names) ns = if is_named n ns then true else given_twice xs names ns

abbrev pub argument : ℕ → List ℕ → List Val → KeywordArguments → Option Val
argument i name xs ns = or_else (slice_get xs i) (value_named name ns)

abbrev pub are_arguments : List Val → KeywordArguments → Bool
are_arguments xs ns =
    nat_le (length xs) (length plain_parameters) && not (is_twice ns) && are_known ns parameters
    && not (given_twice xs plain_parameters ns) && is_some (argument 0 (codes "include") xs ns)

-- ---- their types

abbrev pub all_texts : List Val → Store → ValueOrFault (List (List ℕ))
all_texts [] s = good []
all_texts (x ∷ xs) s = then_checked (bytes_of x s) (λ t. then_checked (all_texts xs s) (λ ts. good (t ∷ ts)))

abbrev pub object_texts : Option Obj → Store → ValueOrFault (List (List ℕ))
object_texts (Some (list members f)) s = all_texts members s
object_texts object s = bad WRONG_TYPE

-- a list of strings, and not a tuple
abbrev pub texts_in : Val → Store → ValueOrFault (List (List ℕ))
texts_in (v.At a) s = object_texts (at a s) s
texts_in x s = bad WRONG_TYPE

abbrev pub texts_or_none : Option Val → Store → ValueOrFault (List (List ℕ))
texts_or_none None s = good []
texts_or_none (Some x) s = texts_in x s

abbrev pub truth_or : Bool → Option Val → ValueOrFault Bool
truth_or other None = good other
truth_or other (Some v.True) = good true
truth_or other (Some v.False) = good false
truth_or other (Some x) = bad WRONG_TYPE

abbrev pub int_or : ℤ → Option Val → ValueOrFault ℤ
int_or other None = good other
int_or other (Some (v.Int n)) = good n
int_or other (Some x) = bad WRONG_TYPE

-- 1 excludes directories, and 0 does not
abbrev pub with_directories : ℤ → ValueOrFault Bool
with_directories n = if int_eq n (pos 0) then good true else if int_eq n (pos 1) then good false else bad WRONG_ARGUMENTS

pub record Glob : Type 0 where
  pub includes : List (List ℕ)
  pub excludes : List (List ℕ)
  pub allow_empty : Bool
  -- whether it finds directories too
  pub directories : Bool

abbrev pub typed : List Val → KeywordArguments → Store → ValueOrFault Glob
typed xs ns s =
    then_checked (texts_or_none (argument 0 (codes "include") xs ns) s) (λ includes.
    then_checked (texts_or_none (argument 1 (codes "exclude") xs ns) s) (λ excludes.
    then_checked (truth_or true (argument 2 (codes "allow_empty") xs ns)) (λ allow_empty.
    then_checked (int_or (pos 1) (value_named (codes "exclude_directories") ns)) (λ n.
    then_checked (with_directories n) (λ directories.
    good (record { includes = includes; excludes = excludes; allow_empty = allow_empty; directories = directories }))))))

abbrev pub with_patterns : Glob → ValueOrFault Glob
with_patterns g = if list_all is_pattern g.includes && list_all is_pattern g.excludes then good g else bad BAD_PATTERN

-- what the call asks for
abbrev pub read_call : List Val → KeywordArguments → Store → ValueOrFault Glob
read_call xs ns s = if are_arguments xs ns then then_checked (typed xs ns s) with_patterns else bad WRONG_ARGUMENTS

-- ---- the result

-- what is asked for the includes, in their order
abbrev pub questions : Glob → List (List ℕ)
questions g = map (question g.directories) g.includes

abbrev pub answer_to : List ℕ → Answers → Option (List (List ℕ))
answer_to pattern [] = None
answer_to pattern (a ∷ answers) = if same_text pattern a.0 then Some a.1 else answer_to pattern answers

-- the questions that have no answer, in order, each once
abbrev pub queries_without_result : Answers → List (List ℕ) → List (List ℕ) → List (List ℕ)
queries_without_result answers seen [] = []
queries_without_result answers seen (p ∷ ps) = if is_some (answer_to p answers) || has_name p seen then queries_without_result answers seen ps else p ∷ queries_without_result answers (p ∷ seen) ps

abbrev pub found_or_none : Option (List (List ℕ)) → List (List ℕ)
found_or_none None = []
found_or_none (Some paths) = paths

-- the paths that some include finds and no exclude matches, in byte order, without repeats
abbrev pub found : Answers → Glob → List (List ℕ)
found answers g = in_order (λ path. path) (filter (λ path. not (some_matches (map segments g.excludes) path)) (flat_map (λ q. found_or_none (answer_to q answers)) (questions g)))

-- a new list that may be changed
abbrev pub makes_paths : Bool → List (List ℕ) → Does Store Val
makes_paths false [] = o.fault EMPTY_GLOB
makes_paths allow_empty paths = if is_sized (length paths) then o.◌>>=◌ (makes_texts paths) makes_list else o.fault TOO_LARGE

abbrev pub glob_result : List (List ℕ) → Answers → Glob → Here → Runs Val
glob_result [] answers g here = on_heap here (makes_paths g.allow_empty (found answers g))
glob_result (p ∷ ps) answers g here = λ w. waits (p ∷ ps)

unfoldable pub glob : Answers → List Val → KeywordArguments → Here → Runs Val
glob answers xs ns here = on_heap here (λ s. lift_fault (read_call xs ns s) s) >>= λ g. glob_result (queries_without_result answers [] (questions g)) answers g here
