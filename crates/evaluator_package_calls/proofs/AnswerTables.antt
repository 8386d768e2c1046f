-- A table of answers and a set of questions, with one more of them.
use Rattle.std.proofs.Common.{◌≡◌, ◌++◌, ◌+◌, ℕ, suc, Bool, true, false, cond, List, [], ◌∷◌, length, Some, None, Option, refl, ap, sym, ◌∙◌, add-one}
use Rattle.std.specs.Prelude.{option_map, slice_get, ◌||◌, if◌then◌else◌}
use lib.Pointwise.{bytes_decides}
use Rattle.values_semantics.specs.Comparing.{same_text}
use Rattle.evaluator_semantics.specs.Names.{has_name}
use Rattle.evaluator_semantics.specs.Globs.{answer_to}
use Rattle.evaluator_package_calls.specs.AnswerTables.{answer_of, answers_of, paths_at, place_of, earlier_or}
use Rattle.evaluator_semantics.specs.Environment.{Answers}
use Rattle.evaluator_package_calls.specs.declared.answers.GlobResult.{GlobResult}
use Rattle.evaluator_package_calls.proofs.Gathering.{has-append}

turned : (a b : List ℕ) → same_text a b ≡ same_text b a
turned a b = by (same_text a b) (same_text b a) refl refl
  where
    by : (p q : Bool) → same_text a b ≡ p → same_text b a ≡ q → p ≡ q
    by true true h g = refl
    by false false h g = refl
    by true false h g = sym ((bytes_decides b a).1 (sym ((bytes_decides a b).0 h))) ∙ g
    by false true h g = sym h ∙ (bytes_decides a b).1 (sym ((bytes_decides b a).0 g))

-- what is at the place of a question is the answer to it
pub place_finds : (x : List ℕ) (answers : Answers) → paths_at answers (place_of x answers) ≡ answer_to x answers
place_finds x [] = refl
place_finds x (a ∷ answers) = by (same_text x a.0) (place_finds x answers)
  where
    behind : (o : Option ℕ) → paths_at (a ∷ answers) (option_map (λ i. i + 1) o) ≡ paths_at answers o
    behind None = refl
    behind (Some i) = ap (λ n. option_map (λ b. b.1) (slice_get (a ∷ answers) n)) (add-one i)

    by : (t : Bool) → paths_at answers (place_of x answers) ≡ answer_to x answers → paths_at (a ∷ answers) (if t then Some 0 else option_map (λ i. i + 1) (place_of x answers)) ≡ (if t then Some a.1 else answer_to x answers)
    by true found = refl
    by false found = behind (place_of x answers) ∙ found

-- a further answer has a place only for a question without an earlier one
pub place_more : (x : List ℕ) (answers : Answers) (a : List ℕ × List (List ℕ)) → place_of x (answers ++ a ∷ []) ≡ earlier_or (place_of x answers) (cond (same_text x a.0) (Some (length answers)) None)
place_more x [] a = by (same_text x a.0)
  where
    by : (t : Bool) → (if t then Some 0 else option_map (λ i. i + 1) None) ≡ earlier_or None (cond t (Some 0) None)
    by true = refl
    by false = refl
place_more x (b ∷ answers) a = ap (λ o. if same_text x b.0 then Some 0 else option_map (λ i. i + 1) o) (place_more x answers a) ∙ by (same_text x b.0) (place_of x answers) (same_text x a.0)
  where
    by : (t : Bool) (o : Option ℕ) (s : Bool) → (if t then Some 0 else option_map (λ i. i + 1) (earlier_or o (cond s (Some (length answers)) None))) ≡ earlier_or (if t then Some 0 else option_map (λ i. i + 1) o) (cond s (Some (length (b ∷ answers))) None)
    by true o s = refl
    by false (Some i) s = refl
    by false None true = ap Some (add-one (length answers))
    by false None false = refl

-- a table that has noted a further answer has its place
pub table_more : (x name : List ℕ) (answers : Answers) (a : List ℕ × List (List ℕ)) (place : ℕ) (after before : Option ℕ) → place ≡ length answers → name ≡ a.0 → before ≡ place_of x answers → after ≡ earlier_or before (cond (same_text name x) (Some place) None) → after ≡ place_of x (answers ++ a ∷ [])
table_more x name answers a place after before at named was is =
    is ∙ ap (λ o. earlier_or o (cond (same_text name x) (Some place) None)) was
    ∙ ap (λ t. earlier_or (place_of x answers) (cond t (Some place) None)) (turned name x ∙ ap (same_text x) named)
    ∙ ap (λ n. earlier_or (place_of x answers) (cond (same_text x a.0) (Some n) None)) at
    ∙ sym (place_more x answers a)

-- a further answer is after the others
pub answers_more : (results : List GlobResult) (r : GlobResult) → answers_of (results ++ r ∷ []) ≡ answers_of results ++ answer_of r ∷ []
answers_more [] r = refl
answers_more (s ∷ results) r = ap (λ (l : Answers). answer_of s ∷ l) (answers_more results r)

pub as_many : (results : List GlobResult) → length (answers_of results) ≡ length results
as_many [] = refl
as_many (r ∷ results) = ap suc (as_many results)

pub is_same : {X : Type 0} {x y : X} → Some x ≡ Some y → x ≡ y
is_same h = cc

pub noted_more : (name : List ℕ) (all more : List (List ℕ)) (after old : List ℕ → Bool) → more ≡ all ++ name ∷ [] → ((q : List ℕ) → after q ≡ cond (same_text name q) true (old q)) → ((q : List ℕ) → old q ≡ has_name q all) → (q : List ℕ) → after q ≡ has_name q more
noted_more name all more after old m updates has q =
    updates q ∙ ap (λ b. cond (same_text name q) true b) (has q) ∙ ap (λ b. cond b true (has_name q all)) (turned name q) ∙ swapped (same_text q name) (has_name q all) ∙ sym (ap (has_name q) m ∙ has-append q all (name ∷ []))
  where
    swapped : (a b : Bool) → cond a true b ≡ (b || cond a true false)
    swapped true true = refl
    swapped true false = refl
    swapped false true = refl
    swapped false false = refl
