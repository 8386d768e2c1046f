-- One pattern more of a call of `glob`: what it finds, and whether it is asked.
use Rattle.std.proofs.Common.{◌≡◌, ◌+◌, ◌<◌, ℕ, Bool, true, false, List, [], ◌∷◌, ◌++◌, length, drop, reverse, get_or, Option, Some, None, option_map, refl, ap, sym, ◌∙◌, append_assoc}
use Rattle.std.specs.Prelude.{is_some, ◌||◌, if◌then◌else◌}
use Rattle.std.specs.Borrow.{Bor}
use Rattle.std.proofs.lemmas.List.{reverse-append}
use Rattle.std.proofs.lemmas.List.Elements.{filter-append}
use Rattle.values_semantics.specs.Comparing.{same_text}
use Rattle.evaluator_semantics.specs.Names.{has_name}
use Rattle.evaluator_semantics.specs.Environment.{Answers}
use Rattle.evaluator_semantics.specs.Globs.{answer_to, found_or_none, queries_without_result}
use Rattle.evaluator_package_calls.specs.GlobResults.{kept_unless, found_all, with_unanswered}
use Rattle.values_builtins.proofs.Rows.{drop_item}

pub kept-append : (excludes : List ℕ → Bool) (xs ys : List (List ℕ)) → kept_unless excludes (xs ++ ys) ≡ kept_unless excludes xs ++ kept_unless excludes ys
kept-append excludes xs ys = filter-append _ xs ys

pub gathered_step : (answers : Answers) (excludes : List ℕ → Bool) (includes : List (List ℕ)) (i : ℕ) (p q : List ℕ) (done more whole : List (List ℕ)) → i < length includes → p ≡ get_or includes i p → q ≡ p
    → more ≡ done ++ kept_unless excludes (found_or_none (answer_to q answers)) → done ++ kept_unless excludes (found_all answers (drop i includes)) ≡ whole → more ++ kept_unless excludes (found_all answers (drop (i + 1) includes)) ≡ whole
gathered_step answers excludes includes i p q done more whole lt is same m inv =
    let found : List ℕ → List (List ℕ) = λ x. found_or_none (answer_to x answers) in
    let rest = found_all answers (drop (i + 1) includes) in
    ap (λ l. l ++ kept_unless excludes rest) (m ∙ ap (λ x. done ++ kept_unless excludes (found x)) same)
    ∙ append_assoc done (kept_unless excludes (found p)) (kept_unless excludes rest)
    ∙ ap (λ l. done ++ l) (sym (kept-append excludes (found p) rest))
    ∙ ap (λ ps. done ++ kept_unless excludes (found_all answers ps)) (sym (drop_item includes i p lt is))
    ∙ inv

pub has-append : (x : List ℕ) (xs ys : List (List ℕ)) → has_name x (xs ++ ys) ≡ (has_name x xs || has_name x ys)
has-append x [] ys = refl
has-append x (y ∷ xs) ys = by (same_text x y) (has-append x xs ys)
  where
    by : (b : Bool) → has_name x (xs ++ ys) ≡ (has_name x xs || has_name x ys) → (if b then true else has_name x (xs ++ ys)) ≡ ((if b then true else has_name x xs) || has_name x ys)
    by true e = refl
    by false e = e

or_turned : (a b : Bool) → (a || b) ≡ (b || a)
or_turned true true = refl
or_turned true false = refl
or_turned false true = refl
or_turned false false = refl

has_turned : (x : List ℕ) (xs : List (List ℕ)) → has_name x (reverse xs) ≡ has_name x xs
has_turned x [] = refl
has_turned x (y ∷ ys) =
    ap (has_name x) (reverse-append (y ∷ []) ys) ∙ has-append x (reverse ys) (y ∷ [])
    ∙ ap (λ b. b || (if same_text x y then true else false)) (has_turned x ys)
    ∙ or_turned (has_name x ys) (if same_text x y then true else false)
    ∙ by (same_text x y)
  where
    by : (b : Bool) → ((if b then true else false) || has_name x ys) ≡ (if b then true else has_name x ys)
    by true = refl
    by false = refl

-- a question that was looked up has an answer if one was found
pub is_answered : (found : Option (Bor (List (List ℕ)))) {o : Option (List (List ℕ))} → option_map (λ paths. paths.now) found ≡ o → is_some o ≡ is_some found
is_answered (Some paths) e = ap is_some (sym e)
is_answered None e = ap is_some (sym e)

pub unanswered_step : (answers : Answers) (patterns : List (List ℕ)) (i : ℕ) (p q : List ℕ) (done more whole : List (List ℕ)) → i < length patterns → p ≡ get_or patterns i p → q ≡ p
    → more ≡ with_unanswered q answers done → done ++ queries_without_result answers (reverse done) (drop i patterns) ≡ whole → more ++ queries_without_result answers (reverse more) (drop (i + 1) patterns) ≡ whole
unanswered_step answers patterns i p q done more whole lt is same m inv =
    let rest = drop (i + 1) patterns in
    let now : done ++ queries_without_result answers (reverse done) (p ∷ rest) ≡ whole = ap (λ ps. done ++ queries_without_result answers (reverse done) ps) (sym (drop_item patterns i p lt is)) ∙ inv in
    by (is_some (answer_to p answers) || has_name p done) rest (m ∙ ap (λ x. with_unanswered x answers done) same)
    (ap (λ b. done ++ (if is_some (answer_to p answers) || b then queries_without_result answers (reverse done) rest else p ∷ queries_without_result answers (p ∷ reverse done) rest)) (sym (has_turned p done)) ∙ now)
  where
    by : (b : Bool) (rest : List (List ℕ)) → more ≡ (if b then done else done ++ p ∷ []) → done ++ (if b then queries_without_result answers (reverse done) rest else p ∷ queries_without_result answers (p ∷ reverse done) rest) ≡ whole
        → more ++ queries_without_result answers (reverse more) rest ≡ whole
    by true rest e now = ap (λ l. l ++ queries_without_result answers (reverse l) rest) e ∙ now
    by false rest e now =
        ap (λ l. l ++ queries_without_result answers (reverse l) rest) e
        ∙ ap (λ l. (done ++ p ∷ []) ++ queries_without_result answers l rest) (reverse-append done (p ∷ []))
        ∙ append_assoc done (p ∷ []) (queries_without_result answers (p ∷ reverse done) rest)
        ∙ now
