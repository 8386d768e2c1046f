-- An evaluation continues by the answers to its globs.
use Rattle.std.proofs.Common.{◌≡◌, ℕ, suc, zero, ◌+◌, ◌-◌, ◌<◌, ◌≤◌, List, [], ◌∷◌, ◌++◌, Bool, length, drop, cond, refl, sym, ◌∙◌, ap, arith, length-append, length-drop}
use Rattle.std.specs.Prelude.{nat_lt, zip}
use Rattle.std.proofs.lemmas.Bool.{le-ltb, lt-ltb}
use Rattle.std.proofs.lemmas.List.{drop-append-le}
use Rattle.engine_semantics.specs.Reply.{Reply, Ask}
use Rattle.evaluator_semantics.specs.Environment.{Env}
use Rattle.evaluator_semantics.specs.Laws.{with_answers}
use Rattle.evaluator_semantics.specs.Files.{Outcome, a_module, a_package, a_need, a_fault, evaluate}
use Rattle.evaluator_semantics.proofs.MoreStatements.{needs_asked}
use Rattle.functions_directories.specs.Globs.{glob_key}
use Rattle.keys.specs.declared.key.Key.{Key}
use Rattle.keys.specs.declared.value.Value.{Value}
use Rattle.functions.specs.Goes.{turn_after_answers}
use Rattle.functions.specs.Once.{once_behind}
use Rattle.functions.specs.Sources.{glob_keys, glob_group, with_paths, value_or_group, goes_on, rounds}
use Rattle.functions.proofs.Further.{paths_more}

abbrev asking : List Key → Reply Key Value
asking group = Ask group

-- ---- a group that is asked is not empty

some_one : (k : Key) (keys : List Key) → 0 < length (k ∷ keys)
some_one k keys = omega arith

pub some_group : (env : Env) (patterns : List (List ℕ)) → evaluate env ≡ a_need patterns → 0 < length (glob_group env.package_name patterns)
some_group env [] e = absurd ((needs_asked env [] e).some refl)
some_group env (p ∷ patterns) e = let first = glob_key env.package_name p in some_one first (once_behind (first ∷ []) (glob_keys env.package_name patterns))

-- ---- a round

module _ (more : Env → List Value → Reply Key Value) (env : Env) (patterns : List (List ℕ)) (answers : List Value) where
  abbrev either : Bool → Reply Key Value
  either b = cond b (asking (glob_group env.package_name patterns)) (more (with_paths env patterns answers) (drop (length (glob_group env.package_name patterns)) answers))

  too_few : length answers < length (glob_group env.package_name patterns) → goes_on more env (a_need patterns) answers ≡ Ask (glob_group env.package_name patterns)
  too_few h = ap either (lt-ltb (length answers) (length (glob_group env.package_name patterns)) h)

  enough : length (glob_group env.package_name patterns) ≤ length answers
      → goes_on more env (a_need patterns) answers ≡ more (with_paths env patterns answers) (drop (length (glob_group env.package_name patterns)) answers)
  enough h = ap either (le-ltb (length answers) (length (glob_group env.package_name patterns)) h)

-- ---- as many rounds as there are answers are enough

last_round : (n : ℕ) (env : Env) (o : Outcome) → evaluate env ≡ o → value_or_group env o ≡ goes_on (λ e a. rounds n e a) env o []
last_round n env (a_module loaded) e = refl
last_round n env (a_package targets) e = refl
last_round n env (a_fault code site) e = refl
last_round n env (a_need patterns) e = sym (too_few (λ e a. rounds n e a) env patterns [] (some_group env patterns e))

like_rounds : (n m : ℕ) → ((env : Env) (answers : List Value) → length answers ≤ n → length answers ≤ m → rounds n env answers ≡ rounds m env answers)
    → (env : Env) (o : Outcome) → evaluate env ≡ o → (answers : List Value) → length answers ≤ suc n → length answers ≤ suc m
    → goes_on (λ e a. rounds n e a) env o answers ≡ goes_on (λ e a. rounds m e a) env o answers
like_rounds n m same env (a_module loaded) e answers hn hm = refl
like_rounds n m same env (a_package targets) e answers hn hm = refl
like_rounds n m same env (a_fault code site) e answers hn hm = refl
like_rounds n m same env (a_need patterns) e answers hn hm =
    let group = glob_group env.package_name patterns in
    let some : 0 < length group = some_group env patterns e in
    let rest = drop (length group) answers in
    let fewer : length rest ≡ length answers - length group = length-drop (length group) answers in
    ap (λ r. cond (nat_lt (length answers) (length group)) (asking group) r) (same (with_paths env patterns answers) rest (omega (arith, some, fewer, hn)) (omega (arith, some, fewer, hm)))

pub same_rounds : (n m : ℕ) (env : Env) (answers : List Value) → length answers ≤ n → length answers ≤ m → rounds n env answers ≡ rounds m env answers
same_rounds zero zero env answers hn hm = refl
same_rounds zero (suc m) env [] hn hm = last_round m env (evaluate env) refl
same_rounds zero (suc m) env (x ∷ xs) hn hm = absurd (omega (arith, hn))
same_rounds (suc n) zero env [] hn hm = sym (last_round n env (evaluate env) refl)
same_rounds (suc n) zero env (x ∷ xs) hn hm = absurd (omega (arith, hm))
same_rounds (suc n) (suc m) env answers hn hm = like_rounds n m (same_rounds n m) env (evaluate env) refl answers hn hm

-- ---- what the answers lead to

-- a group that is not answered is asked
pub led_to_group : (env : Env) (patterns : List (List ℕ)) (answers : List Value) → evaluate env ≡ a_need patterns → length answers < length (glob_group env.package_name patterns)
    → turn_after_answers env answers ≡ Ask (glob_group env.package_name patterns)
led_to_group env patterns [] e h = ap (value_or_group env) e
led_to_group env patterns (x ∷ xs) e h = ap (λ o. goes_on (λ e a. rounds (length xs) e a) env o (x ∷ xs)) e ∙ too_few (λ e a. rounds (length xs) e a) env patterns (x ∷ xs) h

-- a group that is answered gives its paths, and those after it lead on
pub led_further : (env : Env) (patterns : List (List ℕ)) (answers more : List Value) → evaluate env ≡ a_need patterns → length (glob_group env.package_name patterns) ≤ length answers
    → turn_after_answers env (answers ++ more) ≡ turn_after_answers (with_paths env patterns answers) (drop (length (glob_group env.package_name patterns)) answers ++ more)
led_further env patterns answers more e h =
    let group = glob_group env.package_name patterns in
    let some : 0 < length group = some_group env patterns e in
    let all = answers ++ more in
    let rest = drop (length group) answers ++ more in
    let size : length all ≡ length answers + length more = length-append answers more in
    let k = length all - 1 in
    let one : length all ≡ suc k = omega (arith, some, size, h) in
    let left : length rest ≡ length (drop (length group) answers) + length more = length-append (drop (length group) answers) more in
    let fewer : length rest ≤ k = omega (arith, some, size, h, left, length-drop (length group) answers) in
    let next : ℕ → Env → List Value → Reply Key Value = λ n e a. rounds n e a in
    ap (λ n. next n env all) one
    ∙ ap (λ o. goes_on (next k) env o all) e
    ∙ enough (next k) env patterns all (omega (arith, size, h))
    ∙ (λ i. next k (with_answers (env.globs ++ zip patterns (paths_more group (glob_keys env.package_name patterns) answers more h i)) env) (drop-append-le (length group) answers more h i))
    ∙ same_rounds k (length rest) (with_paths env patterns answers) rest fewer (omega arith)
