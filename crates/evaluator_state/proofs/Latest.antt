-- The newest defaults of a name, and their place.
use Rattle.std.proofs.Common.{◌≡◌, ◌<◌, ◌≤◌, ◌+◌, ◌++◌, ℕ, zero, suc, Bool, true, false, cond, List, [], ◌∷◌, length, take, get_or, map, refl, ap, sym, subst, ◌∙◌, arith}
use Rattle.std.proofs.lemmas.Bool.Decides.{nat_tests}
use Rattle.std.proofs.lemmas.List.{reverse-append, map-append}
use Rattle.std.proofs.lemmas.Grind.{reverse_onto}
use Rattle.std.proofs.lemmas.Option.{slice_get_past, same_Some}
use Rattle.std.specs.Prelude.{not, nat_lt, position, reverse, slice_get, Option, Some, None, IfSome, IsSomeAnd}
use Rattle.std.specs.List.{position_or_len}
use lib.Pointwise.{bytes_decides}
use Rattle.std.specs.Arc.{arc_value}
use Rattle.values_semantics.specs.declared.val.Val.{Val}
use Rattle.values_semantics.specs.Comparing.{same_text}
use Rattle.indexmap.specs.IndexSet.{IndexSet}
use Rattle.evaluator_semantics.specs.Names.{has_name}
use Rattle.evaluator_semantics.specs.Environment.{values_named}
use Rattle.evaluator_state.specs.declared.state.FunctionDefaults.{FunctionDefaults}
use Rattle.evaluator_state.specs.Once.{differ}
use Rattle.evaluator_state.specs.Newest.{kept_of, kept_names, newest_first, values_in, values_at, Lists}
use Rattle.evaluator_state.proofs.Distinct.{differ_more}

one_more : (i : ℕ) → i + 1 ≡ suc i
one_more i = omega arith

one_before : (i : ℕ) → suc i ≡ 1 + i
one_before i = omega arith

take_more : (ks : List FunctionDefaults) (i : ℕ) (d : FunctionDefaults) → i < length ks → take (suc i) ks ≡ take i ks ++ get_or ks i d ∷ []
take_more [] i d lt = absurd (omega arith)
take_more (k ∷ ks) zero d lt = refl
take_more (k ∷ ks) (suc i) d lt = ap (λ l. k ∷ l) (take_more ks i d (omega arith))

take_next : (ks : List FunctionDefaults) (i : ℕ) (d : FunctionDefaults) → i < length ks → take (i + 1) ks ≡ take i ks ++ get_or ks i d ∷ []
take_next ks i d lt = ap (λ n. take n ks) (one_more i) ∙ take_more ks i d lt

pub names_behind : (ks : List FunctionDefaults) (k : FunctionDefaults) → kept_names (ks ++ k ∷ []) ≡ kept_names ks ++ k.function ∷ []
names_behind [] k = refl
names_behind (j ∷ ks) k = ap (λ l. j.function ∷ l) (names_behind ks k)

pub kept_next : (ks : List FunctionDefaults) (i : ℕ) (d : FunctionDefaults) → i < length ks → kept_names (take (i + 1) ks) ≡ kept_names (take i ks) ++ (get_or ks i d).function ∷ []
kept_next ks i d lt = ap kept_names (take_next ks i d lt) ∙ names_behind (take i ks) (get_or ks i d)

names_count : (ks : List FunctionDefaults) → length (kept_names ks) ≡ length ks
names_count [] = refl
names_count (k ∷ ks) = ap suc (names_count ks)

-- ---- the oldest one, after the others

abbrev has : List ℕ → List (List ℕ × List Val) → Bool
has x [] = false
has x (d ∷ ds) = cond (same_text x d.0) true (has x ds)

oldest : (ks : List FunctionDefaults) (k : FunctionDefaults) → newest_first (k ∷ ks) ≡ newest_first ks ++ kept_of k ∷ []
oldest ks k = ap (map kept_of) (reverse_onto ks k []) ∙ map-append kept_of (reverse ks) (k ∷ [])

has_append : (x : List ℕ) (ds : List (List ℕ × List Val)) (d : List ℕ × List Val) → has x (ds ++ d ∷ []) ≡ cond (same_text x d.0) true (has x ds)
has_append x [] d = refl
has_append x (e ∷ ds) d = ap (λ b. cond (same_text x e.0) true b) (has_append x ds d) ∙ swap (same_text x e.0) (same_text x d.0) (has x ds)
  where
    swap : (a b t : Bool) → cond a true (cond b true t) ≡ cond b true (cond a true t)
    swap true true t = refl
    swap true false t = refl
    swap false b t = refl

has_names : (x : List ℕ) (ks : List FunctionDefaults) → has x (newest_first ks) ≡ has_name x (kept_names ks)
has_names x [] = refl
has_names x (k ∷ ks) = ap (has x) (oldest ks k) ∙ has_append x (newest_first ks) (kept_of k) ∙ ap (λ b. cond (same_text x k.function) true b) (has_names x ks)

values_append : (x : List ℕ) (ds : List (List ℕ × List Val)) (d : List ℕ × List Val) → values_named x (ds ++ d ∷ []) ≡ cond (has x ds) (values_named x ds) (values_named x (d ∷ []))
values_append x [] d = refl
values_append x (e ∷ ds) d = ap (λ l. cond (same_text x e.0) e.1 l) (values_append x ds d) ∙ apart (same_text x e.0) (has x ds) e.1 (values_named x ds) (values_named x (d ∷ []))
  where
    apart : (a b : Bool) (l m n : List Val) → cond a l (cond b m n) ≡ cond (cond a true b) (cond a l m) n
    apart true b l m n = refl
    apart false b l m n = refl

values_oldest : (x : List ℕ) (k : FunctionDefaults) (ks : List FunctionDefaults) → values_named x (newest_first (k ∷ ks)) ≡ cond (has_name x (kept_names ks)) (values_named x (newest_first ks)) (cond (same_text x k.function) (arc_value k.values).items [])
values_oldest x k ks =
    ap (values_named x) (oldest ks k)
    ∙ values_append x (newest_first ks) (kept_of k)
    ∙ ap (λ b. cond b (values_named x (newest_first ks)) (cond (same_text x k.function) (arc_value k.values).items [])) (has_names x ks)

none_named : (x : List ℕ) (ks : List FunctionDefaults) → has_name x (kept_names ks) ≡ false → values_named x (newest_first ks) ≡ []
none_named x [] h = refl
none_named x (k ∷ ks) h =
    let n = neither (same_text x k.function) (has_name x (kept_names ks)) h in
    values_oldest x k ks
    ∙ ap (λ b. cond b (values_named x (newest_first ks)) (cond (same_text x k.function) (arc_value k.values).items [])) n.1
    ∙ ap (λ b. cond b (arc_value k.values).items []) n.0
  where
    neither : (a b : Bool) → cond a true b ≡ false → (a ≡ false) × (b ≡ false)
    neither true b e = cc
    neither false b e = (refl, e)

-- ---- where each name occurs once, the newest is at the place of the name

first_of : (a b : Bool) → cond a false b ≡ true → a ≡ false
first_of true b e = sym e
first_of false b e = refl

rest_of : (a b : Bool) → cond a false b ≡ true → b ≡ true
rest_of true b e = cc
rest_of false b e = e

-- the values of the function at a place
abbrev held_at : List FunctionDefaults → ℕ → List Val
held_at ks i = values_in (slice_get ks i)

behind : (x : List ℕ) (k : FunctionDefaults) (ks : List FunctionDefaults) (a : ℕ) (b : Bool) → has_name x (kept_names ks) ≡ b → values_named x (newest_first ks) ≡ held_at ks a
    → cond b (values_named x (newest_first ks)) [] ≡ held_at (k ∷ ks) (1 + a)
behind x k ks a true e h = h ∙ ap (held_at (k ∷ ks)) (one_before a)
behind x k ks a false e h = sym (none_named x ks e) ∙ h ∙ ap (held_at (k ∷ ks)) (one_before a)

step : (x : List ℕ) (k : FunctionDefaults) (ks : List FunctionDefaults) (a : ℕ) (b : Bool) → same_text x k.function ≡ b → has_name k.function (kept_names ks) ≡ false → values_named x (newest_first ks) ≡ held_at ks a
    → cond (has_name x (kept_names ks)) (values_named x (newest_first ks)) (cond b (arc_value k.values).items []) ≡ held_at (k ∷ ks) (cond (not b) (1 + a) 0)
step x k ks a true e absent h =
    ap (λ t. cond t (values_named x (newest_first ks)) (arc_value k.values).items) (ap (λ y. has_name y (kept_names ks)) ((bytes_decides x k.function).0 e) ∙ absent)
step x k ks a false e absent h = behind x k ks a (has_name x (kept_names ks)) refl h

leads : (x : List ℕ) (ks : List FunctionDefaults) → differ (kept_names ks) ≡ true → values_named x (newest_first ks) ≡ held_at ks (position_or_len (same_text x) (kept_names ks))
leads x [] h = refl
leads x (k ∷ ks) h =
    let a = has_name k.function (kept_names ks) in
    let b = differ (kept_names ks) in
    values_oldest x k ks ∙ step x k ks (position_or_len (same_text x) (kept_names ks)) (same_text x k.function) refl (first_of a b h) (leads x ks (rest_of a b h))

past : (ks : List FunctionDefaults) (a : ℕ) → nat_lt a (length (kept_names ks)) ≡ false → length ks ≤ a
past ks a e = let count = names_count ks in grind (arith, nat_tests, count, e)

placed : (ks : List FunctionDefaults) (a : ℕ) (b : Bool) → nat_lt a (length (kept_names ks)) ≡ b → values_at ks (cond b (Some a) None) ≡ held_at ks a
placed ks a true e = refl
placed ks a false e = sym (ap values_in (slice_get_past ks a (past ks a e)))

pub at_name : (x : List ℕ) (ks : List FunctionDefaults) (o : Option ℕ) → differ (kept_names ks) ≡ true → o ≡ position (same_text x) (kept_names ks) → values_at ks o ≡ values_named x (newest_first ks)
at_name x ks o h e =
    let a = position_or_len (same_text x) (kept_names ks) in
    ap (values_at ks) e ∙ placed ks a (nat_lt a (length (kept_names ks))) refl ∙ sym (leads x ks h)

-- a set with one name more
pub lists_more : {S : Type 0} (ks : List FunctionDefaults) (k : FunctionDefaults) (now old : Option (IndexSet (List ℕ) S)) → Lists old ks
    → IfSome now (λ s. IsSomeAnd old (λ o. (has_name k.function o.keys ≡ false) × (s.keys ≡ o.keys ++ k.function ∷ []))) → Lists now (ks ++ k ∷ [])
lists_more ks k None old l h = λ x e. absurd cc
lists_more ks k (Some s) None l h = absurd h
lists_more {S} ks k (Some s) (Some o) l h = λ x e.
    let before = l o refl in
    let keys = h.1 ∙ ap (λ (l : List (List ℕ)). l ++ k.function ∷ []) before.0 ∙ sym (names_behind ks k) in
    let once = ap differ (names_behind ks k) ∙ differ_more (kept_names ks) k.function before.1 (ap (λ (l : List (List ℕ)). has_name k.function l) (sym before.0) ∙ h.0) in
    subst (λ (y : IndexSet (List ℕ) S). (y.keys ≡ kept_names (ks ++ k ∷ [])) × (differ (kept_names (ks ++ k ∷ [])) ≡ true)) (same_Some s x e) (keys, once)
