-- A call whose arguments give each parameter one value: its parameters have the values that their places give.
use Rattle.std.proofs.Common.{◌≡◌, ◌<◌, ◌≤◌, ◌+◌, ◌-◌, ◌++◌, ℕ, zero, suc, Bool, true, false, not, cond, List, [], ◌∷◌, length, get_or, take, drop, drop-cons, map, Option, Some, None, is_some, refl, ap, sym, subst, ◌∙◌, arith}
use Rattle.std.specs.Prelude.{slice_get, nat_lt, nat_eq, zip}
use Rattle.std.specs.Arc.{arc_value}
use Rattle.std.specs.Map.{lookup}
use Rattle.std.specs.List.{list_all}
use Rattle.std.proofs.lemmas.Bool.{and_parts, not-true}
use Rattle.std.proofs.lemmas.Bool.Decides.{nat_tests}
use Rattle.std.proofs.lemmas.List.{drop_all, get_or-take, get_or-drop, get_or-map, length-map, length-take-le, length-drop}
use Rattle.std.proofs.lemmas.Option.{slice_get-get_or, slice_get_past}
use Rattle.values_semantics.specs.declared.val.Val.{Val}
use Rattle.values_semantics.specs.declared.val.Val.TheVariants as v
use Rattle.values_semantics.specs.Outcome.{good, bad, then_checked, or_bad}
use Rattle.values_semantics.specs.Functions.{KeywordArguments, is_named, is_twice}
use Rattle.syntax_tree.specs.Tree as t
use Rattle.syntax_tree.specs.Tree.{Pa, Bound}
use Rattle.syntax_tree.specs.declared.def.Param.{Param}
use Rattle.syntax_tree.specs.declared.def.Def.{Def}
use Rattle.syntax_tree.specs.Bindings.{names_once, suite_names}
use Rattle.syntax_tree.specs.Statements.{param_of, fn_of}
use Rattle.syntax_tree.specs.Requirements.{AreRequired, has_value}
use Rattle.syntax_grammar.specs.Targets.{is_bound}
use Rattle.evaluator_semantics.specs.World.{Block}
use Rattle.evaluator_semantics.specs.Names.{or_else, all_unbound}
use Rattle.evaluator_semantics.specs.Arguments.{value_named, first_of_list, next_default, other_defaults, with_parameter, parameter_block, are_parameters, arguments}
use Rattle.evaluator_state.specs.declared.sparse.SparseBlock.{SparseBlock}
use Rattle.evaluator_state.specs.declared.state.Block.TheVariants.{Sparse}
use Rattle.evaluator_state.specs.Sparse.{given_by, given_at, named_at, argument_at, value_at, valued}
use Rattle.evaluator_calls.specs.View.{IsEntered}
use Rattle.evaluator_calls.specs.SparseCalls.{AreGiven, NoneNamed, AllNamed}
use Rattle.evaluator_calls.proofs.Accepts.{named_some, arguments_known}

abbrev Valuation : Type 0
Valuation = List ℕ → ℕ → Option Val

-- each parameter from a place on has the value that the arguments give it
abbrev Fits : Valuation → ℕ → List Pa → List Val → KeywordArguments → List Val → Type 0
Fits g k [] [] ns ds = Unit {0}
Fits g k [] (x ∷ xs) ns ds = ⊥
Fits g k (p ∷ ps) (x ∷ xs) ns ds = (is_named p.name ns ≡ false) × (g p.name k ≡ Some x) × Fits g (suc k) ps xs ns (other_defaults p ds)
Fits g k (p ∷ ps) [] ns ds = (g p.name k ≡ or_else (value_named p.name ns) (next_default p ds)) × (is_some (g p.name k) ≡ true) × Fits g (suc k) ps [] ns (other_defaults p ds)

-- what is left of a call where a parameter has no positional argument
by_name : (p : Pa) (o e : Option Val) (k : ℕ) (rest : Block) → e ≡ o → is_some e ≡ true → then_checked (or_bad 25 o) (λ x. with_parameter p x (good rest)) ≡ good ((p.name, e) ∷ rest)
by_name p None e k rest is some = absurd (none_is_some e is some)
  where
    none_is_some : (e : Option Val) → e ≡ None → is_some e ≡ true → ⊥
    none_is_some None is some = cc
    none_is_some (Some x) is some = cc
by_name p (Some x) e k rest is some = ap (λ o. good ((p.name, o) ∷ rest)) (sym is)

filled : (g : Valuation) (k : ℕ) (ps : List Pa) (plain : List Val) (ns : KeywordArguments) (ds : List Val) → Fits g k ps plain ns ds → parameter_block ps plain ns ds ≡ good (valued g k (map (λ p. p.name) ps))
filled g k [] [] ns ds fits = refl
filled g k [] (x ∷ xs) ns ds fits = absurd fits
filled g k (p ∷ ps) (x ∷ xs) ns ds fits =
    let rest = parameter_block ps xs ns (other_defaults p ds) in
    ap (λ b. cond b (bad 25) (with_parameter p x rest)) fits.0
    ∙ ap (with_parameter p x) (filled g (suc k) ps xs ns (other_defaults p ds) fits.2)
    ∙ ap (λ o. good ((p.name, o) ∷ valued g (suc k) (map (λ p. p.name) ps))) (sym fits.1)
filled g k (p ∷ ps) [] ns ds fits =
    let o = or_else (value_named p.name ns) (next_default p ds) in
    ap (λ rest. then_checked (or_bad 25 o) (λ x. with_parameter p x rest)) (filled g (suc k) ps [] ns (other_defaults p ds) fits.2)
    ∙ by_name p o (g p.name k) k (valued g (suc k) (map (λ p. p.name) ps)) fits.0 fits.1

same_bound : (b : Bound) → is_bound b ≡ has_value b
same_bound t.no_bound = refl
same_bound (t.bound e) = refl

-- a test that holds of all holds of the one at a place
all_at : (q : Pa → Bool) (ps : List Pa) (i : ℕ) (d : Pa) → list_all q ps ≡ true → i < length ps → q (get_or ps i d) ≡ true
all_at q [] i d h lt = absurd (omega arith)
all_at q (p ∷ ps) zero d h lt = (and_parts (q p) (list_all q ps) h).0
all_at q (p ∷ ps) (suc i) d h lt = all_at q ps i d (and_parts (q p) (list_all q ps) h).1 (omega arith)

first_got : (ds : List Val) (i : ℕ) → first_of_list (drop i ds) ≡ slice_get ds i
first_got [] zero = refl
first_got [] (suc i) = refl
first_got (x ∷ xs) zero = refl
first_got (x ∷ xs) (suc i) = first_got xs i

next_drop : (i : ℕ) (ds : List Val) → drop 1 (drop i ds) ≡ drop (suc i) ds
next_drop zero ds = refl
next_drop (suc i) [] = refl
next_drop (suc i) (x ∷ xs) = next_drop i xs

either_way : {X : Type 0} → (k r : ℕ) → (k < r → X) → (r ≤ k → X) → X
either_way zero zero a b = b (omega arith)
either_way zero (suc r) a b = a (omega arith)
either_way (suc k) zero a b = b (omega arith)
either_way (suc k) (suc r) a b = either_way k r (λ h. a (omega (arith, h))) (λ h. b (omega (arith, h)))

or_some : (o a b : Option Val) → is_some o ≡ true → or_else o a ≡ or_else o b
or_some None a b e = cc
or_some (Some x) a b e = refl

some_first : (o a : Option Val) → is_some o ≡ true → is_some (or_else o a) ≡ true
some_first None a e = cc
some_first (Some x) a e = refl

some_second : (o : Option Val) (x : Val) → is_some (or_else o (Some x)) ≡ true
some_second None x = refl
some_second (Some y) x = refl

module _ (all : List Pa) (plain : List Val) (ns : KeywordArguments) (ds : List Val) (r : ℕ) (needed : AreRequired r all) (given : AreGiven all r (length plain) ns (length ds)) where
  abbrev g : Valuation
  g = given_at (length all) plain ns ds r

  no_default : (k : ℕ) (d : Pa) → k < r → is_bound (get_or all k d).default ≡ false
  no_default k d lt =
      let within : k < length (take r all) = omega (arith, length-take-le r all given.within, lt) in
      let here = all_at (λ p. not (has_value p.default)) (take r all) k d needed.plain within in
      same_bound (get_or all k d).default ∙ not-true (has_value (get_or all k d).default) (ap (λ (p : Pa). not (has_value p.default)) (sym (get_or-take r all k d lt)) ∙ here)

  a_default : (k : ℕ) (d : Pa) → r ≤ k → k < length all → is_bound (get_or all k d).default ≡ true
  a_default k d le lt =
      let within : k - r < length (drop r all) = omega (arith, length-drop r all, le, lt) in
      let place : r + (k - r) ≡ k = omega (arith, le) in
      let here = all_at (λ p. has_value p.default) (drop r all) (k - r) d needed.others within in
      same_bound (get_or all k d).default ∙ ap (λ (p : Pa). has_value p.default) (sym (get_or-drop r all (k - r) d ∙ ap (λ i. get_or all i d) place)) ∙ here

  -- the defaults behind a parameter
  behind : (k : ℕ) (d : Pa) → k < length all → other_defaults (get_or all k d) (drop (k - r) ds) ≡ drop (suc k - r) ds
  behind k d lt =
      let left = drop (k - r) ds in
      either_way k r
      (λ h. let same : k - r ≡ suc k - r = omega (arith, h) in ap (λ b. cond b (drop 1 left) left) (no_default k d h) ∙ ap (λ i. drop i ds) same)
      (λ h. let next : suc (k - r) ≡ suc k - r = omega (arith, h) in ap (λ b. cond b (drop 1 left) left) (a_default k d h lt) ∙ next_drop (k - r) ds ∙ ap (λ i. drop i ds) next)

  is_below : (k : ℕ) → k < length all → nat_lt k (length all) ≡ true
  is_below k lt = grind (arith, nat_tests, lt)

  value_plain : (k : ℕ) (x : List ℕ) (y : Val) → k < length plain → g x k ≡ Some (get_or plain k y)
  value_plain k x y lt =
      let other = or_else (value_named x ns) (slice_get ds (k - r)) in
      ap (λ b. cond b (or_else (slice_get plain k) other) None) (is_below k (omega (arith, lt, given.short))) ∙ ap (λ o. or_else o other) (slice_get-get_or plain k y lt)

  value_left : (k : ℕ) (x : List ℕ) → length plain ≤ k → k < length all → g x k ≡ or_else (value_named x ns) (slice_get ds (k - r))
  value_left k x le lt =
      let other = or_else (value_named x ns) (slice_get ds (k - r)) in
      ap (λ b. cond b (or_else (slice_get plain k) other) None) (is_below k lt) ∙ ap (λ o. or_else o other) (slice_get_past plain k le)

  value_behind : (k : ℕ) (d : Pa) → length plain ≤ k → k < length all → g (get_or all k d).name k ≡ or_else (value_named (get_or all k d).name ns) (next_default (get_or all k d) (drop (k - r) ds))
  value_behind k d le lt =
      let p = get_or all k d in
      value_left k p.name le lt
      ∙ either_way k r
      (λ h. or_some (value_named p.name ns) (slice_get ds (k - r)) (next_default p (drop (k - r) ds)) (given.named k le h d))
      (λ h. ap (or_else (value_named p.name ns)) (sym (ap (λ b. cond b (first_of_list (drop (k - r) ds)) None) (a_default k d h lt) ∙ first_got ds (k - r))))

  value_some : (k : ℕ) (d : Pa) → length plain ≤ k → k < length all → is_some (g (get_or all k d).name k) ≡ true
  value_some k d le lt =
      let p = get_or all k d in
      ap is_some (value_left k p.name le lt)
      ∙ either_way k r
      (λ h. some_first (value_named p.name ns) (slice_get ds (k - r)) (given.named k le h d))
      (λ h.
      let within : k - r < length ds = omega (arith, given.enough, h, lt) in
      ap (λ o. is_some (or_else (value_named p.name ns) o)) (slice_get-get_or ds (k - r) v.Nothing within) ∙ some_second (value_named p.name ns) (get_or ds (k - r) v.Nothing))

  fits_from : (n k : ℕ) (d : Pa) → k + n ≡ length all → Fits g k (drop k all) (drop k plain) ns (drop (k - r) ds)
  fits_from zero k d e =
      let none : drop k all ≡ [] = drop_all k all (omega (arith, e)) in
      let over : drop k plain ≡ [] = drop_all k plain (omega (arith, e, given.short)) in
      rw (none, over) tt
  fits_from (suc n) k d e =
      let p = get_or all k d in
      let lt : k < length all = omega (arith, e) in
      let next : drop k all ≡ p ∷ drop (suc k) all = drop-cons all k d lt in
      let rest = subst (λ left. Fits g (suc k) (drop (suc k) all) (drop (suc k) plain) ns left) (sym (behind k d lt)) (fits_from n (suc k) d (omega (arith, e))) in
      either_way k (length plain)
      (λ h. rw (next, drop-cons plain k v.Nothing h) (named_some p.name ns ∙ given.unnamed k (omega arith) h d, value_plain k p.name v.Nothing h, rest))
      (λ h.
      let over : drop k plain ≡ [] = drop_all k plain h in
      let still : drop (suc k) plain ≡ [] = drop_all (suc k) plain (omega (arith, h)) in
      rw (next, over) (value_behind k d h lt, value_some k d h lt, rw still at rest))

  no_one : Pa
  no_one = record { name = []; default = t.no_bound }

  pub all_filled : parameter_block all plain ns ds ≡ good (valued g 0 (map (λ p. p.name) all))
  all_filled =
      let whole : drop (0 - r) ds ≡ ds = (let none : 0 - r ≡ 0 = omega arith in ap (λ i. drop i ds) none) in
      filled g 0 all plain ns ds (subst (λ left. Fits g 0 all plain ns left) whole (fits_from (length all) 0 no_one (omega arith)))

-- ---- ranges of parameters

pub none_more : (ps : List Param) (i : ℕ) (p : Param) (ns : KeywordArguments) → i < length ps → is_some (value_named (get_or ps i p).name ns) ≡ false → NoneNamed 0 i (map param_of ps) ns → NoneNamed 0 (i + 1) (map param_of ps) ns
none_more ps i p ns lt none before = λ j from below d.
    either_way j i
    (λ h. before j from h d)
    (λ h.
    let same : j ≡ i = omega (arith, h, below) in
    ap (λ n. is_some (value_named (get_or (map param_of ps) n d).name ns)) same ∙ ap (λ (q : Pa). is_some (value_named q.name ns)) (get_or-map param_of ps i p d lt) ∙ none)

pub one_more : (ps : List Param) (first i : ℕ) (p : Param) (ns : KeywordArguments) → i < length ps → is_some (value_named (get_or ps i p).name ns) ≡ true → AllNamed first i (map param_of ps) ns → AllNamed first (i + 1) (map param_of ps) ns
one_more ps first i p ns lt some before = λ j from below d.
    either_way j i
    (λ h. before j from h d)
    (λ h.
    let same : j ≡ i = omega (arith, h, below) in
    ap (λ n. is_some (value_named (get_or (map param_of ps) n d).name ns)) same ∙ ap (λ (q : Pa). is_some (value_named q.name ns)) (get_or-map param_of ps i p d lt) ∙ some)

-- ---- the block

valued_append : (f : Valuation) (i : ℕ) (xs ys : List (List ℕ)) → valued f i (xs ++ ys) ≡ valued f i xs ++ valued f (i + length xs) ys
valued_append f i [] ys = let none : i ≡ i + 0 = omega arith in ap (λ j. valued f j ys) none
valued_append f i (x ∷ xs) ys =
    let next : suc i + length xs ≡ i + suc (length xs) = omega arith in
    ap (λ l. (x, f x i) ∷ l) (valued_append f (suc i) xs ys ∙ ap (λ j. valued f (suc i) xs ++ valued f j ys) next)

valued_none : (f : Valuation) (i : ℕ) (xs : List (List ℕ)) → ((x : List ℕ) (j : ℕ) → i ≤ j → f x j ≡ None) → valued f i xs ≡ all_unbound xs
valued_none f i [] none = refl
valued_none f i (x ∷ xs) none = ap (λ o. (x, o) ∷ valued f (suc i) xs) (none x i (omega arith)) ∙ ap (λ l. (x, None) ∷ l) (valued_none f (suc i) xs (λ y j h. none y j (omega (arith, h))))

valued_same : (f g : Valuation) (i : ℕ) (xs : List (List ℕ)) → ((x : List ℕ) (j : ℕ) → f x j ≡ g x j) → valued f i xs ≡ valued g i xs
valued_same f g i [] same = refl
valued_same f g i (x ∷ xs) same = ap (λ o. (x, o) ∷ valued f (suc i) xs) (same x i) ∙ ap (λ l. (x, g x i) ∷ l) (valued_same f g (suc i) xs same)

-- the parameters have what the call gives, and the other names are not bound
pub block_filled : (f : Valuation) (all : List Pa) (others names : List (List ℕ)) (plain : List Val) (ns : KeywordArguments) (ds : List Val) (r : ℕ) → names ≡ map (λ p. p.name) all ++ others → ((x : List ℕ) (j : ℕ) → f x j ≡ given_at (length all) plain ns ds r x j) → valued f 0 names ≡ valued (given_at (length all) plain ns ds r) 0 (map (λ p. p.name) all) ++ all_unbound others
block_filled f all others names plain ns ds r are same =
    let own = map (λ (p : Pa). p.name) all in
    let g = given_at (length all) plain ns ds r in
    let behind : 0 + length own ≡ length all = omega (arith, length-map all (λ (p : Pa). p.name)) in
    valued_same f g 0 names same ∙ ap (valued g 0) are ∙ valued_append g 0 own others
    ∙ ap (λ l. valued g 0 own ++ l) (ap (λ j. valued g j others) behind ∙ valued_none g (length all) others (λ x j h. ap (λ b. cond b (or_else (slice_get plain j) (or_else (value_named x ns) (slice_get ds (j - r)))) None) (not_below j h)))
  where
    not_below : (j : ℕ) → length all ≤ j → nat_lt j (length all) ≡ false
    not_below j h = grind (arith, nat_tests, h)

pub entered : (d : Def) (b : SparseBlock) (plain : List Val) (ns : KeywordArguments) (ds : List Val) → arc_value b.def ≡ d → b.positional.items ≡ plain → ((x : List ℕ) → named_at b x ≡ value_named x ns) → (arc_value b.defaults).items ≡ ds → b.bound.entries ≡ []
    → AreRequired b.required (fn_of d).params → AreGiven (fn_of d).params b.required (length plain) ns (length ds) → is_twice ns ≡ false → are_parameters ns (fn_of d).params ≡ true → IsEntered (fn_of d) (arguments (fn_of d) plain ns ds) (Sparse b)
entered d b plain ns ds called first others defaults none needed given once known =
    let all = (fn_of d).params in
    let own = map (λ (p : Pa). p.name) all in
    let bound = names_once own (suite_names (fn_of d).body) in
    let number : length (arc_value b.def).params.items ≡ length all = ap (λ (e : Def). length e.params.items) called ∙ sym (length-map d.params.items param_of) in
    record {
      parameters = valued (given_at (length all) plain ns ds b.required) 0 own;
      are = arguments_known (fn_of d) plain ns ds once known ∙ all_filled all plain ns ds b.required needed given;
      holds = block_filled (value_at b) all bound (arc_value b.def).names.items plain ns ds b.required (ap (λ (e : Def). e.names.items) called ∙ d.bound) (λ x j.
          ap (λ es. or_else (lookup (nat_eq j) es) (argument_at b x j)) none
          ∙ ap (λ n. given_by n b.positional.items (named_at b) (arc_value b.defaults).items b.required x j) number
          ∙ ap (λ l. given_by (length all) l (named_at b) (arc_value b.defaults).items b.required x j) first
          ∙ ap (λ o. given_by (length all) plain (λ _. o) (arc_value b.defaults).items b.required x j) (others x)
          ∙ ap (λ l. given_at (length all) plain ns l b.required x j) defaults);
    }
