-- The parameters that have their values, and those after them.
use Rattle.std.proofs.Common.{◌≡◌, ◌++◌, ◌+◌, ◌-◌, ◌<◌, ◌≤◌, ◌||◌, not, ℕ, zero, suc, Bool, true, false, cond, List, [], ◌∷◌, length, get_or, take, drop, drop-cons, length-drop, add-one, arith, Option, Some, is_some, refl, ap, sym, ◌∙◌, append_assoc}
use Rattle.std.proofs.lemmas.List.{take_all}
use Rattle.std.specs.Prelude.{zip, min, slice_get}
use Rattle.values_semantics.specs.declared.val.Val.{Val}
use Rattle.values_semantics.specs.declared.val.Val.TheVariants as v
use Rattle.values_semantics.specs.Outcome.{ValueOrFault, good, bad, then_checked}
use Rattle.values_semantics.specs.Comparing.{same_text}
use Rattle.values_semantics.specs.Functions.{KeywordArguments, is_named, is_twice}
use Rattle.syntax_tree.specs.Tree.{Pa, Fn}
use Rattle.evaluator_semantics.specs.World.{Block}
use Rattle.evaluator_semantics.specs.Arguments.{value_named, is_parameter, are_parameters, other_defaults, with_parameter, parameter_block, arguments}
use Rattle.evaluator_calls.specs.ParameterValue.{parameter_value}

-- a block before what is to come
abbrev pub before : Block → ValueOrFault Block → ValueOrFault Block
before b c = then_checked c (λ rest. good (b ++ rest))

named_test : (b : Bool) (x : Val) (o : Option Val) → cond b true (is_some o) ≡ is_some (cond b (Some x) o)
named_test true x o = refl
named_test false x o = refl

pub named_some : (x : List ℕ) (ns : KeywordArguments) → is_named x ns ≡ is_some (value_named x ns)
named_some x [] = refl
named_some x (n ∷ ns) = ap (λ b. cond (same_text x n.0) true b) (named_some x ns) ∙ named_test (same_text x n.0) n.1 (value_named x ns)

one_more : (b : Block) (p : Pa) (x : Val) (c : ValueOrFault Block) → before b (with_parameter p x c) ≡ before (b ++ (p.name, Some x) ∷ []) c
one_more b p x (good rest) = ap good (sym (append_assoc b ((p.name, Some x) ∷ []) rest))
one_more b p x (bad c) = refl

plainly : (t : Bool) (x y : Val) (p : Pa) (c : ValueOrFault Block) → cond t (bad 25) (good y) ≡ good x → cond t (bad 25) (with_parameter p y c) ≡ with_parameter p x c
plainly true x y p c e = cc
plainly false x y p c e = let same : y ≡ x = cc in ap (λ z. with_parameter p z c) same

-- the value of a parameter, and then those after it
pub given_more : (b : Block) (p : Pa) (ps : List Pa) (xs : List Val) (ns : KeywordArguments) (ds : List Val) (x : Val) → parameter_value p xs ns ds ≡ good x → before b (parameter_block (p ∷ ps) xs ns ds) ≡ before (b ++ (p.name, Some x) ∷ []) (parameter_block ps (drop 1 xs) ns (other_defaults p ds))
given_more b p ps [] ns ds x e = ap (λ c. before b (then_checked c (λ y. with_parameter p y (parameter_block ps [] ns (other_defaults p ds))))) e ∙ one_more b p x (parameter_block ps [] ns (other_defaults p ds))
given_more b p ps (y ∷ ys) ns ds x e = ap (λ c. before b c) (plainly (is_named p.name ns) x y p (parameter_block ps ys ns (other_defaults p ds)) e) ∙ one_more b p x (parameter_block ps ys ns (other_defaults p ds))

chosen : (f : Fn) (xs : List Val) (ns : KeywordArguments) (ds : List Val) (t u : Bool) → is_twice ns ≡ t → are_parameters ns f.params ≡ u → arguments f xs ns ds ≡ cond (t || not u) (bad 25) (parameter_block f.params xs ns ds)
unfolding arguments
chosen f xs ns ds t u e g = ap (λ b. cond (b || not (are_parameters ns f.params)) (bad 25) (parameter_block f.params xs ns ds)) e ∙ ap (λ b. cond (t || not b) (bad 25) (parameter_block f.params xs ns ds)) g

pub arguments_twice : (f : Fn) (xs : List Val) (ns : KeywordArguments) (ds : List Val) → is_twice ns ≡ true → arguments f xs ns ds ≡ bad 25
arguments_twice f xs ns ds e = chosen f xs ns ds true (are_parameters ns f.params) e refl

pub arguments_unknown : (f : Fn) (xs : List Val) (ns : KeywordArguments) (ds : List Val) → is_twice ns ≡ false → are_parameters ns f.params ≡ false → arguments f xs ns ds ≡ bad 25
arguments_unknown f xs ns ds e g = chosen f xs ns ds false false e g

pub arguments_known : (f : Fn) (xs : List Val) (ns : KeywordArguments) (ds : List Val) → is_twice ns ≡ false → are_parameters ns f.params ≡ true → arguments f xs ns ds ≡ parameter_block f.params xs ns ds
arguments_known f xs ns ds e g = chosen f xs ns ds false true e g

-- ---- named arguments, one after another

abbrev no_values : List Val
no_values = []

zip_none : (names : List (List ℕ)) → zip names no_values ≡ []
zip_none [] = refl
zip_none (n ∷ ns) = refl

pub zip_over : (i : ℕ) (names : List (List ℕ)) (values : List Val) → min (length names) (length values) ≤ i → zip (drop i names) (drop i values) ≡ []
zip_over zero [] values h = refl
zip_over zero (n ∷ ns) [] h = refl
zip_over zero (n ∷ ns) (x ∷ xs) h = absurd (omega arith)
zip_over (suc i) [] values h = refl
zip_over (suc i) (n ∷ ns) [] h = zip_none (drop i ns)
zip_over (suc i) (n ∷ ns) (x ∷ xs) h = zip_over i ns xs (omega arith)

pub zip_at : (i : ℕ) (names : List (List ℕ)) (values : List Val) (n : List ℕ) → i < min (length names) (length values) → n ≡ get_or names i n → zip (drop i names) (drop i values) ≡ (n, get_or values i v.Nothing) ∷ zip (drop (i + 1) names) (drop (i + 1) values)
zip_at i names values n lt is =
    let a : drop i names ≡ n ∷ drop (suc i) names = drop-cons names i n (omega arith) ∙ ap (λ m. m ∷ drop (suc i) names) (sym is) in
    let b : drop i values ≡ get_or values i v.Nothing ∷ drop (suc i) values = drop-cons values i v.Nothing (omega arith) in
    rw (add-one, a, b)

pub twice_here : (n : List ℕ) (y : Val) (ns all : KeywordArguments) → all ≡ (n, y) ∷ ns → is_some (value_named n ns) ≡ true → is_twice all ≡ true
twice_here n y ns all e f = ap is_twice e ∙ ap (λ b. cond b true (is_twice ns)) (named_some n ns ∙ f)

pub twice_behind : (n : List ℕ) (y : Val) (ns all : KeywordArguments) → all ≡ (n, y) ∷ ns → is_some (value_named n ns) ≡ false → is_twice ns ≡ is_twice all
twice_behind n y ns all e f = sym (ap is_twice e ∙ ap (λ b. cond b true (is_twice ns)) (named_some n ns ∙ f))

pub unknown_here : (n : List ℕ) (y : Val) (ns all : KeywordArguments) (ps : List Pa) → all ≡ (n, y) ∷ ns → is_parameter n ps ≡ false → are_parameters all ps ≡ false
unknown_here n y ns all ps e f = ap (λ l. are_parameters l ps) e ∙ ap (λ b. cond b (are_parameters ns ps) false) f

pub known_here : (n : List ℕ) (y : Val) (ns all : KeywordArguments) (ps : List Pa) → all ≡ (n, y) ∷ ns → is_parameter n ps ≡ true → are_parameters ns ps ≡ are_parameters all ps
known_here n y ns all ps e f = sym (ap (λ l. are_parameters l ps) e ∙ ap (λ b. cond b (are_parameters ns ps) false) f)

-- ---- the value of a parameter

plain_with : (p : Pa) (x : Val) (xs : List Val) (ns : KeywordArguments) (ds : List Val) (b : Bool) → is_some (value_named p.name ns) ≡ b → parameter_value p (x ∷ xs) ns ds ≡ cond b (bad 25) (good x)
plain_with p x xs ns ds b e = ap (λ t. cond t (bad 25) (good x)) (named_some p.name ns ∙ e)

pub taken_first : (p : Pa) (x : Val) (xs : List Val) (ns : KeywordArguments) (ds : List Val) (b : Bool) → Some x ≡ slice_get xs 0 → is_some (value_named p.name ns) ≡ b → parameter_value p xs ns ds ≡ cond b (bad 25) (good x)
taken_first p x [] ns ds b e f = absurd cc
taken_first p x (y ∷ ys) ns ds b e f = let same : y ≡ x = cc in plain_with p y ys ns ds b f ∙ ap (λ z. cond b (bad 25) (good z)) same

-- what a slice from a place to the end is
pub rest_all : {A : Type 0} → (n : ℕ) (xs : List A) → take (length xs - n) (drop n xs) ≡ drop n xs
rest_all n xs = take_all (length xs - n) (drop n xs) (rw length-drop (omega arith))
