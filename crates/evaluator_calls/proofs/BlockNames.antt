-- The names in the block of a call are those of the function.
use Rattle.std.proofs.Common.{◌≡◌, ◌++◌, ℕ, List, [], ◌∷◌, Bool, true, false, cond, Some, length, map, drop, suc, refl, ap, sym, ◌∙◌, ◌||◌, not}
use Rattle.values_semantics.specs.declared.val.Val.{Val}
use Rattle.values_semantics.specs.Outcome.{ValueOrFault, good, bad, then_checked, or_bad}
use Rattle.values_semantics.specs.Functions.{KeywordArguments, is_named, is_twice}
use Rattle.syntax_tree.specs.Tree.{Pa, Fn}
use Rattle.syntax_tree.specs.Suites.{param_of}
use Rattle.syntax_tree.specs.declared.def.Param.{Param}
use Rattle.evaluator_semantics.specs.World.{Block}
use Rattle.evaluator_semantics.specs.Names.{all_unbound, or_else}
use Rattle.evaluator_semantics.specs.Arguments.{value_named, are_parameters, next_default, other_defaults, with_parameter, parameter_block, arguments}
use Rattle.evaluator_state.specs.View.{slot_of}
use Rattle.evaluator_state.specs.Once.{names_in}
use Rattle.evaluator_state.specs.declared.state.Slot.{Slot}

abbrev pub firsts : Block → List (List ℕ)
firsts b = map (λ s. s.0) b

abbrev pub own_names : List Pa → List (List ℕ)
own_names ps = map (λ p. p.name) ps

pub names_held : (slots : List Slot) → names_in slots ≡ firsts (map slot_of slots)
names_held [] = refl
names_held (s ∷ ss) = ap (λ l. s.name ∷ l) (names_held ss)

pub firsts_append : (b c : Block) → firsts (b ++ c) ≡ firsts b ++ firsts c
firsts_append [] c = refl
firsts_append (s ∷ b) c = ap (λ l. s.0 ∷ l) (firsts_append b c)

pub firsts_unbound : (xs : List (List ℕ)) → firsts (all_unbound xs) ≡ xs
firsts_unbound [] = refl
firsts_unbound (x ∷ xs) = ap (λ l. x ∷ l) (firsts_unbound xs)

more : (p : Pa) (x : Val) (ps : List Pa) (out : ValueOrFault Block) (b : Block) → ((c : Block) → out ≡ good c → firsts c ≡ own_names ps) → with_parameter p x out ≡ good b → firsts b ≡ own_names (p ∷ ps)
more p x ps (good c) b h e = let same : (p.name, Some x) ∷ c ≡ b = cc in ap firsts (sym same) ∙ ap (λ l. p.name ∷ l) (h c refl)
more p x ps (bad c) b h e = cc

one_of_plain : (p : Pa) (x : Val) (ps : List Pa) (t : Bool) (out : ValueOrFault Block) (b : Block) → ((c : Block) → out ≡ good c → firsts c ≡ own_names ps) → cond t (bad 25) (with_parameter p x out) ≡ good b → firsts b ≡ own_names (p ∷ ps)
one_of_plain p x ps true out b h e = cc
one_of_plain p x ps false out b h e = more p x ps out b h e

one_by_name : (p : Pa) (ps : List Pa) (o : ValueOrFault Val) (out : ValueOrFault Block) (b : Block) → ((c : Block) → out ≡ good c → firsts c ≡ own_names ps) → then_checked o (λ x. with_parameter p x out) ≡ good b → firsts b ≡ own_names (p ∷ ps)
one_by_name p ps (good x) out b h e = more p x ps out b h e
one_by_name p ps (bad c) out b h e = cc

given_names : (ps : List Pa) (xs : List Val) (ns : KeywordArguments) (ds : List Val) (b : Block) → parameter_block ps xs ns ds ≡ good b → firsts b ≡ own_names ps
given_names [] [] ns ds b e = let same : [] ≡ b = cc in ap firsts (sym same)
given_names [] (x ∷ xs) ns ds b e = cc
given_names (p ∷ ps) (x ∷ xs) ns ds b e = one_of_plain p x ps (is_named p.name ns) (parameter_block ps xs ns (other_defaults p ds)) b (λ c. given_names ps xs ns (other_defaults p ds) c) e
given_names (p ∷ ps) [] ns ds b e = one_by_name p ps (or_bad 25 (or_else (value_named p.name ns) (next_default p ds))) (parameter_block ps [] ns (other_defaults p ds)) b (λ c. given_names ps [] ns (other_defaults p ds) c) e

pub arguments_names : (f : Fn) (xs : List Val) (ns : KeywordArguments) (ds : List Val) (b : Block) → arguments f xs ns ds ≡ good b → firsts b ≡ own_names f.params
unfolding arguments
arguments_names f xs ns ds b e = go (is_twice ns || not (are_parameters ns f.params)) e
  where
    go : (t : Bool) → cond t (bad 25) (parameter_block f.params xs ns ds) ≡ good b → firsts b ≡ own_names f.params
    go true h = cc
    go false h = given_names f.params xs ns ds b h

drop_front : (xs ys : List (List ℕ)) → drop (length xs) (xs ++ ys) ≡ ys
drop_front [] ys = refl
drop_front (x ∷ xs) ys = drop_front xs ys

-- after the names of the parameters are the others
pub others_behind : (own others all : List (List ℕ)) (n : ℕ) → n ≡ length own → all ≡ own ++ others → drop n all ≡ others
others_behind own others all n k e = ap (λ i. drop i all) k ∙ ap (λ l. drop (length own) l) e ∙ drop_front own others

lengths : (ps : List Param) → length ps ≡ length (own_names (map param_of ps))
lengths [] = refl
lengths (p ∷ ps) = ap suc (lengths ps)

-- the names of a block: those of the parameters, and after them the others
pub names_filled : (ps : List Param) (others all : List (List ℕ)) (old new : List Slot) (n : ℕ) → all ≡ own_names (map param_of ps) ++ others → firsts (map slot_of old) ≡ own_names (map param_of ps)
    → map slot_of new ≡ map slot_of old ++ all_unbound (drop n all) → n ≡ length ps → names_in new ≡ all
names_filled ps others all old new n is begins made k =
    let own = own_names (map param_of ps) in
    names_held new ∙ ap firsts made ∙ firsts_append (map slot_of old) (all_unbound (drop n all))
    ∙ ap (λ l. l ++ firsts (all_unbound (drop n all))) begins
    ∙ ap (λ l. own ++ l) (firsts_unbound (drop n all) ∙ others_behind own others all n (k ∙ lengths ps) is)
    ∙ sym is
