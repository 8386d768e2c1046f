-- What the functions read is what the grammar relates: expressions.
use Rattle.std.proofs.Common.{◌≡◌, ◌∙◌, ℕ, zero, suc, List, [], ◌∷◌, ◌++◌, length, Bool, true, false, cond, Option, Some, None, refl, sym, ap, subst, arith}
use Rattle.std.specs.Prelude.{◌&&◌}
use Rattle.std.proofs.lemmas.Bool.{and_parts, false≢true}
use Rattle.syntax_tokens.specs.declared.symbol.Symbol.{Symbol}
use Rattle.syntax_tokens.specs.declared.symbol.Symbol.TheVariants as s
use Rattle.syntax_tokens.specs.Token.{Tok, name, int, string, symbol, Lex}
use Rattle.syntax_tree.specs.declared.expr.BinaryOp.{BinaryOp}
use Rattle.syntax_tree.specs.Tree as t
use Rattle.syntax_tree.specs.Tree.{Ex, Bound, Cl}
use Rattle.syntax_tree.specs.View.{exs_of}
use Rattle.syntax_grammar.specs.declared.kind.Kind.TheVariants as k
use Rattle.syntax_grammar.specs.declared.kind.Rank.{Rank}
use Rattle.syntax_grammar.specs.declared.kind.Rank.TheVariants as r
use Rattle.syntax_grammar.specs.Front.{Part, Reading, gives, and_then, is_at, tail, expect, name_at, named, is_name, is_name_before}
use Rattle.syntax_grammar.specs.Targets.{is_target}
use Rattle.syntax_grammar.specs.Expressions.{Level, expr, conditional, or_test, and_test, not_test, comparison, comparison_at, Comparison, sum, term, unary, postfix, postfix_after, postfix_rest, chain, chain_after, operator_at, atom, atom_by, symbol_atom, in_parens, in_brackets, in_braces, items, items_after, entry, entries, entries_after, dict_after, Pairs, argument, plain_argument, arguments, arguments_so_far, arguments_after, Arguments, clauses, clauses_after, for_clause, target, targets, more_targets, targets_after, subscript, slice_from, upper_bound, method_call, call}
use Rattle.syntax_grammar.specs.Grammar as g
use Rattle.syntax_grammar.specs.Grammar.{IsToken, Is, IsCommaOrNone, IsOperator, IsCmpOp, IsTest, IsOr, IsAnd, IsNot, IsCmp, IsSum, IsTerm, IsUnary, IsPostfix, IsBound, IsArgs, IsSomeArgs, IsAtom, IsItems, IsTests, IsEntries, IsSomeEntries, IsClauses, IsTargets, IsSomeTargets, IsTarget}
use Rattle.syntax_grammar.proofs.Starts.{is_next, name_next}
use Rattle.syntax_grammar.proofs.Steps.{token_counts}

-- what a function reads is of a nonterminal
abbrev pub Sound : {A : Type 0} → Reading A → (List Lex → A → List Lex → Type 0) → Type 0
Sound {A} f Is = (ts : List Lex) (p : Part A) → f ts ≡ Some p → Is ts p.value p.rest

pub record SoundLevel (l : Level) : Type 0 where
  pub test : Sound (l k.Test) IsTest
  pub or : Sound (l k.Or) IsOr
  pub not : Sound (l k.Not) IsNot
  pub unary : Sound (l k.Unary) IsUnary
  pub postfix : Sound (l k.Postfix) IsPostfix

-- ---- taking a reading apart

pub by_option : {A G : Type 0} (o : Option A) → (o ≡ None → G) → ((a : A) → o ≡ Some a → G) → G
by_option None f g = f refl
by_option (Some a) f g = g a refl

or_part : {A : Type 0} → A → Option A → A
or_part p None = p
or_part p (Some q) = q

pub some_is : {A : Type 0} {a b : A} → Some a ≡ Some b → a ≡ b
unfolding or_part
some_is {a} h = ap (or_part a) h

pub got : {A : Type 0} {a : A} {rest : List Lex} {p : Part A} (P : A → List Lex → Type 0) → gives a rest ≡ Some p → P a rest → P p.value p.rest
got P h x = subst (λ q. P q.value q.rest) (some_is h) x

-- the first of two readings, and the second after it
pub step : {A B G : Type 0} {p : Part B} (next : A → Reading B) (o : Option (Part A)) → and_then o next ≡ Some p → ((q : Part A) → o ≡ Some q → next q.value q.rest ≡ Some p → G) → G
step next None h f = cc
step next (Some q) h f = f q refl h

-- a test
pub test_of : {A G : Type 0} {x y : Option A} {p : A} (b : Bool) → cond b x y ≡ Some p → (b ≡ true → x ≡ Some p → G) → (b ≡ false → y ≡ Some p → G) → G
test_of true h f g = f refl h
test_of false h f g = g refl h

expected_if : {B G : Type 0} {p : Part B} (next : Unit {0} → Reading B) (ts : List Lex) (b : Bool) → and_then (cond b (gives tt (tail ts)) None) next ≡ Some p → (b ≡ true → next tt (tail ts) ≡ Some p → G) → G
expected_if next ts true h f = f refl h
expected_if next ts false h f = cc

-- a symbol that has to be there
pub expected : {B G : Type 0} {p : Part B} (next : Unit {0} → Reading B) (wanted : Symbol) (ts : List Lex) → and_then (expect wanted ts) next ≡ Some p → (Is wanted ts (tail ts) → next tt (tail ts) ≡ Some p → G) → G
expected next wanted ts h f = expected_if next ts (is_at wanted ts) h (λ is i. f (is_next wanted ts is) i)

named_if : {B G : Type 0} {p : Part B} (next : List ℕ → Reading B) (ts : List Lex) (o : Option (List ℕ)) → and_then (named o ts) next ≡ Some p → ((x : List ℕ) → o ≡ Some x → next x (tail ts) ≡ Some p → G) → G
named_if next ts None h f = cc
named_if next ts (Some x) h f = f x refl h

-- and a name
pub named_by : {B G : Type 0} {p : Part B} (next : List ℕ → Reading B) (ts : List Lex) → and_then (named (name_at ts) ts) next ≡ Some p → ((x : List ℕ) → IsToken (name x) ts (tail ts) → next x (tail ts) ≡ Some p → G) → G
named_by next ts h f = named_if next ts (name_at ts) h (λ x is i. f x (name_next x ts is) i)

-- ---- operators

is_operator : (rank : Rank) (op : BinaryOp) (ts : List Lex) → operator_at rank ts ≡ Some op → IsOperator rank op ts (tail ts)
unfolding operator_at
is_operator r.Or op ts h = test_of (is_at s.Or ts) h (λ is i. subst (λ o. IsOperator r.Or o ts (tail ts)) (some_is i) (g.is_or (is_next s.Or ts is))) (λ other i. cc)
is_operator r.And op ts h = test_of (is_at s.And ts) h (λ is i. subst (λ o. IsOperator r.And o ts (tail ts)) (some_is i) (g.is_and (is_next s.And ts is))) (λ other i. cc)
is_operator r.Sum op ts h =
    test_of (is_at s.Plus ts) h (λ is i. subst (λ o. IsOperator r.Sum o ts (tail ts)) (some_is i) (g.is_plus (is_next s.Plus ts is)))
    (λ other i. test_of (is_at s.Minus ts) i (λ is j. subst (λ o. IsOperator r.Sum o ts (tail ts)) (some_is j) (g.is_minus (is_next s.Minus ts is))) (λ other j. cc))
is_operator r.Term op ts h =
    test_of (is_at s.Star ts) h (λ is i. subst (λ o. IsOperator r.Term o ts (tail ts)) (some_is i) (g.is_star (is_next s.Star ts is)))
    (λ other i. test_of (is_at s.SlashSlash ts) i (λ is j. subst (λ o. IsOperator r.Term o ts (tail ts)) (some_is j) (g.is_slash_slash (is_next s.SlashSlash ts is)))
    (λ other j. test_of (is_at s.Percent ts) j (λ is k. subst (λ o. IsOperator r.Term o ts (tail ts)) (some_is k) (g.is_percent (is_next s.Percent ts is))) (λ other k. cc)))

abbrev Compares : List Lex → Comparison → Type 0
Compares ts c = IsCmpOp c.op ts c.rest

is_comparison : (c : Comparison) (ts : List Lex) → comparison_at ts ≡ Some c → Compares ts c
unfolding comparison_at
is_comparison c ts h =
    test_of (is_at s.EqualEqual ts) h (λ is i. subst (Compares ts) (some_is i) (g.is_equal (is_next s.EqualEqual ts is)))
    (λ o i. test_of (is_at s.NotEqual ts) i (λ is j. subst (Compares ts) (some_is j) (g.is_not_equal (is_next s.NotEqual ts is)))
    (λ o i. test_of (is_at s.Less ts) i (λ is j. subst (Compares ts) (some_is j) (g.is_less (is_next s.Less ts is)))
    (λ o i. test_of (is_at s.LessEqual ts) i (λ is j. subst (Compares ts) (some_is j) (g.is_less_equal (is_next s.LessEqual ts is)))
    (λ o i. test_of (is_at s.Greater ts) i (λ is j. subst (Compares ts) (some_is j) (g.is_greater (is_next s.Greater ts is)))
    (λ o i. test_of (is_at s.GreaterEqual ts) i (λ is j. subst (Compares ts) (some_is j) (g.is_greater_equal (is_next s.GreaterEqual ts is)))
    (λ o i. test_of (is_at s.In ts) i (λ is j. subst (Compares ts) (some_is j) (g.is_in (is_next s.In ts is)))
    (λ o i. test_of (is_at s.Not ts && is_at s.In (tail ts)) i
    (λ both j. let parts = and_parts (is_at s.Not ts) (is_at s.In (tail ts)) both in subst (Compares ts) (some_is j) (g.is_not_in (is_next s.Not ts parts.0) (is_next s.In (tail ts) parts.1)))
    (λ o j. cc))))))))

-- operands with operators of a rank between them
module _ (operand : Reading Ex) (rank : Rank) (Lower Upper : List Lex → Ex → List Lex → Type 0) (sound : Sound operand Lower)
    (one : (ts rest : List Lex) (e : Ex) → Lower ts e rest → Upper ts e rest)
    (more : (ts us vs rest : List Lex) (op : BinaryOp) (e f : Ex) → Upper ts e us → IsOperator rank op us vs → Lower vs f rest → Upper ts (t.binary op e f) rest) where
  chain_after_sound : (n : ℕ) (start us : List Lex) (e : Ex) (p : Part Ex) → Upper start e us → chain_after operand rank n e us ≡ Some p → Upper start p.value p.rest
  unfolding chain_after
  chain_after_sound zero start us e p d h = got (λ a rest. Upper start a rest) h d
  chain_after_sound (suc n) start us e p d h =
      by_option (operator_at rank us) (λ none. got (λ a rest. Upper start a rest) (rw (none, chain_after) at h) d)
      (λ op is. step _ (operand (tail us)) (rw (is, chain_after) at h)
      (λ q i j. chain_after_sound n start q.rest (t.binary op e q.value) p (more start us (tail us) q.rest op e q.value d (is_operator rank op us is) (sound (tail us) q i)) j))

  pub chain_sound : Sound (chain operand rank) Upper
  unfolding chain
  chain_sound ts p h = step _ (operand ts) h (λ q is i. chain_after_sound (length q.rest) ts q.rest q.value p (one ts q.rest q.value (sound ts q is)) i)

module _ (l : Level) (ls : SoundLevel l) where
  -- ---- targets and clauses

  target_sound : Sound (target l) IsTarget
  unfolding target
  target_sound ts p h = step _ (l k.Postfix ts) h (λ q is i. test_of (is_target q.value) i (λ ok j. got (λ e us. IsTarget ts e us) j (g.target (ls.postfix ts q is) ok)) (λ bad j. cc))

  targets_after_sound : (n : ℕ) (start us : List Lex) (es : List Ex) (p : Part (List Ex)) → IsSomeTargets start es us → IsTargets start (t.tuple (exs_of es)) us
      → targets_after l n es us ≡ Some p → IsTargets start (t.tuple (exs_of p.value)) p.rest
  unfolding targets_after
  targets_after_sound zero start us es p d whole h = got (λ xs rest. IsTargets start (t.tuple (exs_of xs)) rest) h whole
  targets_after_sound (suc n) start us es p d whole h =
      test_of (is_at s.Comma us) h
      (λ is i. step _ (target l (tail us)) i (λ q j m. let e = target_sound (tail us) q j in
      targets_after_sound n start q.rest (es ++ q.value ∷ []) p (g.more_targets d (is_next s.Comma us is) e) (g.targets d (is_next s.Comma us is) e) m))
      (λ other i. got (λ xs rest. IsTargets start (t.tuple (exs_of xs)) rest) i whole)

  two_targets : (n : ℕ) (start us : List Lex) (e : Ex) (p : Part (List Ex)) → IsTarget start e us → is_at s.Comma us ≡ true → n ≡ length us → targets_after l n (e ∷ []) us ≡ Some p → IsTargets start (t.tuple (exs_of p.value)) p.rest
  unfolding targets_after
  two_targets zero start us e p d is same h = absurd (let one = token_counts (is_next s.Comma us is) in let none : ⊥ = omega (arith, one, same) in none)
  two_targets (suc n) start us e p d is same h =
      test_of (is_at s.Comma us) h
      (λ again i. step _ (target l (tail us)) i (λ q j m. let f = target_sound (tail us) q j in
      targets_after_sound n start q.rest (e ∷ q.value ∷ []) p (g.more_targets (g.first_target d) (is_next s.Comma us is) f) (g.targets (g.first_target d) (is_next s.Comma us is) f) m))
      (λ other i. absurd (false≢true (sym other ∙ is)))

  pub targets_sound : Sound (targets l) IsTargets
  unfolding targets more_targets
  targets_sound ts p h =
      step _ (target l ts) h (λ q is i. test_of (is_at s.Comma q.rest) i
      (λ comma j. step _ (more_targets l q.value q.rest) j (λ r m n. got (λ e us. IsTargets ts e us) n (two_targets (length q.rest) ts q.rest q.value r (target_sound ts q is) comma refl m)))
      (λ other j. got (λ e us. IsTargets ts e us) j (g.one_target (target_sound ts q is))))

  record ForClause (ts : List Lex) (c : Cl) (rest : List Lex) : Type 0 where
    target : Ex
    sequence : Ex
    us : List Lex
    targets : IsTargets ts target us
    is : Is s.In us (tail us)
    expression : IsOr (tail us) sequence rest
    same : c ≡ t.for_in target sequence

  for_clause_sound : Sound (for_clause l) ForClause
  unfolding for_clause
  for_clause_sound ts p h =
      step _ (targets l ts) h (λ q is i. expected _ s.In q.rest i (λ in_is j. step _ (l k.Or (tail q.rest)) j (λ e m n.
      got (ForClause ts) n (record { target = q.value; sequence = e.value; us = q.rest; targets = targets_sound ts q is; is = in_is; expression = ls.or (tail q.rest) e m; same = refl }))))

  -- the clauses so far, of which the first is a `for`
  clauses_after_sound : (n : ℕ) (start us : List Lex) (cs : List Cl) (p : Part (List Cl)) → IsClauses start cs us → clauses_after l n cs us ≡ Some p → IsClauses start p.value p.rest
  unfolding clauses_after
  clauses_after_sound zero start us cs p d h = got (λ xs rest. IsClauses start xs rest) h d
  clauses_after_sound (suc n) start us cs p d h =
      test_of (is_at s.For us) h
      (λ is i. step _ (for_clause l (tail us)) i (λ q j m. let c = for_clause_sound (tail us) q j in
      clauses_after_sound n start q.rest (cs ++ q.value ∷ []) p
      (subst (λ x. IsClauses start (cs ++ x ∷ []) q.rest) (sym c.same) (g.more_for d (is_next s.For us is) c.targets c.is c.expression)) m))
      (λ other i. test_of (is_at s.If us) i
      (λ is j. step _ (l k.Or (tail us)) j (λ q m o. clauses_after_sound n start q.rest (cs ++ t.only_if q.value ∷ []) p (g.more_if d (is_next s.If us is) (ls.or (tail us) q m)) o))
      (λ last j. got (λ xs rest. IsClauses start xs rest) j d))

  first_clause : (n : ℕ) (ts : List Lex) (p : Part (List Cl)) → is_at s.For ts ≡ true → n ≡ length ts → clauses_after l n [] ts ≡ Some p → IsClauses ts p.value p.rest
  unfolding clauses_after
  first_clause zero ts p is same h = absurd (let one = token_counts (is_next s.For ts is) in let none : ⊥ = omega (arith, one, same) in none)
  first_clause (suc n) ts p is same h =
      test_of (is_at s.For ts) h
      (λ again i. step _ (for_clause l (tail ts)) i (λ q j m. let c = for_clause_sound (tail ts) q j in
      clauses_after_sound n ts q.rest (q.value ∷ []) p
      (subst (λ x. IsClauses ts (x ∷ []) q.rest) (sym c.same) (g.first_for (is_next s.For ts is) c.targets c.is c.expression)) m))
      (λ other i. absurd (false≢true (sym other ∙ is)))

  clauses_sound : (ts : List Lex) (p : Part (List Cl)) → is_at s.For ts ≡ true → clauses l ts ≡ Some p → IsClauses ts p.value p.rest
  unfolding clauses
  clauses_sound ts p is h = first_clause (length ts) ts p is refl h

  -- ---- tuples and lists

  items_after_sound : (n : ℕ) (start us : List Lex) (closer : Symbol) (es : List Ex) (p : Part (List Ex)) → IsTests start es us → items_after l closer n es us ≡ Some p → IsItems start p.value p.rest
  unfolding items_after
  items_after_sound zero start us closer es p d h = got (λ xs rest. IsItems start xs rest) h (g.items d g.no_comma)
  items_after_sound (suc n) start us closer es p d h =
      test_of (is_at s.Comma us) h
      (λ is i. test_of (is_at closer (tail us)) i
      (λ last j. got (λ xs rest. IsItems start xs rest) j (g.items d (g.comma (is_next s.Comma us is))))
      (λ more j. step _ (l k.Test (tail us)) j (λ q m o. items_after_sound n start q.rest closer (es ++ q.value ∷ []) p (g.more_tests d (is_next s.Comma us is) (ls.test (tail us) q m)) o)))
      (λ other i. got (λ xs rest. IsItems start xs rest) i (g.items d g.no_comma))

  items_sound : (ts us : List Lex) (closer : Symbol) (e : Ex) (p : Part (List Ex)) → IsTest ts e us → items l closer e us ≡ Some p → IsItems ts p.value p.rest
  unfolding items
  items_sound ts us closer e p d h = items_after_sound (length us) ts us closer (e ∷ []) p (g.one_test d) h

  -- those after a first one and its comma
  record Behind (e : Ex) (start : List Lex) (es : List Ex) (rest : List Lex) : Type 0 where
    others : List Ex
    same : es ≡ e ∷ others
    items : IsItems start others rest

  behind_first : (n : ℕ) (start us : List Lex) (e : Ex) (es : List Ex) (p : Part (List Ex)) → IsTests start es us → items_after l s.RightParen n (e ∷ es) us ≡ Some p → Behind e start p.value p.rest
  unfolding items_after
  behind_first zero start us e es p d h = got (Behind e start) h (record { others = es; same = refl; items = g.items d g.no_comma })
  behind_first (suc n) start us e es p d h =
      test_of (is_at s.Comma us) h
      (λ is i. test_of (is_at s.RightParen (tail us)) i
      (λ last j. got (Behind e start) j (record { others = es; same = refl; items = g.items d (g.comma (is_next s.Comma us is)) }))
      (λ more j. step _ (l k.Test (tail us)) j (λ q m o. behind_first n start q.rest e (es ++ q.value ∷ []) p (g.more_tests d (is_next s.Comma us is) (ls.test (tail us) q m)) o)))
      (λ other i. got (Behind e start) i (record { others = es; same = refl; items = g.items d g.no_comma }))

  behind_comma : (n : ℕ) (us : List Lex) (e : Ex) (p : Part (List Ex)) → is_at s.Comma us ≡ true → n ≡ length us → items_after l s.RightParen n (e ∷ []) us ≡ Some p → Behind e (tail us) p.value p.rest
  unfolding items_after
  behind_comma zero us e p is same h = absurd (let one = token_counts (is_next s.Comma us is) in let none : ⊥ = omega (arith, one, same) in none)
  behind_comma (suc n) us e p is same h =
      test_of (is_at s.Comma us) h
      (λ again i. test_of (is_at s.RightParen (tail us)) i
      (λ last j. got (Behind e (tail us)) j (record { others = []; same = refl; items = g.no_items }))
      (λ more j. step _ (l k.Test (tail us)) j (λ q m o. behind_first n (tail us) q.rest e (q.value ∷ []) p (g.one_test (ls.test (tail us) q m)) o)))
      (λ other i. absurd (false≢true (sym other ∙ is)))

  in_parens_sound : (ts : List Lex) (p : Part Ex) → Is s.LeftParen ts (tail ts) → in_parens l (tail ts) ≡ Some p → IsAtom ts p.value p.rest
  unfolding in_parens items
  in_parens_sound ts p is h =
      test_of (is_at s.RightParen (tail ts)) h
      (λ close i. got (λ e us. IsAtom ts e us) i (g.empty_tuple is (is_next s.RightParen (tail ts) close)))
      (λ some i. step _ (l k.Test (tail ts)) i (λ q j m. let d = ls.test (tail ts) q j in
      test_of (is_at s.Comma q.rest) m
      (λ comma n. step _ (items l s.RightParen q.value q.rest) n (λ es o v. let x = behind_comma (length q.rest) q.rest q.value es comma refl o in
      expected _ s.RightParen es.rest v (λ close w. got (λ e us. IsAtom ts e us) w
      (subst (λ y. IsAtom ts (t.tuple (exs_of y)) (tail es.rest)) (sym x.same) (g.tuple is d (is_next s.Comma q.rest comma) x.items close)))))
      (λ other n. expected _ s.RightParen q.rest n (λ close v. got (λ e us. IsAtom ts e us) v (g.parens is d close)))))

  in_brackets_sound : (ts : List Lex) (p : Part Ex) → Is s.LeftBracket ts (tail ts) → in_brackets l (tail ts) ≡ Some p → IsAtom ts p.value p.rest
  unfolding in_brackets
  in_brackets_sound ts p is h =
      test_of (is_at s.RightBracket (tail ts)) h
      (λ close i. got (λ e us. IsAtom ts e us) i (g.list is g.no_items (is_next s.RightBracket (tail ts) close)))
      (λ some i. step _ (l k.Test (tail ts)) i (λ q j m. let d = ls.test (tail ts) q j in
      test_of (is_at s.For q.rest) m
      (λ is_for n. step _ (clauses l q.rest) n (λ cs o v. expected _ s.RightBracket cs.rest v (λ close w. got (λ e us. IsAtom ts e us) w (g.list_of is d (clauses_sound q.rest cs is_for o) close))))
      (λ other n. step _ (items l s.RightBracket q.value q.rest) n (λ es o v. expected _ s.RightBracket es.rest v (λ close w.
      got (λ e us. IsAtom ts e us) w (g.list is (items_sound (tail ts) q.rest s.RightBracket q.value es d o) close))))))

  -- ---- dictionaries

  entries_after_sound : (n : ℕ) (start us : List Lex) (ps : Pairs) (p : Part Pairs) → IsSomeEntries start ps.keys ps.values us → entries_after l n ps us ≡ Some p → IsEntries start p.value.keys p.value.values p.rest
  unfolding entries_after entry
  entries_after_sound zero start us ps p d h = got (λ x rest. IsEntries start x.keys x.values rest) h (g.entries d g.no_comma)
  entries_after_sound (suc n) start us ps p d h =
      test_of (is_at s.Comma us) h
      (λ is i. test_of (is_at s.RightBrace (tail us)) i
      (λ last j. got (λ x rest. IsEntries start x.keys x.values rest) j (g.entries d (g.comma (is_next s.Comma us is))))
      (λ more j. step _ (entry l ps (tail us)) j (λ qs m o. entries_after_sound n start qs.rest qs.value p
      (step _ (l k.Test (tail us)) m (λ key a c. expected _ s.Colon key.rest c (λ colon e. step _ (l k.Test (tail key.rest)) e (λ value f v.
      got (λ x rest. IsSomeEntries start x.keys x.values rest) v (g.more_entries d (is_next s.Comma us is) (ls.test (tail us) key a) colon (ls.test (tail key.rest) value f)))))) o)))
      (λ other i. got (λ x rest. IsEntries start x.keys x.values rest) i (g.entries d g.no_comma))

  in_braces_sound : (ts : List Lex) (p : Part Ex) → Is s.LeftBrace ts (tail ts) → in_braces l (tail ts) ≡ Some p → IsAtom ts p.value p.rest
  unfolding in_braces dict_after entries
  in_braces_sound ts p is h =
      test_of (is_at s.RightBrace (tail ts)) h
      (λ close i. got (λ e us. IsAtom ts e us) i (g.dict is g.no_entries (is_next s.RightBrace (tail ts) close)))
      (λ some i. step _ (l k.Test (tail ts)) i (λ key j m. let d = ls.test (tail ts) key j in
      expected _ s.Colon key.rest m (λ colon n. step _ (l k.Test (tail key.rest)) n (λ value o v. let f = ls.test (tail key.rest) value o in
      test_of (is_at s.For value.rest) v
      (λ is_for w. step _ (clauses l value.rest) w (λ cs x y. expected _ s.RightBrace cs.rest y (λ close z. got (λ e us. IsAtom ts e us) z (g.dict_of is d colon f (clauses_sound value.rest cs is_for x) close))))
      (λ other w. step _ (entries l (record { keys = key.value ∷ []; values = value.value ∷ [] }) value.rest) w (λ es x y. expected _ s.RightBrace es.rest y (λ close z.
      got (λ e us. IsAtom ts e us) z
      (g.dict is (entries_after_sound (length value.rest) (tail ts) value.rest (record { keys = key.value ∷ []; values = value.value ∷ [] }) es (g.one_entry d colon f) x) close))))))))

  -- ---- atoms

  symbol_atom_sound : (m : Symbol) (ts : List Lex) (p : Part Ex) → Is m ts (tail ts) → symbol_atom l m (tail ts) ≡ Some p → IsAtom ts p.value p.rest
  unfolding symbol_atom
  symbol_atom_sound s.NoneValue ts p is h = got (λ e us. IsAtom ts e us) h (g.none is)
  symbol_atom_sound s.TrueValue ts p is h = got (λ e us. IsAtom ts e us) h (g.yes is)
  symbol_atom_sound s.FalseValue ts p is h = got (λ e us. IsAtom ts e us) h (g.no is)
  symbol_atom_sound s.LeftParen ts p is h = in_parens_sound ts p is h
  symbol_atom_sound s.LeftBracket ts p is h = in_brackets_sound ts p is h
  symbol_atom_sound s.LeftBrace ts p is h = in_braces_sound ts p is h
  symbol_atom_sound _ ts p is h = cc

  atom_by_sound : (found : Tok) (line : ℕ) (ts : List Lex) (p : Part Ex) → atom_by l found ts ≡ Some p → IsAtom (record { token = found; line = line } ∷ ts) p.value p.rest
  unfolding tail
  atom_by_sound (name x) line ts p h = got (λ e us. IsAtom (record { token = name x; line = line } ∷ ts) e us) h (g.a_name (line, refl))
  atom_by_sound (int n) line ts p h = got (λ e us. IsAtom (record { token = int n; line = line } ∷ ts) e us) h (g.an_int (line, refl))
  atom_by_sound (string x) line ts p h = got (λ e us. IsAtom (record { token = string x; line = line } ∷ ts) e us) h (g.a_string (line, refl))
  atom_by_sound (symbol m) line ts p h = symbol_atom_sound m (record { token = symbol m; line = line } ∷ ts) p (line, refl) h

  atom_sound : Sound (atom l) IsAtom
  unfolding atom
  atom_sound [] p h = cc
  atom_sound (x ∷ ts) p h = atom_by_sound x.token x.line ts p h

  -- ---- arguments

  data ArgsSoFar (start : List Lex) : List Ex → List (List ℕ) → List Lex → Type 0 where
    begin : ArgsSoFar start [] [] start
    more : {es : List Ex} {names : List (List ℕ)} {cs us : List Lex} → IsSomeArgs start es names cs → Is s.Comma cs us → ArgsSoFar start es names us

  args_close : {start us : List Lex} {es : List Ex} {names : List (List ℕ)} → ArgsSoFar start es names us → IsArgs start es names us
  args_close begin = g.no_args
  args_close (more d is) = g.args d (g.comma is)

  with_named : {start us vs ws rest : List Lex} {es : List Ex} {names : List (List ℕ)} {x : List ℕ} {e : Ex} → ArgsSoFar start es names us → IsToken (name x) us vs → Is s.Equal vs ws → IsTest ws e rest
      → IsSomeArgs start (es ++ e ∷ []) (names ++ x ∷ []) rest
  with_named begin is equal e = g.named is equal e
  with_named (more d comma) is equal e = g.more_named d comma is equal e

  with_plain : {start us rest : List Lex} {es : List Ex} {names : List (List ℕ)} {e : Ex} → ArgsSoFar start es names us → names ≡ [] → IsTest us e rest → IsSomeArgs start (es ++ e ∷ []) names rest
  with_plain begin none e = g.plain e
  with_plain {start = start} {rest = rest} {es = es} {e = a} (more {cs = cs} d is) none e =
      subst (λ xs. IsSomeArgs start (es ++ a ∷ []) xs rest) (sym none) (g.more_plain (subst (λ xs. IsSomeArgs start es xs cs) none d) is e)

  plain_sound : (names : List (List ℕ)) (start us : List Lex) (found : Arguments) (p : Part Arguments) → found.names ≡ names → ArgsSoFar start found.values found.names us → plain_argument l found names us ≡ Some p
      → IsSomeArgs start p.value.values p.value.names p.rest
  plain_sound [] start us found p none d h = step _ (l k.Test us) h (λ q i j. got (λ x rest. IsSomeArgs start x.values x.names rest) j (with_plain d none (ls.test us q i)))
  plain_sound (x ∷ names) start us found p none d h = cc

  argument_sound : (start us : List Lex) (found : Arguments) (p : Part Arguments) → ArgsSoFar start found.values found.names us → argument l found us ≡ Some p → IsSomeArgs start p.value.values p.value.names p.rest
  unfolding argument is_name_before
  argument_sound start us found p d h =
      test_of (is_name_before s.Equal us) h
      (λ both i. let parts = and_parts (is_name (name_at us)) (is_at s.Equal (tail us)) both in
      named_by _ us i (λ x is j. step _ (l k.Test (tail (tail us))) j (λ q m n.
      got (λ y rest. IsSomeArgs start y.values y.names rest) n (with_named d is (is_next s.Equal (tail us) parts.1) (ls.test (tail (tail us)) q m)))))
      (λ other i. plain_sound found.names start us found p refl d i)

  arguments_after_sound : (n : ℕ) (start us : List Lex) (found : Arguments) (p : Part Arguments) → ArgsSoFar start found.values found.names us → arguments_after l n found us ≡ Some p → IsArgs start p.value.values p.value.names p.rest
  unfolding arguments_after
  arguments_after_sound zero start us found p d h = got (λ x rest. IsArgs start x.values x.names rest) h (args_close d)
  arguments_after_sound (suc n) start us found p d h =
      test_of (is_at s.RightParen us) h (λ close i. got (λ x rest. IsArgs start x.values x.names rest) i (args_close d))
      (λ some i. step _ (argument l found us) i (λ q j m. let a = argument_sound start us found q d j in
      test_of (is_at s.Comma q.rest) m
      (λ is o. arguments_after_sound n start (tail q.rest) q.value p (more a (is_next s.Comma q.rest is)) o)
      (λ other o. got (λ x rest. IsArgs start x.values x.names rest) o (g.args a g.no_comma))))

  record Called (ts : List Lex) (found : Arguments) (rest : List Lex) : Type 0 where
    us : List Lex
    args : IsArgs ts found.values found.names us
    close : Is s.RightParen us rest

  arguments_sound : Sound (arguments l) Called
  unfolding arguments arguments_so_far
  arguments_sound ts p h =
      step _ (arguments_so_far l ts) h (λ q i j. expected _ s.RightParen q.rest j (λ close m. got (Called ts) m
      (record { us = q.rest; args = arguments_after_sound (length ts) ts ts (record { values = []; names = [] }) q begin i; close = close })))

  -- ---- calls, indexes and slices

  method_sound : (start us : List Lex) (e : Ex) (p : Part Ex) → IsPostfix start e us → Is s.Dot us (tail us) → method_call l e (tail us) ≡ Some p → IsPostfix start p.value p.rest
  unfolding method_call
  method_sound start us e p d dot h =
      named_by _ (tail us) h (λ x is i. expected _ s.LeftParen (tail (tail us)) i (λ open_is j. step _ (arguments l (tail (tail (tail us)))) j (λ q m n. let c = arguments_sound (tail (tail (tail us))) q m in
      got (λ a rest. IsPostfix start a rest) n (g.method d dot is open_is c.args c.close))))

  call_sound : (start us : List Lex) (e : Ex) (p : Part Ex) → IsPostfix start e us → Is s.LeftParen us (tail us) → call l e (tail us) ≡ Some p → IsPostfix start p.value p.rest
  unfolding call
  call_sound start us e p d open_is h =
      step _ (arguments l (tail us)) h (λ q m n. let c = arguments_sound (tail us) q m in got (λ a rest. IsPostfix start a rest) n (g.call d open_is c.args c.close))

  -- an upper bound, which its bracket ends
  bound_sound : Sound (upper_bound l) IsBound
  unfolding upper_bound
  bound_sound ts p h =
      test_of (is_at s.RightBracket ts) h (λ close i. got (IsBound ts) i g.no_bound)
      (λ some i. step _ (l k.Test ts) i (λ q j m. got (IsBound ts) m (g.bound (ls.test ts q j))))

  slice_sound : (start us vs ws : List Lex) (e : Ex) (from : Bound) (p : Part Ex) → IsPostfix start e us → Is s.LeftBracket us vs → IsBound vs from ws → Is s.Colon ws (tail ws) → slice_from l e from (tail ws) ≡ Some p
      → IsPostfix start p.value p.rest
  unfolding slice_from
  slice_sound start us vs ws e from p d open_is f colon h =
      step _ (upper_bound l (tail ws)) h (λ to i j. expected _ s.RightBracket to.rest j (λ close m. got (λ a rest. IsPostfix start a rest) m (g.slice d open_is f colon (bound_sound (tail ws) to i) close)))

  subscript_sound : (start us : List Lex) (e : Ex) (p : Part Ex) → IsPostfix start e us → Is s.LeftBracket us (tail us) → subscript l e (tail us) ≡ Some p → IsPostfix start p.value p.rest
  unfolding subscript
  subscript_sound start us e p d open_is h =
      test_of (is_at s.Colon (tail us)) h (λ colon i. slice_sound start us (tail us) (tail us) e t.no_bound p d open_is g.no_bound (is_next s.Colon (tail us) colon) i)
      (λ some i. step _ (l k.Test (tail us)) i (λ at j m. let a = ls.test (tail us) at j in
      test_of (is_at s.Colon at.rest) m (λ colon n. slice_sound start us (tail us) at.rest e (t.bound at.value) p d open_is (g.bound a) (is_next s.Colon at.rest colon) n)
      (λ other n. expected _ s.RightBracket at.rest n (λ close o. got (λ x rest. IsPostfix start x rest) o (g.index d open_is a close)))))

  postfix_after_sound : (n : ℕ) (start us : List Lex) (e : Ex) (p : Part Ex) → IsPostfix start e us → postfix_after l n e us ≡ Some p → IsPostfix start p.value p.rest
  unfolding postfix_after
  postfix_after_sound zero start us e p d h = got (λ a rest. IsPostfix start a rest) h d
  postfix_after_sound (suc n) start us e p d h =
      test_of (is_at s.Dot us) h
      (λ is i. step _ (method_call l e (tail us)) i (λ q j m. postfix_after_sound n start q.rest q.value p (method_sound start us e q d (is_next s.Dot us is) j) m))
      (λ other i. test_of (is_at s.LeftParen us) i
      (λ is j. step _ (call l e (tail us)) j (λ q m o. postfix_after_sound n start q.rest q.value p (call_sound start us e q d (is_next s.LeftParen us is) m) o))
      (λ other j. test_of (is_at s.LeftBracket us) j
      (λ is m. step _ (subscript l e (tail us)) m (λ q o v. postfix_after_sound n start q.rest q.value p (subscript_sound start us e q d (is_next s.LeftBracket us is) o) v))
      (λ last m. got (λ a rest. IsPostfix start a rest) m d)))

  postfix_sound : Sound (postfix l) IsPostfix
  unfolding postfix postfix_rest
  postfix_sound ts p h = step _ (atom l ts) h (λ q i j. postfix_after_sound (length q.rest) ts q.rest q.value p (g.postfix_atom (atom_sound ts q i)) j)

  -- ---- operators

  unary_sound : Sound (unary l) IsUnary
  unfolding unary
  unary_sound ts p h =
      test_of (is_at s.Plus ts) h (λ plus i. step _ (l k.Unary (tail ts)) i (λ q is j. got (λ e us. IsUnary ts e us) j (g.unary_plus (is_next s.Plus ts plus) (ls.unary (tail ts) q is))))
      (λ other i. test_of (is_at s.Minus ts) i (λ minus j. step _ (l k.Unary (tail ts)) j (λ q is m. got (λ e us. IsUnary ts e us) m (g.unary_minus (is_next s.Minus ts minus) (ls.unary (tail ts) q is))))
      (λ other j. g.unary_postfix (postfix_sound ts p j)))

  term_sound : Sound (term l) IsTerm
  unfolding term
  term_sound = chain_sound (unary l) r.Term IsUnary IsTerm unary_sound (λ ts rest e d. g.term_unary d) (λ ts us vs rest op e f d is x. g.term_more d is x)

  sum_sound : Sound (sum l) IsSum
  unfolding sum
  sum_sound = chain_sound (term l) r.Sum IsTerm IsSum term_sound (λ ts rest e d. g.sum_term d) (λ ts us vs rest op e f d is x. g.sum_more d is x)

  comparison_sound : Sound (comparison (sum l)) IsCmp
  unfolding comparison
  comparison_sound ts p h =
      step _ (sum l ts) h (λ q i j. let d = sum_sound ts q i in
      by_option (comparison_at q.rest) (λ none. got (λ e us. IsCmp ts e us) (rw none at j) (g.cmp_sum d))
      (λ c is. step _ (sum l c.rest) (rw is at j) (λ f m n. got (λ e us. IsCmp ts e us) n (g.cmp d (is_comparison c q.rest is) (sum_sound c.rest f m)))))

  not_sound : Sound (not_test l) IsNot
  unfolding not_test
  not_sound ts p h =
      test_of (is_at s.Not ts) h (λ is i. step _ (l k.Not (tail ts)) i (λ q j m. got (λ e us. IsNot ts e us) m (g.not_not (is_next s.Not ts is) (ls.not (tail ts) q j))))
      (λ other i. g.not_cmp (comparison_sound ts p i))

  and_sound : Sound (and_test l) IsAnd
  unfolding and_test
  and_sound = chain_sound (not_test l) r.And IsNot IsAnd not_sound (λ ts rest e d. g.and_not d) (λ ts us vs rest op e f d is x. g.and_more d is x)

  or_sound : Sound (or_test l) IsOr
  unfolding or_test
  or_sound = chain_sound (and_test l) r.Or IsAnd IsOr and_sound (λ ts rest e d. g.or_and d) (λ ts us vs rest op e f d is x. g.or_more d is x)

  test_sound : Sound (conditional l) IsTest
  unfolding conditional
  test_sound ts p h =
      step _ (or_test l ts) h (λ q i j. let d = or_sound ts q i in
      test_of (is_at s.If q.rest) j
      (λ is m. step _ (or_test l (tail q.rest)) m (λ c n o. expected _ s.Else c.rest o (λ else_is v. step _ (l k.Test (tail c.rest)) v (λ x w y.
      got (λ e us. IsTest ts e us) y (g.choice d (is_next s.If q.rest is) (or_sound (tail q.rest) c n) else_is (ls.test (tail c.rest) x w))))))
      (λ other m. got (λ e us. IsTest ts e us) m (g.test_or d)))

pub level_sound : (m : ℕ) → SoundLevel (expr m)
unfolding expr
level_sound zero = record { test = λ ts p h. cc; or = λ ts p h. cc; not = λ ts p h. cc; unary = λ ts p h. cc; postfix = λ ts p h. cc }
level_sound (suc m) =
    let ls = level_sound m in
    record { test = test_sound (expr m) ls; or = or_sound (expr m) ls; not = not_sound (expr m) ls; unary = unary_sound (expr m) ls; postfix = postfix_sound (expr m) ls }
