-- The targets of the grammar are those of their production.
use Rattle.std.proofs.Common.{◌≡◌, List, [], ◌∷◌, ◌++◌, true, refl}
use Rattle.std.proofs.lemmas.Bool.{and_parts, and_from, false≢true}
use Rattle.syntax_tokens.specs.declared.symbol.Symbol.TheVariants as s
use Rattle.syntax_tokens.specs.Token.{Lex}
use Rattle.syntax_tree.specs.Tree as t
use Rattle.syntax_tree.specs.Tree.{Ex}
use Rattle.syntax_tree.specs.View.{exs_of}
use Rattle.syntax_grammar.specs.Targets.{is_target, all_targets, is_some_ex}
use Rattle.syntax_grammar.specs.Grammar as g
use Rattle.syntax_grammar.specs.Grammar.{Is, IsCommaOrNone, IsTest, IsOr, IsAnd, IsNot, IsCmp, IsSum, IsTerm, IsUnary, IsPostfix, IsAtom, IsItems, IsTests, IsTarget}
use Rattle.syntax_grammar.specs.TargetRules as r
use Rattle.syntax_grammar.specs.TargetRules.{IsAssignable, AreMoreAssignable, AreAssignable, TargetsAreByTheirRules}
use Rattle.syntax_grammar.proofs.CompleteStmts.{postfix_test, all_more}
use Rattle.syntax_grammar.proofs.SoundStmts.{all_parts}

-- ---- by the rules, from the expressions

mutual
  test_rule : {ts rest : List Lex} {e : Ex} → IsTest ts e rest → is_target e ≡ true → IsAssignable ts e rest
  test_rule (g.test_or d) h = or_rule d h
  test_rule (g.choice d if_is c else_is e) h = absurd (false≢true h)

  or_rule : {ts rest : List Lex} {e : Ex} → IsOr ts e rest → is_target e ≡ true → IsAssignable ts e rest
  or_rule (g.or_and d) h = and_rule d h
  or_rule (g.or_more d op e) h = absurd (false≢true h)

  and_rule : {ts rest : List Lex} {e : Ex} → IsAnd ts e rest → is_target e ≡ true → IsAssignable ts e rest
  and_rule (g.and_not d) h = not_rule d h
  and_rule (g.and_more d op e) h = absurd (false≢true h)

  not_rule : {ts rest : List Lex} {e : Ex} → IsNot ts e rest → is_target e ≡ true → IsAssignable ts e rest
  not_rule (g.not_not is d) h = absurd (false≢true h)
  not_rule (g.not_cmp d) h = cmp_rule d h

  cmp_rule : {ts rest : List Lex} {e : Ex} → IsCmp ts e rest → is_target e ≡ true → IsAssignable ts e rest
  cmp_rule (g.cmp_sum d) h = sum_rule d h
  cmp_rule (g.cmp d op e) h = absurd (false≢true h)

  sum_rule : {ts rest : List Lex} {e : Ex} → IsSum ts e rest → is_target e ≡ true → IsAssignable ts e rest
  sum_rule (g.sum_term d) h = term_rule d h
  sum_rule (g.sum_more d op e) h = absurd (false≢true h)

  term_rule : {ts rest : List Lex} {e : Ex} → IsTerm ts e rest → is_target e ≡ true → IsAssignable ts e rest
  term_rule (g.term_unary d) h = unary_rule d h
  term_rule (g.term_more d op e) h = absurd (false≢true h)

  unary_rule : {ts rest : List Lex} {e : Ex} → IsUnary ts e rest → is_target e ≡ true → IsAssignable ts e rest
  unary_rule (g.unary_plus is d) h = absurd (false≢true h)
  unary_rule (g.unary_minus is d) h = absurd (false≢true h)
  unary_rule (g.unary_postfix d) h = postfix_rule d h

  postfix_rule : {ts rest : List Lex} {e : Ex} → IsPostfix ts e rest → is_target e ≡ true → IsAssignable ts e rest
  postfix_rule (g.postfix_atom d) h = atom_rule d h
  postfix_rule (g.method d dot is open_is found close_is) h = absurd (false≢true h)
  postfix_rule (g.call d open_is found close_is) h = absurd (false≢true h)
  postfix_rule (g.index d open_is e close_is) h = r.index_target d open_is e close_is
  postfix_rule (g.slice d open_is from colon to close_is) h = absurd (false≢true h)

  atom_rule : {ts rest : List Lex} {e : Ex} → IsAtom ts e rest → is_target e ≡ true → IsAssignable ts e rest
  atom_rule (g.a_name is) h = r.name_target is
  atom_rule (g.an_int is) h = absurd (false≢true h)
  atom_rule (g.a_string is) h = absurd (false≢true h)
  atom_rule (g.none is) h = absurd (false≢true h)
  atom_rule (g.yes is) h = absurd (false≢true h)
  atom_rule (g.no is) h = absurd (false≢true h)
  atom_rule (g.empty_tuple is close_is) h = absurd (false≢true h)
  atom_rule (g.parens is d close_is) h = r.parens_target is (test_rule d h) close_is
  atom_rule (g.tuple {e = a} {es = es} is d comma es' close_is) h =
      let both = and_parts (is_target a) (all_targets (exs_of es)) h in
      r.tuple_target is (test_rule d both.0) comma (items_rule es' both.1) close_is
  atom_rule (g.list is g.no_items close_is) h = absurd (false≢true h)
  atom_rule (g.list is (g.items {es = es} d last) close_is) h =
      r.list_target is (tests_rule d (and_parts (is_some_ex (exs_of es)) (all_targets (exs_of es)) h).1) last close_is
  atom_rule (g.list_of is d cs close_is) h = absurd (false≢true h)
  atom_rule (g.dict is es close_is) h = absurd (false≢true h)
  atom_rule (g.dict_of is key colon value cs close_is) h = absurd (false≢true h)

  items_rule : {ts rest : List Lex} {es : List Ex} → IsItems ts es rest → all_targets (exs_of es) ≡ true → AreMoreAssignable ts es rest
  items_rule g.no_items h = r.no_more
  items_rule (g.items d last) h = r.some_more (tests_rule d h) last

  tests_rule : {ts rest : List Lex} {es : List Ex} → IsTests ts es rest → all_targets (exs_of es) ≡ true → AreAssignable ts es rest
  tests_rule (g.one_test {e = a} d) h = r.one_assignable (test_rule d (and_parts (is_target a) true h).0)
  tests_rule (g.more_tests {es = es} {e = a} d is e) h =
      let both = all_parts es a h in
      r.more_assignable (tests_rule d both.all) is (test_rule e both.last)

-- ---- and back

some_ex : (es : List Ex) (e : Ex) → is_some_ex (exs_of (es ++ e ∷ [])) ≡ true
some_ex [] e = refl
some_ex (x ∷ es) e = refl

are_some : {ts rest : List Lex} {es : List Ex} → AreAssignable ts es rest → is_some_ex (exs_of es) ≡ true
are_some (r.one_assignable d) = refl
are_some (r.more_assignable {es = es} {e = a} d is e) = some_ex es a

in_parens : {ts us vs rest : List Lex} {e : Ex} → Is s.LeftParen ts us → IsTarget us e vs → Is s.RightParen vs rest → IsTarget ts e rest
in_parens is (g.target d h) close_is = g.target (g.postfix_atom (g.parens is (postfix_test d) close_is)) h

in_tuple : {ts us vs ws xs rest : List Lex} {e : Ex} {es : List Ex} → Is s.LeftParen ts us → IsTarget us e vs → Is s.Comma vs ws → IsItems ws es xs × (all_targets (exs_of es) ≡ true) → Is s.RightParen xs rest
    → IsTarget ts (t.tuple (exs_of (e ∷ es))) rest
in_tuple {es = es} is (g.target {e = a} d h) comma items close_is = g.target (g.postfix_atom (g.tuple is (postfix_test d) comma items.0 close_is)) (and_from (is_target a) (all_targets (exs_of es)) h items.1)

in_list : {ts us vs ws rest : List Lex} {es : List Ex} → Is s.LeftBracket ts us → IsTests us es vs × (all_targets (exs_of es) ≡ true) → is_some_ex (exs_of es) ≡ true → IsCommaOrNone vs ws → Is s.RightBracket ws rest
    → IsTarget ts (t.list (exs_of es)) rest
in_list {es = es} is tests some last close_is = g.target (g.postfix_atom (g.list is (g.items tests.0 last) close_is)) (and_from (is_some_ex (exs_of es)) (all_targets (exs_of es)) some tests.1)

first_of_all : {ts rest : List Lex} {e : Ex} → IsTarget ts e rest → IsTests ts (e ∷ []) rest × (all_targets (exs_of (e ∷ [])) ≡ true)
first_of_all (g.target {e = a} d h) = (g.one_test (postfix_test d), and_from (is_target a) true h refl)

next_of_all : {ts us vs rest : List Lex} {es : List Ex} {e : Ex} → IsTests ts es us × (all_targets (exs_of es) ≡ true) → Is s.Comma us vs → IsTarget vs e rest
    → IsTests ts (es ++ e ∷ []) rest × (all_targets (exs_of (es ++ e ∷ [])) ≡ true)
next_of_all {es = es} tests is (g.target {e = a} d h) = (g.more_tests tests.0 is (postfix_test d), all_more es a tests.1 h)

mutual
  rule_postfix : {ts rest : List Lex} {e : Ex} → IsAssignable ts e rest → IsTarget ts e rest
  rule_postfix (r.name_target is) = g.target (g.postfix_atom (g.a_name is)) refl
  rule_postfix (r.index_target d open_is e close_is) = g.target (g.index d open_is e close_is) refl
  rule_postfix (r.parens_target is d close_is) = in_parens is (rule_postfix d) close_is
  rule_postfix (r.tuple_target is d comma es close_is) = in_tuple is (rule_postfix d) comma (rule_items es) close_is
  rule_postfix (r.list_target is d last close_is) = in_list is (rule_tests d) (are_some d) last close_is

  rule_items : {ts rest : List Lex} {es : List Ex} → AreMoreAssignable ts es rest → IsItems ts es rest × (all_targets (exs_of es) ≡ true)
  rule_items r.no_more = (g.no_items, refl)
  rule_items (r.some_more d last) = let x = rule_tests d in (g.items x.0 last, x.1)

  rule_tests : {ts rest : List Lex} {es : List Ex} → AreAssignable ts es rest → IsTests ts es rest × (all_targets (exs_of es) ≡ true)
  rule_tests (r.one_assignable d) = first_of_all (rule_postfix d)
  rule_tests (r.more_assignable d is e) = next_of_all (rule_tests d) is (rule_postfix e)

from_target : {ts rest : List Lex} {e : Ex} → IsTarget ts e rest → IsAssignable ts e rest
from_target (g.target d h) = postfix_rule d h

pub by_rules : TargetsAreByTheirRules
by_rules ts e rest = (λ d. from_target d, λ d. rule_postfix d)
