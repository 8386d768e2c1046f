-- A name, a number or a string that does not continue is a whole expression of each kind.
use Rattle.std.proofs.Common.{◌≡◌, ◌∙◌, ℕ, zero, suc, List, [], ◌∷◌, true, false, refl, sym, arith}
use Rattle.std.proofs.lemmas.Bool.Decides.{nat_tests}
use Rattle.syntax_tokens.specs.declared.symbol.Symbol.{Symbol}
use Rattle.syntax_tokens.specs.declared.symbol.Symbol.TheVariants as s
use Rattle.syntax_tokens.specs.Token.{Tok, name, int, string, symbol, Lex}
use Rattle.syntax_tokens.specs.Strings.{unescaped}
use Rattle.syntax_tree.specs.Tree as t
use Rattle.syntax_tree.specs.Tree.{Ex}
use Rattle.syntax_grammar.specs.declared.kind.Kind.{Kind}
use Rattle.syntax_grammar.specs.declared.kind.Kind.TheVariants as k
use Rattle.syntax_grammar.specs.declared.kind.Rank.TheVariants as r
use Rattle.syntax_grammar.specs.Front.{gives, is_at, is_tok}
use Rattle.syntax_grammar.specs.Expressions.{Level, atom, atom_by, postfix, postfix_rest, postfix_after, unary, term, sum, comparison, not_test, and_test, or_test, conditional, of_kind}
use Rattle.syntax_expressions.specs.Alone.{goes_on, is_leaf, is_alone}
use Rattle.syntax_expressions.proofs.Ends.{Ended, ended, no_comparison, chain_ends}

no_symbol : (wanted : Symbol) (tok : Tok) → is_leaf tok ≡ true → is_tok wanted tok ≡ false
no_symbol wanted (name x) leaf = refl
no_symbol wanted (int n) leaf = refl
no_symbol wanted (string x) leaf = refl
no_symbol wanted (symbol m) leaf = absurd cc

leaf_tree : Tok → Ex
leaf_tree (name x) = t.name x
leaf_tree (int n) = t.int n
leaf_tree (string x) = t.str (unescaped x)
leaf_tree (symbol m) = t.name []

leaf_gives : (l : Level) (tok : Tok) (ts : List Lex) → is_leaf tok ≡ true → atom_by l tok ts ≡ gives (leaf_tree tok) ts
unfolding leaf_tree
leaf_gives l (name x) ts leaf = refl
leaf_gives l (int n) ts leaf = refl
leaf_gives l (string x) ts leaf = refl
leaf_gives l (symbol m) ts leaf = absurd cc

no_postfix : (l : Level) (n : ℕ) (e : Ex) (ts : List Lex) → is_at s.Dot ts ≡ false → is_at s.LeftParen ts ≡ false → is_at s.LeftBracket ts ≡ false → postfix_after l n e ts ≡ gives e ts
unfolding postfix_after
no_postfix l zero e ts dot paren bracket = refl
no_postfix l (suc n) e ts dot paren bracket = rw (dot, paren, bracket) refl

rest_ends : (l : Level) (e : Ex) (ts : List Lex) → Ended ts → postfix_rest l e ts ≡ gives e ts
unfolding postfix_rest
rest_ends l e ts ended = no_postfix l _ e ts ended.dot ended.paren ended.bracket

module _ (l : Level) (e : Ex) (ts us : List Lex) (is : atom l ts ≡ gives e us) (none : (wanted : Symbol) → is_at wanted ts ≡ false) (ended : Ended us) where
  postfix_alone : postfix l ts ≡ gives e us
  unfolding postfix
  postfix_alone = rw is (rest_ends l e us ended)

  unary_alone : unary l ts ≡ gives e us
  unfolding unary
  unary_alone = rw (none s.Plus, none s.Minus) postfix_alone

  sum_alone : sum l ts ≡ gives e us
  unfolding sum term
  sum_alone = chain_ends (term l) r.Sum e ts us (chain_ends (unary l) r.Term e ts us unary_alone ended) ended

  not_alone : not_test l ts ≡ gives e us
  unfolding not_test comparison
  not_alone = rw (none s.Not, sum_alone, no_comparison us ended) refl

  or_alone : or_test l ts ≡ gives e us
  unfolding or_test and_test
  or_alone = chain_ends (and_test l) r.Or e ts us (chain_ends (not_test l) r.And e ts us not_alone ended) ended

  test_alone : conditional l ts ≡ gives e us
  unfolding conditional
  test_alone = rw (or_alone, ended.choice) refl

  kind_alone : (kind : Kind) → of_kind kind l ts ≡ gives e us
  kind_alone k.Test = test_alone
  kind_alone k.Or = or_alone
  kind_alone k.Not = not_alone
  kind_alone k.Unary = unary_alone
  kind_alone k.Postfix = postfix_alone

leaf_alone : (l : Level) (kind : Kind) (x : Lex) (ts : List Lex) → is_leaf x.token ≡ true → goes_on ts ≡ false → of_kind kind l (x ∷ ts) ≡ atom l (x ∷ ts)
unfolding atom is_at
leaf_alone l kind x ts leaf ends =
    let gives_leaf = leaf_gives l x.token ts leaf in
    kind_alone l (leaf_tree x.token) (x ∷ ts) ts gives_leaf (λ wanted. no_symbol wanted x.token leaf) (ended ts ends) kind ∙ sym gives_leaf

pub alone : (l : Level) (kind : Kind) (ts : List Lex) → is_alone ts ≡ true → of_kind kind l ts ≡ atom l ts
unfolding is_alone
alone l kind [] is = absurd cc
alone l kind (x ∷ ts) is = leaf_alone l kind x ts (grind (arith, nat_tests)) (grind (arith, nat_tests))
