-- Tokens at the front, and which end an expression.
use Rattle.std.proofs.Common.{◌≡◌, ℕ, List, ◌∷◌, true, false, None, refl, sym, subst, arith}
use Rattle.std.proofs.lemmas.Bool.Decides.{nat_tests}
use Rattle.syntax_tokens.specs.declared.symbol.Symbol.{Symbol}
use Rattle.syntax_tokens.specs.declared.symbol.Symbol.TheVariants as s
use Rattle.syntax_tokens.specs.Token.{Tok, Lex}
use Rattle.syntax_tree.specs.declared.expr.BinaryOp.{BinaryOp}
use Rattle.syntax_grammar.specs.declared.kind.Rank.TheVariants as r
use Rattle.syntax_grammar.specs.Front.{same, is_tok, is_at, tail}
use Rattle.syntax_grammar.specs.Expressions.{operator_at, comparison_at}
use Rattle.syntax_grammar.specs.Grammar as g
use Rattle.syntax_grammar.specs.Grammar.{IsToken, Is, IsOperator, IsCmpOp, IsAug}

pub front : {found : Tok} {ts us : List Lex} (P : List Lex → Type 0) → IsToken found ts us → ((line : ℕ) → P (record { token = found; line = line } ∷ us)) → P ts
front P is h = subst P (sym is.1) (h is.0)

pub tail_is : {found : Tok} {ts us : List Lex} → IsToken found ts us → tail ts ≡ us
unfolding tail
tail_is {us} is = front (λ xs. tail xs ≡ us) is (λ line. refl)

same_self : (a : Symbol) → same a a ≡ true
unfolding same
same_self a = grind (arith, nat_tests)

pub at_is : {wanted : Symbol} {ts us : List Lex} → Is wanted ts us → is_at wanted ts ≡ true
unfolding is_at
at_is {wanted} is = front (λ xs. is_at wanted xs ≡ true) is (λ line. same_self wanted)

pub not_at : {found : Tok} {ts us : List Lex} (wanted : Symbol) → IsToken found ts us → is_tok wanted found ≡ false → is_at wanted ts ≡ false
unfolding is_at
not_at wanted is h = front (λ xs. is_at wanted xs ≡ false) is (λ line. h)

-- ---- what ends an expression of each rank

abbrev pub StopsPostfix : List Lex → Type 0
StopsPostfix ts = (is_at s.Dot ts ≡ false) × (is_at s.LeftParen ts ≡ false) × (is_at s.LeftBracket ts ≡ false)

abbrev pub StopsTerm : List Lex → Type 0
StopsTerm ts = StopsPostfix ts × (operator_at r.Term ts ≡ None)

abbrev pub StopsSum : List Lex → Type 0
StopsSum ts = StopsTerm ts × (operator_at r.Sum ts ≡ None)

abbrev pub StopsCmp : List Lex → Type 0
StopsCmp ts = StopsSum ts × (comparison_at ts ≡ None)

abbrev pub StopsAnd : List Lex → Type 0
StopsAnd ts = StopsCmp ts × (operator_at r.And ts ≡ None)

abbrev pub StopsOr : List Lex → Type 0
StopsOr ts = StopsAnd ts × (operator_at r.Or ts ≡ None)

abbrev pub StopsTest : List Lex → Type 0
StopsTest ts = StopsOr ts × (is_at s.If ts ≡ false)

module _ {ts us : List Lex} where
  pub comma_stops : Is s.Comma ts us → StopsTest ts
  unfolding is_at same operator_at comparison_at
  comma_stops is = front StopsTest is (λ line. (((((((refl, refl, refl), refl), refl), refl), refl), refl), refl))

  pub colon_stops : Is s.Colon ts us → StopsTest ts
  unfolding is_at same operator_at comparison_at
  colon_stops is = front StopsTest is (λ line. (((((((refl, refl, refl), refl), refl), refl), refl), refl), refl))

  pub paren_stops : Is s.RightParen ts us → StopsTest ts
  unfolding is_at same operator_at comparison_at
  paren_stops is = front StopsTest is (λ line. (((((((refl, refl, refl), refl), refl), refl), refl), refl), refl))

  pub bracket_stops : Is s.RightBracket ts us → StopsTest ts
  unfolding is_at same operator_at comparison_at
  bracket_stops is = front StopsTest is (λ line. (((((((refl, refl, refl), refl), refl), refl), refl), refl), refl))

  pub brace_stops : Is s.RightBrace ts us → StopsTest ts
  unfolding is_at same operator_at comparison_at
  brace_stops is = front StopsTest is (λ line. (((((((refl, refl, refl), refl), refl), refl), refl), refl), refl))

  pub for_stops : Is s.For ts us → StopsTest ts
  unfolding is_at same operator_at comparison_at
  for_stops is = front StopsTest is (λ line. (((((((refl, refl, refl), refl), refl), refl), refl), refl), refl))

  pub else_stops : Is s.Else ts us → StopsTest ts
  unfolding is_at same operator_at comparison_at
  else_stops is = front StopsTest is (λ line. (((((((refl, refl, refl), refl), refl), refl), refl), refl), refl))

  pub line_stops : Is s.NewLine ts us → StopsTest ts
  unfolding is_at same operator_at comparison_at
  line_stops is = front StopsTest is (λ line. (((((((refl, refl, refl), refl), refl), refl), refl), refl), refl))

  pub equal_stops : Is s.Equal ts us → StopsTest ts
  unfolding is_at same operator_at comparison_at
  equal_stops is = front StopsTest is (λ line. (((((((refl, refl, refl), refl), refl), refl), refl), refl), refl))

  -- and what it does not continue with
  pub comma_not_for : Is s.Comma ts us → is_at s.For ts ≡ false
  unfolding same
  comma_not_for is = not_at s.For is refl

  pub bracket_not_for : Is s.RightBracket ts us → is_at s.For ts ≡ false
  unfolding same
  bracket_not_for is = not_at s.For is refl

  pub brace_not_for : Is s.RightBrace ts us → is_at s.For ts ≡ false
  unfolding same
  brace_not_for is = not_at s.For is refl

  pub comma_not_equal : Is s.Comma ts us → is_at s.Equal ts ≡ false
  unfolding same
  comma_not_equal is = not_at s.Equal is refl

  pub paren_not_equal : Is s.RightParen ts us → is_at s.Equal ts ≡ false
  unfolding same
  paren_not_equal is = not_at s.Equal is refl

  pub paren_not_comma : Is s.RightParen ts us → is_at s.Comma ts ≡ false
  unfolding same
  paren_not_comma is = not_at s.Comma is refl

  pub bracket_not_comma : Is s.RightBracket ts us → is_at s.Comma ts ≡ false
  unfolding same
  bracket_not_comma is = not_at s.Comma is refl

  pub brace_not_comma : Is s.RightBrace ts us → is_at s.Comma ts ≡ false
  unfolding same
  brace_not_comma is = not_at s.Comma is refl

  pub in_not_comma : Is s.In ts us → is_at s.Comma ts ≡ false
  unfolding same
  in_not_comma is = not_at s.Comma is refl

  pub if_stops : Is s.If ts us → StopsOr ts
  unfolding is_at same operator_at comparison_at
  if_stops is = front StopsOr is (λ line. ((((((refl, refl, refl), refl), refl), refl), refl), refl))

  pub in_stops : Is s.In ts us → StopsPostfix ts
  unfolding is_at same
  in_stops is = front StopsPostfix is (λ line. (refl, refl, refl))

pub aug_stops : {op : BinaryOp} {ts us : List Lex} → IsAug op ts us → StopsTest ts
unfolding is_at same operator_at comparison_at
aug_stops (g.adds is) = front StopsTest is (λ line. (((((((refl, refl, refl), refl), refl), refl), refl), refl), refl))
aug_stops (g.subtracts is) = front StopsTest is (λ line. (((((((refl, refl, refl), refl), refl), refl), refl), refl), refl))
aug_stops (g.multiplies is) = front StopsTest is (λ line. (((((((refl, refl, refl), refl), refl), refl), refl), refl), refl))
aug_stops (g.divides is) = front StopsTest is (λ line. (((((((refl, refl, refl), refl), refl), refl), refl), refl), refl))
aug_stops (g.takes_remainder is) = front StopsTest is (λ line. (((((((refl, refl, refl), refl), refl), refl), refl), refl), refl))

pub or_stops : {op : BinaryOp} {ts us : List Lex} → IsOperator r.Or op ts us → StopsAnd ts
unfolding is_at same operator_at comparison_at
or_stops (g.is_or is) = front StopsAnd is (λ line. (((((refl, refl, refl), refl), refl), refl), refl))

pub and_stops : {op : BinaryOp} {ts us : List Lex} → IsOperator r.And op ts us → StopsCmp ts
unfolding is_at same operator_at comparison_at
and_stops (g.is_and is) = front StopsCmp is (λ line. ((((refl, refl, refl), refl), refl), refl))

pub sum_stops : {op : BinaryOp} {ts us : List Lex} → IsOperator r.Sum op ts us → StopsTerm ts
unfolding is_at same operator_at
sum_stops (g.is_plus is) = front StopsTerm is (λ line. ((refl, refl, refl), refl))
sum_stops (g.is_minus is) = front StopsTerm is (λ line. ((refl, refl, refl), refl))

pub term_stops : {op : BinaryOp} {ts us : List Lex} → IsOperator r.Term op ts us → StopsPostfix ts
unfolding is_at same
term_stops (g.is_star is) = front StopsPostfix is (λ line. (refl, refl, refl))
term_stops (g.is_slash_slash is) = front StopsPostfix is (λ line. (refl, refl, refl))
term_stops (g.is_percent is) = front StopsPostfix is (λ line. (refl, refl, refl))

pub cmp_stops : {op : BinaryOp} {ts us : List Lex} → IsCmpOp op ts us → StopsSum ts
unfolding is_at same operator_at
cmp_stops (g.is_equal is) = front StopsSum is (λ line. (((refl, refl, refl), refl), refl))
cmp_stops (g.is_not_equal is) = front StopsSum is (λ line. (((refl, refl, refl), refl), refl))
cmp_stops (g.is_less is) = front StopsSum is (λ line. (((refl, refl, refl), refl), refl))
cmp_stops (g.is_less_equal is) = front StopsSum is (λ line. (((refl, refl, refl), refl), refl))
cmp_stops (g.is_greater is) = front StopsSum is (λ line. (((refl, refl, refl), refl), refl))
cmp_stops (g.is_greater_equal is) = front StopsSum is (λ line. (((refl, refl, refl), refl), refl))
cmp_stops (g.is_in is) = front StopsSum is (λ line. (((refl, refl, refl), refl), refl))
cmp_stops (g.is_not_in is in_is) = front StopsSum is (λ line. (((refl, refl, refl), refl), refl))
