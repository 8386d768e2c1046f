-- An operand that does not continue is the whole expression of each rank.
use Rattle.std.proofs.Common.{◌≡◌, ℕ, zero, suc, List, false, None, refl}
use Rattle.std.proofs.lemmas.Bool.{or_parts}
use Rattle.syntax_tokens.specs.declared.symbol.Symbol.TheVariants as s
use Rattle.syntax_tokens.specs.Token.{Lex}
use Rattle.syntax_tree.specs.Tree.{Ex}
use Rattle.syntax_grammar.specs.declared.kind.Rank.{Rank}
use Rattle.syntax_grammar.specs.declared.kind.Rank.TheVariants as r
use Rattle.syntax_grammar.specs.Front.{Reading, gives, is_at}
use Rattle.syntax_grammar.specs.Expressions.{chain, chain_after, operator_at, comparison_at}
use Rattle.syntax_expressions.specs.Alone.{goes_on}

-- no symbol with which an expression may continue is next
pub record Ended (ts : List Lex) : Type 0 where
  pub dot : is_at s.Dot ts ≡ false
  pub paren : is_at s.LeftParen ts ≡ false
  pub bracket : is_at s.LeftBracket ts ≡ false
  pub or_else : is_at s.Or ts ≡ false
  pub and_also : is_at s.And ts ≡ false
  pub choice : is_at s.If ts ≡ false
  pub negation : is_at s.Not ts ≡ false
  pub member : is_at s.In ts ≡ false
  pub plus : is_at s.Plus ts ≡ false
  pub minus : is_at s.Minus ts ≡ false
  pub star : is_at s.Star ts ≡ false
  pub slash_slash : is_at s.SlashSlash ts ≡ false
  pub percent : is_at s.Percent ts ≡ false
  pub equal : is_at s.EqualEqual ts ≡ false
  pub not_equal : is_at s.NotEqual ts ≡ false
  pub less : is_at s.Less ts ≡ false
  pub less_equal : is_at s.LessEqual ts ≡ false
  pub greater : is_at s.Greater ts ≡ false
  pub greater_equal : is_at s.GreaterEqual ts ≡ false

pub ended : (ts : List Lex) → goes_on ts ≡ false → Ended ts
unfolding goes_on
ended ts ends =
    let at_greater_equal = or_parts _ _ ends in
    let at_greater = or_parts _ _ at_greater_equal.0 in
    let at_less_equal = or_parts _ _ at_greater.0 in
    let at_less = or_parts _ _ at_less_equal.0 in
    let at_not_equal = or_parts _ _ at_less.0 in
    let at_equal_equal = or_parts _ _ at_not_equal.0 in
    let at_percent = or_parts _ _ at_equal_equal.0 in
    let at_slash_slash = or_parts _ _ at_percent.0 in
    let at_star = or_parts _ _ at_slash_slash.0 in
    let at_minus = or_parts _ _ at_star.0 in
    let at_plus = or_parts _ _ at_minus.0 in
    let at_in = or_parts _ _ at_plus.0 in
    let at_not = or_parts _ _ at_in.0 in
    let at_if = or_parts _ _ at_not.0 in
    let at_and = or_parts _ _ at_if.0 in
    let at_or = or_parts _ _ at_and.0 in
    let at_left_bracket = or_parts _ _ at_or.0 in
    let at_left_paren = or_parts _ _ at_left_bracket.0 in
    record {
      dot = at_left_paren.0;
      paren = at_left_paren.1;
      bracket = at_left_bracket.1;
      or_else = at_or.1;
      and_also = at_and.1;
      choice = at_if.1;
      negation = at_not.1;
      member = at_in.1;
      plus = at_plus.1;
      minus = at_minus.1;
      star = at_star.1;
      slash_slash = at_slash_slash.1;
      percent = at_percent.1;
      equal = at_equal_equal.1;
      not_equal = at_not_equal.1;
      less = at_less.1;
      less_equal = at_less_equal.1;
      greater = at_greater.1;
      greater_equal = at_greater_equal.1;
    }

no_operator : (rank : Rank) (ts : List Lex) → Ended ts → operator_at rank ts ≡ None
unfolding operator_at
no_operator r.Or ts ends = rw ends.or_else refl
no_operator r.And ts ends = rw ends.and_also refl
no_operator r.Sum ts ends = rw (ends.plus, ends.minus) refl
no_operator r.Term ts ends = rw (ends.star, ends.slash_slash, ends.percent) refl

pub no_comparison : (ts : List Lex) → Ended ts → comparison_at ts ≡ None
unfolding comparison_at
no_comparison ts ends =
    rw (ends.equal, ends.not_equal, ends.less, ends.less_equal, ends.greater, ends.greater_equal, ends.member, ends.negation) refl

after_ends : (operand : Reading Ex) (rank : Rank) (n : ℕ) (e : Ex) (ts : List Lex) → operator_at rank ts ≡ None → chain_after operand rank n e ts ≡ gives e ts
unfolding chain_after
after_ends operand rank zero e ts none = refl
after_ends operand rank (suc n) e ts none = rw (none, chain_after) refl

pub chain_ends : (operand : Reading Ex) (rank : Rank) (e : Ex) (ts us : List Lex) → operand ts ≡ gives e us → Ended us → chain operand rank ts ≡ gives e us
unfolding chain
chain_ends operand rank e ts us is ended = rw is (after_ends operand rank _ e us (no_operator rank us ended))
