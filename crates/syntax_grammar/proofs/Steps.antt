-- What each function that reads expressions gives, by what those that it calls give.
use Rattle.std.proofs.Common.{◌≡◌, ◌∙◌, ℕ, zero, suc, ◌≤◌, List, ◌∷◌, length, false, Option, Some, None, refl, sym, ap, arith}
use Rattle.syntax_tokens.specs.declared.symbol.Symbol.TheVariants as s
use Rattle.syntax_tokens.specs.Token.{Tok, name, symbol, Lex}
use Rattle.syntax_tree.specs.declared.expr.BinaryOp.{BinaryOp}
use Rattle.syntax_tree.specs.declared.expr.BinaryOp.TheVariants as b
use Rattle.syntax_tree.specs.declared.expr.UnaryOp.TheVariants as u
use Rattle.syntax_tree.specs.Tree as t
use Rattle.syntax_tree.specs.Tree.{Ex, Bound, Cl}
use Rattle.syntax_tree.specs.View.{exs_of}
use Rattle.syntax_grammar.specs.declared.kind.Kind.TheVariants as k
use Rattle.syntax_grammar.specs.declared.kind.Rank.{Rank}
use Rattle.syntax_grammar.specs.declared.kind.Rank.TheVariants as r
use Rattle.syntax_grammar.specs.Front.{Part, Reading, gives, is_at, tail, same, name_at}
use Rattle.syntax_grammar.specs.Expressions.{Level, operator_at, comparison_at, chain, chain_after, comparison, term, sum, not_test, and_test, or_test, conditional, unary, postfix, postfix_after, postfix_rest, method_call, call, subscript, slice_from, upper_bound, Arguments, arguments, atom}
use Rattle.syntax_grammar.specs.Grammar as g
use Rattle.syntax_grammar.specs.Grammar.{IsToken, Is, IsOperator, IsCmpOp}
use Rattle.syntax_grammar.proofs.Stops.{front, tail_is, at_is, not_at, StopsPostfix}

-- a reading has come to an iteration of a loop, with iterations enough for the tokens us
pub record Comes {A : Type 0} (from : Option (Part A)) (loop : ℕ → Option (Part A)) (us : List Lex) : Type 0 where
  pub turns : ℕ
  pub enough : length us ≤ turns
  pub is : from ≡ loop turns

-- a function gives that value, and leaves that rest
pub record Reads {A : Type 0} (f : Reading A) (ts : List Lex) (a : A) (rest : List Lex) : Type 0 where
  pub is : f ts ≡ gives a rest

-- ---- operators

operator_is : {rank : Rank} {op : BinaryOp} {ts us : List Lex} → IsOperator rank op ts us → operator_at rank ts ≡ Some op
unfolding operator_at is_at same
operator_is (g.is_or is) = front (λ x. operator_at r.Or x ≡ Some b.Or) is (λ line. refl)
operator_is (g.is_and is) = front (λ x. operator_at r.And x ≡ Some b.And) is (λ line. refl)
operator_is (g.is_plus is) = front (λ x. operator_at r.Sum x ≡ Some b.Add) is (λ line. refl)
operator_is (g.is_minus is) = front (λ x. operator_at r.Sum x ≡ Some b.Subtract) is (λ line. refl)
operator_is (g.is_star is) = front (λ x. operator_at r.Term x ≡ Some b.Multiply) is (λ line. refl)
operator_is (g.is_slash_slash is) = front (λ x. operator_at r.Term x ≡ Some b.Divide) is (λ line. refl)
operator_is (g.is_percent is) = front (λ x. operator_at r.Term x ≡ Some b.Remainder) is (λ line. refl)

operator_tail : {rank : Rank} {op : BinaryOp} {ts us : List Lex} → IsOperator rank op ts us → tail ts ≡ us
operator_tail (g.is_or is) = tail_is is
operator_tail (g.is_and is) = tail_is is
operator_tail (g.is_plus is) = tail_is is
operator_tail (g.is_minus is) = tail_is is
operator_tail (g.is_star is) = tail_is is
operator_tail (g.is_slash_slash is) = tail_is is
operator_tail (g.is_percent is) = tail_is is

pub token_counts : {found : Tok} {ts us : List Lex} → IsToken found ts us → suc (length us) ≡ length ts
token_counts is = sym (ap (λ xs. length {A = Lex} xs) is.1)

operator_counts : {rank : Rank} {op : BinaryOp} {ts us : List Lex} → IsOperator rank op ts us → suc (length us) ≡ length ts
operator_counts (g.is_or is) = token_counts is
operator_counts (g.is_and is) = token_counts is
operator_counts (g.is_plus is) = token_counts is
operator_counts (g.is_minus is) = token_counts is
operator_counts (g.is_star is) = token_counts is
operator_counts (g.is_slash_slash is) = token_counts is
operator_counts (g.is_percent is) = token_counts is

module _ (operand : Reading Ex) (rank : Rank) where
  pub chain_starts : {ts us : List Lex} {e : Ex} → Reads operand ts e us → Comes (chain operand rank ts) (λ n. chain_after operand rank n e us) us
  unfolding chain
  chain_starts {us} h = record { turns = length us; enough = omega arith; is = rw (h.is, chain) refl }

  turn : {vs rest : List Lex} {f : Ex} (us : List Lex) (e : Ex) (op : BinaryOp) (n : ℕ) → operator_at rank us ≡ Some op → tail us ≡ vs → Reads operand vs f rest
      → chain_after operand rank (suc n) e us ≡ chain_after operand rank n (t.binary op e f) rest
  unfolding chain_after
  turn us e op n is tails h = rw (is, tails, h.is, chain_after) refl

  goes_on : {from : Option (Part Ex)} {vs rest : List Lex} {f : Ex} (us : List Lex) (e : Ex) (op : BinaryOp) (n : ℕ) → length us ≤ n → from ≡ chain_after operand rank n e us
      → suc (length vs) ≡ length us → operator_at rank us ≡ Some op → tail us ≡ vs → Reads operand vs f rest → length rest ≤ length vs
      → Comes from (λ n. chain_after operand rank n (t.binary op e f) rest) rest
  goes_on us e op zero enough is counts at tails h fewer = absurd (let x : ⊥ = omega (arith, enough, counts) in x)
  goes_on us e op (suc n) enough is counts at tails h fewer = record { turns = n; enough = omega (arith, enough, counts, fewer); is = is ∙ turn us e op n at tails h }

  pub chain_goes : {from : Option (Part Ex)} {us vs rest : List Lex} {op : BinaryOp} {f : Ex} (e : Ex) → Comes from (λ n. chain_after operand rank n e us) us
      → IsOperator rank op us vs → Reads operand vs f rest → length rest ≤ length vs → Comes from (λ n. chain_after operand rank n (t.binary op e f) rest) rest
  chain_goes {us} {op} e c at h fewer = goes_on us e op c.turns c.enough c.is (operator_counts at) (operator_is at) (operator_tail at) h fewer

  pub chain_stops : (us : List Lex) (e : Ex) (n : ℕ) → operator_at rank us ≡ None → chain_after operand rank n e us ≡ gives e us
  unfolding chain_after
  chain_stops us e zero h = refl
  chain_stops us e (suc n) h = rw (h, chain_after) refl

-- one turn more, by a part that takes a token at least
pub comes_on : {A : Type 0} {from : Option (Part A)} {loop next : ℕ → Option (Part A)} {us rest : List Lex}
    → Comes from loop us → suc (length rest) ≤ length us → ((n : ℕ) → loop (suc n) ≡ next n) → Comes from next rest
comes_on {from} {loop} {next} {us} {rest} c fewer h = go c.turns c.enough c.is
  where
    go : (n : ℕ) → length us ≤ n → from ≡ loop n → Comes from next rest
    go zero enough is = absurd (let no : ⊥ = omega (arith, enough, fewer) in no)
    go (suc n) enough is = record { turns = n; enough = omega (arith, enough, fewer); is = is ∙ h n }

pub comes_to : {A : Type 0} {from : Option (Part A)} {loop : ℕ → Option (Part A)} {us rest : List Lex} {a : A}
    → Comes from loop us → ((n : ℕ) → loop n ≡ gives a rest) → from ≡ gives a rest
comes_to c h = c.is ∙ h c.turns

pub name_is : {x : List ℕ} {ts us : List Lex} → IsToken (name x) ts us → name_at ts ≡ Some x
unfolding name_at
name_is {x} is = front (λ xs. name_at xs ≡ Some x) is (λ line. refl)

cmp_is : {op : BinaryOp} {ts us : List Lex} → IsCmpOp op ts us → comparison_at ts ≡ Some (record { op = op; rest = us })
unfolding comparison_at is_at same tail
cmp_is {us} (g.is_equal is) = front (λ x. comparison_at x ≡ Some (record { op = b.Equal; rest = us })) is (λ line. refl)
cmp_is {us} (g.is_not_equal is) = front (λ x. comparison_at x ≡ Some (record { op = b.NotEqual; rest = us })) is (λ line. refl)
cmp_is {us} (g.is_less is) = front (λ x. comparison_at x ≡ Some (record { op = b.Less; rest = us })) is (λ line. refl)
cmp_is {us} (g.is_less_equal is) = front (λ x. comparison_at x ≡ Some (record { op = b.LessEqual; rest = us })) is (λ line. refl)
cmp_is {us} (g.is_greater is) = front (λ x. comparison_at x ≡ Some (record { op = b.Greater; rest = us })) is (λ line. refl)
cmp_is {us} (g.is_greater_equal is) = front (λ x. comparison_at x ≡ Some (record { op = b.GreaterEqual; rest = us })) is (λ line. refl)
cmp_is {us} (g.is_in is) = front (λ x. comparison_at x ≡ Some (record { op = b.In; rest = us })) is (λ line. refl)
cmp_is {us} (g.is_not_in is in_is) =
    front (λ x. comparison_at x ≡ Some (record { op = b.NotIn; rest = us })) is
    (λ line. front (λ y. comparison_at (record { token = symbol s.Not; line = line } ∷ y) ≡ Some (record { op = b.NotIn; rest = us })) in_is (λ other. refl))

module _ (l : Level) where
  -- ---- operators

  pub reads_test_or : {ts rest : List Lex} {e : Ex} → Reads (or_test l) ts e rest → is_at s.If rest ≡ false → Reads (conditional l) ts e rest
  unfolding conditional
  reads_test_or h stops = record { is = rw (h.is, stops, conditional) refl }

  pub reads_choice : {ts us vs ws xs rest : List Lex} {e condition other : Ex} → Reads (or_test l) ts e us → Is s.If us vs → Reads (or_test l) vs condition ws → Is s.Else ws xs
      → Reads (l k.Test) xs other rest → Reads (conditional l) ts (t.choice e condition other) rest
  unfolding conditional
  reads_choice h if_is c else_is o = record { is = rw (h.is, at_is if_is, tail_is if_is, c.is, at_is else_is, tail_is else_is, o.is, conditional) refl }

  pub reads_or : {ts us : List Lex} {e : Ex} → Comes (chain (and_test l) r.Or ts) (λ n. chain_after (and_test l) r.Or n e us) us → operator_at r.Or us ≡ None → Reads (or_test l) ts e us
  unfolding or_test
  reads_or {us} {e} c stops = record { is = comes_to c (λ n. chain_stops (and_test l) r.Or us e n stops) }

  pub reads_and : {ts us : List Lex} {e : Ex} → Comes (chain (not_test l) r.And ts) (λ n. chain_after (not_test l) r.And n e us) us → operator_at r.And us ≡ None → Reads (and_test l) ts e us
  unfolding and_test
  reads_and {us} {e} c stops = record { is = comes_to c (λ n. chain_stops (not_test l) r.And us e n stops) }

  pub reads_sum : {ts us : List Lex} {e : Ex} → Comes (chain (term l) r.Sum ts) (λ n. chain_after (term l) r.Sum n e us) us → operator_at r.Sum us ≡ None → Reads (sum l) ts e us
  unfolding sum
  reads_sum {us} {e} c stops = record { is = comes_to c (λ n. chain_stops (term l) r.Sum us e n stops) }

  pub reads_term : {ts us : List Lex} {e : Ex} → Comes (chain (unary l) r.Term ts) (λ n. chain_after (unary l) r.Term n e us) us → operator_at r.Term us ≡ None → Reads (term l) ts e us
  unfolding term
  reads_term {us} {e} c stops = record { is = comes_to c (λ n. chain_stops (unary l) r.Term us e n stops) }

  pub reads_not : {ts us rest : List Lex} {e : Ex} → Is s.Not ts us → Reads (l k.Not) us e rest → Reads (not_test l) ts (t.unary u.Not e) rest
  unfolding not_test
  reads_not is h = record { is = rw (at_is is, tail_is is, h.is, not_test) refl }

  pub reads_not_cmp : {ts rest : List Lex} {e : Ex} → is_at s.Not ts ≡ false → Reads (comparison (sum l)) ts e rest → Reads (not_test l) ts e rest
  unfolding not_test
  reads_not_cmp other h = record { is = rw (other, not_test) h.is }

  pub reads_cmp_sum : {ts rest : List Lex} {e : Ex} → Reads (sum l) ts e rest → comparison_at rest ≡ None → Reads (comparison (sum l)) ts e rest
  unfolding comparison
  reads_cmp_sum h stops = record { is = rw (h.is, stops, comparison) refl }

  pub reads_cmp : {ts us vs rest : List Lex} {op : BinaryOp} {e f : Ex} → Reads (sum l) ts e us → IsCmpOp op us vs → Reads (sum l) vs f rest → Reads (comparison (sum l)) ts (t.binary op e f) rest
  unfolding comparison
  reads_cmp h op i = record { is = rw (h.is, cmp_is op, i.is, comparison) refl }

  pub reads_plus : {ts us rest : List Lex} {e : Ex} → Is s.Plus ts us → Reads (l k.Unary) us e rest → Reads (unary l) ts (t.unary u.Plus e) rest
  unfolding unary
  reads_plus is h = record { is = rw (at_is is, tail_is is, h.is, unary) refl }

  pub reads_minus : {ts us rest : List Lex} {e : Ex} → Is s.Minus ts us → Reads (l k.Unary) us e rest → Reads (unary l) ts (t.unary u.Minus e) rest
  unfolding unary same
  reads_minus is h = record { is = rw (not_at s.Plus is refl, at_is is, tail_is is, h.is, unary) refl }

  pub reads_postfix_unary : {ts rest : List Lex} {e : Ex} → is_at s.Plus ts ≡ false → is_at s.Minus ts ≡ false → Reads (postfix l) ts e rest → Reads (unary l) ts e rest
  unfolding unary
  reads_postfix_unary plus minus h = record { is = rw (plus, minus, unary) h.is }

  -- ---- calls, indexes and slices

  pub postfix_begins : {ts us : List Lex} {e : Ex} → Reads (atom l) ts e us → Comes (postfix l ts) (λ n. postfix_after l n e us) us
  unfolding postfix postfix_rest
  postfix_begins {us} h = record { turns = length us; enough = omega arith; is = rw (h.is, postfix) refl }

  method_turn : {us vs rest : List Lex} {f : Ex} (e : Ex) (n : ℕ) → Is s.Dot us vs → Reads (method_call l e) vs f rest → postfix_after l (suc n) e us ≡ postfix_after l n f rest
  unfolding postfix_after
  method_turn e n is h = rw (at_is is, tail_is is, h.is, postfix_after) refl

  call_turn : {us vs rest : List Lex} {f : Ex} (e : Ex) (n : ℕ) → Is s.LeftParen us vs → Reads (call l e) vs f rest → postfix_after l (suc n) e us ≡ postfix_after l n f rest
  unfolding postfix_after same
  call_turn e n is h = rw (not_at s.Dot is refl, at_is is, tail_is is, h.is, postfix_after) refl

  subscript_turn : {us vs rest : List Lex} {f : Ex} (e : Ex) (n : ℕ) → Is s.LeftBracket us vs → Reads (subscript l e) vs f rest → postfix_after l (suc n) e us ≡ postfix_after l n f rest
  unfolding postfix_after same
  subscript_turn e n is h = rw (not_at s.Dot is refl, not_at s.LeftParen is refl, at_is is, tail_is is, h.is, postfix_after) refl

  pub method_goes : {from : Option (Part Ex)} {us vs rest : List Lex} {f : Ex} (e : Ex) → Comes from (λ n. postfix_after l n e us) us → Is s.Dot us vs → Reads (method_call l e) vs f rest
      → length rest ≤ length vs → Comes from (λ n. postfix_after l n f rest) rest
  method_goes e c is h fewer = comes_on c (let one = token_counts is in omega (arith, one, fewer)) (λ n. method_turn e n is h)

  pub call_goes : {from : Option (Part Ex)} {us vs rest : List Lex} {f : Ex} (e : Ex) → Comes from (λ n. postfix_after l n e us) us → Is s.LeftParen us vs → Reads (call l e) vs f rest
      → length rest ≤ length vs → Comes from (λ n. postfix_after l n f rest) rest
  call_goes e c is h fewer = comes_on c (let one = token_counts is in omega (arith, one, fewer)) (λ n. call_turn e n is h)

  pub subscript_goes : {from : Option (Part Ex)} {us vs rest : List Lex} {f : Ex} (e : Ex) → Comes from (λ n. postfix_after l n e us) us → Is s.LeftBracket us vs → Reads (subscript l e) vs f rest
      → length rest ≤ length vs → Comes from (λ n. postfix_after l n f rest) rest
  subscript_goes e c is h fewer = comes_on c (let one = token_counts is in omega (arith, one, fewer)) (λ n. subscript_turn e n is h)

  postfix_stops : (us : List Lex) (e : Ex) (n : ℕ) → StopsPostfix us → postfix_after l n e us ≡ gives e us
  unfolding postfix_after
  postfix_stops us e zero h = refl
  postfix_stops us e (suc n) h = rw (h.0, h.1, h.2, postfix_after) refl

  pub reads_postfix : {ts us : List Lex} {e : Ex} → Comes (postfix l ts) (λ n. postfix_after l n e us) us → StopsPostfix us → Reads (postfix l) ts e us
  reads_postfix {us} {e} c stops = record { is = comes_to c (λ n. postfix_stops us e n stops) }

  pub reads_method : {ts us vs rest : List Lex} {x : List ℕ} {found : Arguments} (e : Ex) → IsToken (name x) ts us → Is s.LeftParen us vs → Reads (arguments l) vs found rest
      → Reads (method_call l e) ts (t.method e x (exs_of found.values) found.names) rest
  unfolding method_call
  reads_method e is open_is h = record { is = rw (name_is is, tail_is is, at_is open_is, tail_is open_is, h.is, method_call) refl }

  pub reads_call : {ts rest : List Lex} {found : Arguments} (e : Ex) → Reads (arguments l) ts found rest → Reads (call l e) ts (t.call e (exs_of found.values) found.names) rest
  unfolding call
  reads_call e h = record { is = rw (h.is, call) refl }

  pub reads_index : {ts us rest : List Lex} {at : Ex} (e : Ex) → is_at s.Colon ts ≡ false → Reads (l k.Test) ts at us → Is s.RightBracket us rest → Reads (subscript l e) ts (t.index e at) rest
  unfolding subscript same
  reads_index e other h is = record { is = rw (other, h.is, not_at s.Colon is refl, at_is is, tail_is is, subscript) refl }

  pub reads_slice_from_none : {ts us rest : List Lex} {f : Ex} (e : Ex) → Is s.Colon ts us → Reads (slice_from l e t.no_bound) us f rest → Reads (subscript l e) ts f rest
  unfolding subscript
  reads_slice_from_none e is h = record { is = rw (at_is is, tail_is is, subscript) h.is }

  pub reads_slice_from : {ts us vs rest : List Lex} {at f : Ex} (e : Ex) → is_at s.Colon ts ≡ false → Reads (l k.Test) ts at us → Is s.Colon us vs → Reads (slice_from l e (t.bound at)) vs f rest
      → Reads (subscript l e) ts f rest
  unfolding subscript
  reads_slice_from e other h is i = record { is = rw (other, h.is, at_is is, tail_is is, subscript) i.is }

  pub reads_slice : {ts us rest : List Lex} {to : Bound} (e : Ex) (from : Bound) → Reads (upper_bound l) ts to us → Is s.RightBracket us rest → Reads (slice_from l e from) ts (t.slice e from to) rest
  unfolding slice_from
  reads_slice e from h is = record { is = rw (h.is, at_is is, tail_is is, slice_from) refl }

  pub reads_no_bound : {ts us : List Lex} → Is s.RightBracket ts us → Reads (upper_bound l) ts t.no_bound ts
  unfolding upper_bound
  reads_no_bound is = record { is = rw (at_is is, upper_bound) refl }

  pub reads_bound : {ts us : List Lex} {e : Ex} → is_at s.RightBracket ts ≡ false → Reads (l k.Test) ts e us → Reads (upper_bound l) ts (t.bound e) us
  unfolding upper_bound
  reads_bound other h = record { is = rw (other, h.is, upper_bound) refl }
