-- What the grammar relates is what the functions read, where the nesting leaves levels enough: expressions.
use Rattle.std.proofs.Common.{◌≡◌, ◌∙◌, ℕ, zero, suc, List, [], ◌∷◌, ◌++◌, true, false, Option, Some, None, refl, sym, ap, subst, arith, append_assoc}
use Rattle.std.proofs.lemmas.Bool.{and_parts, false≢true}
use Rattle.syntax_tokens.specs.declared.symbol.Symbol.TheVariants as s
use Rattle.syntax_tokens.specs.Token.{Lex}
use Rattle.syntax_tree.specs.Tree as t
use Rattle.syntax_tree.specs.Tree.{Ex, Bound, Cl}
use Rattle.syntax_tree.specs.View.{exs_of}
use Rattle.syntax_grammar.specs.declared.kind.Kind.TheVariants as k
use Rattle.syntax_grammar.specs.declared.kind.Rank.TheVariants as r
use Rattle.syntax_grammar.specs.Front.{Part, gives, is_at, tail, is_name, name_at, is_name_before}
use Rattle.syntax_grammar.specs.Expressions.{Level, expr, conditional, and_test, not_test, comparison, sum, term, unary, postfix, postfix_after, chain, chain_after, atom, arguments, arguments_so_far, in_brackets, in_braces, items, items_after, entries, entries_after, clauses, clauses_after, target, targets, more_targets, targets_after, upper_bound}
use Rattle.syntax_grammar.specs.Grammar as g
use Rattle.syntax_grammar.specs.Grammar.{IsToken, Is, IsCommaOrNone, IsTest, IsOr, IsAnd, IsNot, IsCmp, IsSum, IsTerm, IsUnary, IsPostfix, IsBound, IsArgs, IsSomeArgs, IsAtom, IsItems, IsTests, IsEntries, IsSomeEntries, IsClauses, IsTargets, IsSomeTargets, IsTarget}
use Rattle.syntax_grammar.proofs.Moves.{test_moves, or_moves, and_moves, not_moves, sum_moves, term_moves, unary_moves, postfix_moves, bound_moves, args_moves, some_args_moves, tests_moves, some_entries_moves, clauses_moves, targets_moves, some_targets_moves, target_moves}
use Rattle.syntax_grammar.proofs.Rooms.{Can, Inside, can_after, can_counted, can_passed, can_down, can_open, can_operator, can_cmp, can_fewer, inside_can, inside_after, inside_after_list, inside_counted, inside_passed, inside_separated, inside_fewer, inside_fewer_some, nested}
use Rattle.syntax_grammar.proofs.Starts.{StartsPostfix, is_next, name_next, postfix_starts, cmp_starts, test_starts, tests_start, entries_start}
use Rattle.syntax_grammar.proofs.Steps as f
use Rattle.syntax_grammar.proofs.Steps.{Reads, Comes, token_counts}
use Rattle.syntax_grammar.proofs.Lists as q
use Rattle.syntax_grammar.proofs.Lists.{behind}
use Rattle.syntax_grammar.proofs.Stops.{at_is, not_at, StopsPostfix, StopsTerm, StopsCmp, StopsAnd, StopsOr, StopsTest, comma_stops, colon_stops, paren_stops, bracket_stops, brace_stops, for_stops, else_stops, equal_stops, if_stops, in_stops, or_stops, and_stops, sum_stops, term_stops, cmp_stops, comma_not_for, bracket_not_for, brace_not_for, comma_not_equal, paren_not_equal, paren_not_comma, bracket_not_comma, brace_not_comma, in_not_comma}

-- ---- a postfix expression alone

pub alone : (l : Level) {ts rest : List Lex} {e : Ex} → Reads (postfix l) ts e rest → StartsPostfix ts → StopsTest rest → Reads (conditional l) ts e rest
alone l h starts stops =
    let unary_is = f.reads_postfix_unary l starts.1 starts.2 h in
    let term_is = f.reads_term l (f.chain_starts (unary l) r.Term unary_is) stops.0.0.0.0.0.1 in
    let sum_is = f.reads_sum l (f.chain_starts (term l) r.Sum term_is) stops.0.0.0.0.1 in
    let cmp_is = f.reads_cmp_sum l sum_is stops.0.0.0.1 in
    let not_is = f.reads_not_cmp l starts.0.1 cmp_is in
    let and_is = f.reads_and l (f.chain_starts (not_test l) r.And not_is) stops.0.0.1 in
    f.reads_test_or l (f.reads_or l (f.chain_starts (and_test l) r.Or and_is) stops.0.1) stops.1

-- A name before an equals sign is read alone, so that no plain argument begins so.
abbrev rest_of : {A : Type 0} → Option (Part A) → List Lex
rest_of None = []
rest_of (Some part) = part.rest

rest_is : {A : Type 0} {a b : A} {us vs : List Lex} → gives a us ≡ gives b vs → us ≡ vs
rest_is h = ap rest_of h

name_alone : (m : ℕ) (ts rest : List Lex) (e : Ex) (found : Option (List ℕ)) → name_at ts ≡ found → is_name found ≡ true → is_at s.Equal (tail ts) ≡ true
    → Reads (expr m k.Test) ts e rest → is_at s.Equal rest ≡ false → ⊥
unfolding expr
name_alone m ts rest e None is h i j other = false≢true h
name_alone zero ts rest e (Some x) is h i j other = cc (j.is)
name_alone (suc m) ts rest e (Some x) is h i j other =
    let named = name_next x ts is in
    let equal = is_next s.Equal (tail ts) i in
    let read = alone (expr m) (f.reads_postfix (expr m) (f.postfix_begins (expr m) (q.reads_name (expr m) named)) (equal_stops equal).0.0.0.0.0.0) (postfix_starts (g.postfix_atom (g.a_name named))) (equal_stops equal) in
    let same : rest ≡ tail ts = rest_is (sym j.is ∙ read.is) in
    false≢true (sym other ∙ ap (is_at s.Equal) same ∙ i)

no_name : {ts rest : List Lex} {e : Ex} (m : ℕ) → Reads (expr m k.Test) ts e rest → is_at s.Equal rest ≡ false → is_name_before s.Equal ts ≡ false
unfolding is_name_before
no_name {ts} {rest} {e} m h other =
    elim (is_name_before s.Equal ts) as (λ b. is_name_before s.Equal ts ≡ b → b ≡ false) [
      | true ↦ λ both. let parts = and_parts (is_name (name_at ts)) (is_at s.Equal (tail ts)) both in absurd (name_alone m ts rest e (name_at ts) refl parts.0 parts.1 h other)
      | false ↦ λ both. refl
    ] refl

-- ---- ends of lists

args_end : {us vs rest : List Lex} → IsCommaOrNone us vs → Is s.RightParen vs rest → StopsTest us × (is_at s.Equal us ≡ false)
args_end (g.comma is) close_is = (comma_stops is, comma_not_equal is)
args_end g.no_comma close_is = (paren_stops close_is, paren_not_equal close_is)

parens_end : {us vs rest : List Lex} → IsCommaOrNone us vs → Is s.RightParen vs rest → StopsTest us
parens_end (g.comma is) close_is = comma_stops is
parens_end g.no_comma close_is = paren_stops close_is

brackets_end : {us vs rest : List Lex} → IsCommaOrNone us vs → Is s.RightBracket vs rest → StopsTest us × (is_at s.For us ≡ false)
brackets_end (g.comma is) close_is = (comma_stops is, comma_not_for is)
brackets_end g.no_comma close_is = (bracket_stops close_is, bracket_not_for close_is)

braces_end : {us vs rest : List Lex} → IsCommaOrNone us vs → Is s.RightBrace vs rest → StopsTest us × (is_at s.For us ≡ false)
braces_end (g.comma is) close_is = (comma_stops is, comma_not_for is)
braces_end g.no_comma close_is = (brace_stops close_is, brace_not_for close_is)

clauses_begin : {ts us : List Lex} {cs : List Cl} → IsClauses ts cs us → (vs : List Lex) × Is s.For ts vs
clauses_begin (g.first_for {us = us} is target in_is e) = (us, is)
clauses_begin (g.more_for d is target in_is e) = clauses_begin d
clauses_begin (g.more_if d is e) = clauses_begin d

-- ---- lists, by their first members

pub record Listed (m : ℕ) (ts : List Lex) (es : List Ex) (us : List Lex) : Type 0 where
  pub first : Ex
  pub left : List Lex
  pub reads : Reads (expr m k.Test) ts first left
  pub not_for : is_at s.For left ≡ false
  pub comes : Comes (items (expr m) s.RightBracket first left) (λ n. items_after (expr m) s.RightBracket n es us) us

pub record Entered (m : ℕ) (ts : List Lex) (keys values : List Ex) (us : List Lex) : Type 0 where
  pub key : Ex
  pub value : Ex
  pub at_colon : List Lex
  pub at_value : List Lex
  pub left : List Lex
  pub key_reads : Reads (expr m k.Test) ts key at_colon
  pub colon : Is s.Colon at_colon at_value
  pub value_reads : Reads (expr m k.Test) at_value value left
  pub not_for : is_at s.For left ≡ false
  pub comes : Comes (entries (expr m) (record { keys = key ∷ []; values = value ∷ [] }) left) (λ n. entries_after (expr m) n (record { keys = keys; values = values }) us) us

pub record Targeted (m : ℕ) (ts : List Lex) (es : List Ex) (us : List Lex) : Type 0 where
  pub first : Ex
  pub left : List Lex
  pub reads : Reads (target (expr m)) ts first left
  pub at_comma : is_at s.Comma left ≡ true
  pub comes : Comes (more_targets (expr m) first left) (λ n. targets_after (expr m) n es us) us

-- ---- all expressions

mutual
  pub test_reads : {ts rest : List Lex} {e : Ex} → IsTest ts e rest → (m : ℕ) → Can (suc m) ts → StopsTest rest → Reads (conditional (expr m)) ts e rest
  test_reads (g.test_or d) m x stops = f.reads_test_or (expr m) (f.reads_or (expr m) (or_comes d m x stops.0.0) stops.0.1) stops.1
  test_reads (g.choice d if_is c else_is o) m x stops =
      let y = can_counted (can_after x (or_moves d)) if_is refl in
      let z = can_down (can_after y (or_moves c)) else_is refl in
      let condition = else_stops else_is in
      f.reads_choice (expr m) (f.reads_or (expr m) (or_comes d m x (if_stops if_is).0) (if_stops if_is).1) if_is (f.reads_or (expr m) (or_comes c m y condition.0.0) condition.0.1) else_is
      (nested k.Test z (λ n w. test_reads o n w stops))

  pub or_comes : {ts rest : List Lex} {e : Ex} → IsOr ts e rest → (m : ℕ) → Can (suc m) ts → StopsAnd rest
      → Comes (chain (and_test (expr m)) r.Or ts) (λ n. chain_after (and_test (expr m)) r.Or n e rest) rest
  or_comes (g.or_and d) m x stops = f.chain_starts (and_test (expr m)) r.Or (f.reads_and (expr m) (and_comes d m x stops.0) stops.1)
  or_comes (g.or_more {e = a} d op e) m x stops =
      let y = can_operator (can_after x (or_moves d)) op in
      let fewer = can_fewer y (and_moves e) in
      f.chain_goes (and_test (expr m)) r.Or a (or_comes d m x (or_stops op)) op (f.reads_and (expr m) (and_comes e m y stops.0) stops.1) (omega (arith, fewer))

  pub and_comes : {ts rest : List Lex} {e : Ex} → IsAnd ts e rest → (m : ℕ) → Can (suc m) ts → StopsCmp rest
      → Comes (chain (not_test (expr m)) r.And ts) (λ n. chain_after (not_test (expr m)) r.And n e rest) rest
  and_comes (g.and_not d) m x stops = f.chain_starts (not_test (expr m)) r.And (not_reads d m x stops)
  and_comes (g.and_more {e = a} d op e) m x stops =
      let y = can_operator (can_after x (and_moves d)) op in
      let fewer = can_fewer y (not_moves e) in
      f.chain_goes (not_test (expr m)) r.And a (and_comes d m x (and_stops op)) op (not_reads e m y stops) (omega (arith, fewer))

  pub not_reads : {ts rest : List Lex} {e : Ex} → IsNot ts e rest → (m : ℕ) → Can (suc m) ts → StopsCmp rest → Reads (not_test (expr m)) ts e rest
  not_reads (g.not_not is d) m x stops = f.reads_not (expr m) is (nested k.Not (can_down x is refl) (λ n y. not_reads d n y stops))
  not_reads (g.not_cmp d) m x stops = f.reads_not_cmp (expr m) (cmp_starts d).1 (cmp_reads d m x stops)

  pub cmp_reads : {ts rest : List Lex} {e : Ex} → IsCmp ts e rest → (m : ℕ) → Can (suc m) ts → StopsCmp rest → Reads (comparison (sum (expr m))) ts e rest
  cmp_reads (g.cmp_sum d) m x stops = f.reads_cmp_sum (expr m) (f.reads_sum (expr m) (sum_comes d m x stops.0.0) stops.0.1) stops.1
  cmp_reads (g.cmp d op e) m x stops =
      let y = can_cmp (can_after x (sum_moves d)) op in
      let left = cmp_stops op in
      f.reads_cmp (expr m) (f.reads_sum (expr m) (sum_comes d m x left.0) left.1) op (f.reads_sum (expr m) (sum_comes e m y stops.0.0) stops.0.1)

  pub sum_comes : {ts rest : List Lex} {e : Ex} → IsSum ts e rest → (m : ℕ) → Can (suc m) ts → StopsTerm rest
      → Comes (chain (term (expr m)) r.Sum ts) (λ n. chain_after (term (expr m)) r.Sum n e rest) rest
  sum_comes (g.sum_term d) m x stops = f.chain_starts (term (expr m)) r.Sum (f.reads_term (expr m) (term_comes d m x stops.0) stops.1)
  sum_comes (g.sum_more {e = a} d op e) m x stops =
      let y = can_operator (can_after x (sum_moves d)) op in
      let fewer = can_fewer y (term_moves e) in
      f.chain_goes (term (expr m)) r.Sum a (sum_comes d m x (sum_stops op)) op (f.reads_term (expr m) (term_comes e m y stops.0) stops.1) (omega (arith, fewer))

  pub term_comes : {ts rest : List Lex} {e : Ex} → IsTerm ts e rest → (m : ℕ) → Can (suc m) ts → StopsPostfix rest
      → Comes (chain (unary (expr m)) r.Term ts) (λ n. chain_after (unary (expr m)) r.Term n e rest) rest
  term_comes (g.term_unary d) m x stops = f.chain_starts (unary (expr m)) r.Term (unary_reads d m x stops)
  term_comes (g.term_more {e = a} d op e) m x stops =
      let y = can_operator (can_after x (term_moves d)) op in
      let fewer = can_fewer y (unary_moves e) in
      f.chain_goes (unary (expr m)) r.Term a (term_comes d m x (term_stops op)) op (unary_reads e m y stops) (omega (arith, fewer))

  pub unary_reads : {ts rest : List Lex} {e : Ex} → IsUnary ts e rest → (m : ℕ) → Can (suc m) ts → StopsPostfix rest → Reads (unary (expr m)) ts e rest
  unary_reads (g.unary_plus is d) m x stops = f.reads_plus (expr m) is (nested k.Unary (can_down x is refl) (λ n y. unary_reads d n y stops))
  unary_reads (g.unary_minus is d) m x stops = f.reads_minus (expr m) is (nested k.Unary (can_down x is refl) (λ n y. unary_reads d n y stops))
  unary_reads (g.unary_postfix d) m x stops =
      let starts = postfix_starts d in
      f.reads_postfix_unary (expr m) starts.1 starts.2 (f.reads_postfix (expr m) (postfix_comes d m x) stops)

  pub postfix_comes : {ts rest : List Lex} {e : Ex} → IsPostfix ts e rest → (m : ℕ) → Can (suc m) ts → Comes (postfix (expr m) ts) (λ n. postfix_after (expr m) n e rest) rest
  postfix_comes (g.postfix_atom d) m x = f.postfix_begins (expr m) (atom_reads d m x)
  postfix_comes (g.method {e = a} d dot is open_is found close_is) m x =
      let y = can_open (can_passed (can_counted (can_after x (postfix_moves d)) dot refl) is refl) open_is refl in
      let one = token_counts is in
      let two = token_counts open_is in
      let three = token_counts close_is in
      let fewer = inside_fewer y (args_moves found) in
      f.method_goes (expr m) a (postfix_comes d m x) dot (f.reads_method (expr m) a is open_is (args_read found m y close_is)) (omega (arith, one, two, three, fewer))
  postfix_comes (g.call {e = a} d open_is found close_is) m x =
      let y = can_open (can_after x (postfix_moves d)) open_is refl in
      let three = token_counts close_is in
      let fewer = inside_fewer y (args_moves found) in
      f.call_goes (expr m) a (postfix_comes d m x) open_is (f.reads_call (expr m) a (args_read found m y close_is)) (omega (arith, three, fewer))
  postfix_comes (g.index {e = a} d open_is e close_is) m x =
      let y = inside_can (can_open (can_after x (postfix_moves d)) open_is refl) in
      let three = token_counts close_is in
      let fewer = can_fewer y (test_moves e) in
      f.subscript_goes (expr m) a (postfix_comes d m x) open_is
      (f.reads_index (expr m) a (test_starts e).3 (nested k.Test y (λ n z. test_reads e n z (bracket_stops close_is))) close_is) (omega (arith, three, fewer))
  postfix_comes (g.slice {e = a} d open_is g.no_bound colon to close_is) m x =
      let y = can_open (can_after x (postfix_moves d)) open_is refl in
      let z = inside_passed y colon refl in
      let one = token_counts colon in
      let three = token_counts close_is in
      let fewer = inside_fewer_some z (bound_moves to) in
      f.subscript_goes (expr m) a (postfix_comes d m x) open_is
      (f.reads_slice_from_none (expr m) a colon (f.reads_slice (expr m) a t.no_bound (bound_reads to m z close_is) close_is)) (omega (arith, one, three, fewer))
  postfix_comes (g.slice {e = a} d open_is (g.bound {e = from} e) colon to close_is) m x =
      let y = can_open (can_after x (postfix_moves d)) open_is refl in
      let z = inside_passed (inside_after y (test_moves e)) colon refl in
      let one = token_counts colon in
      let three = token_counts close_is in
      let before = can_fewer (inside_can y) (test_moves e) in
      let fewer = inside_fewer_some z (bound_moves to) in
      f.subscript_goes (expr m) a (postfix_comes d m x) open_is
      (f.reads_slice_from (expr m) a (test_starts e).3 (nested k.Test (inside_can y) (λ n w. test_reads e n w (colon_stops colon))) colon (f.reads_slice (expr m) a (t.bound from) (bound_reads to m z close_is) close_is))
      (omega (arith, one, three, before, fewer))

  pub bound_reads : {ts us rest : List Lex} {b : Bound} → IsBound ts b us → (m : ℕ) → Inside m ts → Is s.RightBracket us rest → Reads (upper_bound (expr m)) ts b us
  bound_reads g.no_bound m x close_is = f.reads_no_bound (expr m) close_is
  bound_reads (g.bound d) m x close_is = f.reads_bound (expr m) (test_starts d).1 (nested k.Test (inside_can x) (λ n y. test_reads d n y (bracket_stops close_is)))

  pub args_read : {ts us rest : List Lex} {es : List Ex} {names : List (List ℕ)} → IsArgs ts es names us → (m : ℕ) → Inside m ts → Is s.RightParen us rest
      → Reads (arguments (expr m)) ts (record { values = es; names = names }) rest
  args_read g.no_args m x close_is = q.reads_arguments (expr m) (q.arguments_none (expr m) close_is) close_is
  args_read (g.args {es = es} {names = names} d last) m x close_is =
      q.reads_arguments (expr m) (record { is = q.arguments_stop (expr m) (record { values = es; names = names }) (args_come d m x (args_end last close_is)) last close_is (paren_not_comma close_is) }) close_is

  pub args_come : {ts us : List Lex} {es : List Ex} {names : List (List ℕ)} → IsSomeArgs ts es names us → (m : ℕ) → Inside m ts → StopsTest us × (is_at s.Equal us ≡ false)
      → Comes (arguments_so_far (expr m) ts) (behind (expr m) (record { values = es; names = names }) us) us
  args_come (g.plain d) m x ends =
      let h = nested k.Test (inside_can x) (λ n y. test_reads d n y ends.0) in
      q.arguments_begin (expr m) (test_starts d).0 (q.reads_plain (expr m) [] (no_name m h ends.1) h) (can_fewer (inside_can x) (test_moves d))
  args_come (g.named is equal d) m x ends =
      let y = inside_can (inside_passed (inside_passed x is refl) equal refl) in
      let one = token_counts is in
      let two = token_counts equal in
      let fewer = can_fewer y (test_moves d) in
      q.arguments_begin (expr m) (not_at s.RightParen is refl) (q.reads_named (expr m) (record { values = []; names = [] }) is equal (nested k.Test y (λ n z. test_reads d n z ends.0))) (omega (arith, one, two, fewer))
  args_come (g.more_plain {es = es} d is e) m x ends =
      let y = inside_can (inside_separated (inside_after_list x (some_args_moves d)) is refl) in
      let h = nested k.Test y (λ n z. test_reads e n z ends.0) in
      let fewer = can_fewer y (test_moves e) in
      q.arguments_go (expr m) (record { values = es; names = [] }) (args_come d m x (comma_stops is, comma_not_equal is)) is (test_starts e).0 (q.reads_plain (expr m) es (no_name m h ends.1) h) (omega (arith, fewer))
  args_come (g.more_named {es = es} {names = names} d is named equal e) m x ends =
      let y = inside_can (inside_passed (inside_passed (inside_separated (inside_after_list x (some_args_moves d)) is refl) named refl) equal refl) in
      let one = token_counts named in
      let two = token_counts equal in
      let fewer = can_fewer y (test_moves e) in
      q.arguments_go (expr m) (record { values = es; names = names }) (args_come d m x (comma_stops is, comma_not_equal is)) is (not_at s.RightParen named refl)
      (q.reads_named (expr m) (record { values = es; names = names }) named equal (nested k.Test y (λ n z. test_reads e n z ends.0))) (omega (arith, one, two, fewer))

  pub atom_reads : {ts rest : List Lex} {e : Ex} → IsAtom ts e rest → (m : ℕ) → Can (suc m) ts → Reads (atom (expr m)) ts e rest
  atom_reads (g.a_name is) m x = q.reads_name (expr m) is
  atom_reads (g.an_int is) m x = q.reads_int (expr m) is
  atom_reads (g.a_string is) m x = q.reads_string (expr m) is
  atom_reads (g.none is) m x = q.reads_none (expr m) is
  atom_reads (g.yes is) m x = q.reads_true (expr m) is
  atom_reads (g.no is) m x = q.reads_false (expr m) is
  atom_reads (g.empty_tuple open_is close_is) m x = q.reads_in_parens (expr m) open_is (q.reads_empty_tuple (expr m) close_is)
  atom_reads (g.parens open_is d close_is) m x =
      let y = inside_can (can_open x open_is refl) in
      q.reads_in_parens (expr m) open_is (q.reads_parens (expr m) (test_starts d).0 (nested k.Test y (λ n z. test_reads d n z (paren_stops close_is))) close_is)
  atom_reads (g.tuple {e = a} open_is d is es close_is) m x =
      let y = can_open x open_is refl in
      let z = inside_separated (inside_after y (test_moves d)) is refl in
      q.reads_in_parens (expr m) open_is
      (q.reads_tuple (expr m) (test_starts d).0 (nested k.Test (inside_can y) (λ n w. test_reads d n w (comma_stops is))) is (items_read es m z a is close_is) close_is)
  atom_reads (g.list open_is es close_is) m x = q.reads_in_brackets (expr m) open_is (list_reads es m (can_open x open_is refl) close_is)
  atom_reads (g.list_of open_is d cs close_is) m x =
      let y = can_open x open_is refl in
      let begin = clauses_begin cs in
      let stops = bracket_stops close_is in
      q.reads_in_brackets (expr m) open_is
      (q.reads_list_of (expr m) (test_starts d).1 (nested k.Test (inside_can y) (λ n w. test_reads d n w (for_stops begin.1))) (at_is begin.1)
      (q.clauses_stop (expr m) (clauses_come cs m (inside_after y (test_moves d)) stops.0) (bracket_not_for close_is) stops.1) close_is)
  atom_reads (g.dict open_is es close_is) m x = q.reads_in_braces (expr m) open_is (dict_reads es m (can_open x open_is refl) close_is)
  atom_reads (g.dict_of {key = a} {value = b} open_is key colon value cs close_is) m x =
      let y = can_open x open_is refl in
      let z = inside_passed (inside_after y (test_moves key)) colon refl in
      let begin = clauses_begin cs in
      let stops = brace_stops close_is in
      q.reads_in_braces (expr m) open_is
      (q.reads_dict_from (expr m) (test_starts key).2 (nested k.Test (inside_can y) (λ n w. test_reads key n w (colon_stops colon))) colon
      (nested k.Test (inside_can z) (λ n w. test_reads value n w (for_stops begin.1)))
      (q.reads_dict_of (expr m) a b (at_is begin.1) (q.clauses_stop (expr m) (clauses_come cs m (inside_after z (test_moves value)) stops.0) (brace_not_for close_is) stops.1) close_is))

  pub items_read : {ts us rest before : List Lex} {es : List Ex} → IsItems ts es us → (m : ℕ) → Inside m ts → (e : Ex) → Is s.Comma before ts → Is s.RightParen us rest
      → Reads (items (expr m) s.RightParen e) before (e ∷ es) us
  items_read {before} g.no_items m x e is close_is = record { is = q.items_stop (expr m) s.RightParen (e ∷ []) (q.items_begin (expr m) s.RightParen e before) (g.comma is) close_is (paren_not_comma close_is) }
  items_read {before} (g.items {es = es} d last) m x e is close_is =
      record { is = q.items_stop (expr m) s.RightParen (e ∷ es) (tests_join d m x (e ∷ []) (q.items_begin (expr m) s.RightParen e before) is (parens_end last close_is)) last close_is (paren_not_comma close_is) }

  pub tests_join : {ts us before : List Lex} {es : List Ex} {from : Option (Part (List Ex))} → IsTests ts es us → (m : ℕ) → Inside m ts → (found : List Ex)
      → Comes from (λ n. items_after (expr m) s.RightParen n found before) before → Is s.Comma before ts → StopsTest us → Comes from (λ n. items_after (expr m) s.RightParen n (found ++ es) us) us
  tests_join (g.one_test d) m x found c is stops =
      let fewer = can_fewer (inside_can x) (test_moves d) in
      q.items_go (expr m) s.RightParen found c is (test_starts d).0 (nested k.Test (inside_can x) (λ n y. test_reads d n y stops)) (omega (arith, fewer))
  tests_join {us} {from} (g.more_tests {es = es} {e = a} d next e) m x found c is stops =
      let y = inside_can (inside_separated (inside_after_list x (tests_moves d)) next refl) in
      let fewer = can_fewer y (test_moves e) in
      subst (λ v. Comes from (λ n. items_after (expr m) s.RightParen n v us) us) (append_assoc found es (a ∷ []))
      (q.items_go (expr m) s.RightParen (found ++ es) (tests_join d m x found c is (comma_stops next)) next (test_starts e).0 (nested k.Test y (λ n z. test_reads e n z stops)) (omega (arith, fewer)))

  pub list_reads : {ts us rest : List Lex} {es : List Ex} → IsItems ts es us → (m : ℕ) → Inside m ts → Is s.RightBracket us rest → Reads (in_brackets (expr m)) ts (t.list (exs_of es)) rest
  list_reads g.no_items m x close_is = q.reads_empty_list (expr m) close_is
  list_reads (g.items {es = es} d last) m x close_is =
      let first = tests_listed d m x (brackets_end last close_is) in
      q.reads_list (expr m) (tests_start d).1 first.reads first.not_for (record { is = q.items_stop (expr m) s.RightBracket es first.comes last close_is (bracket_not_comma close_is) }) close_is

  pub tests_listed : {ts us : List Lex} {es : List Ex} → IsTests ts es us → (m : ℕ) → Inside m ts → StopsTest us × (is_at s.For us ≡ false) → Listed m ts es us
  tests_listed {us} (g.one_test {e = a} d) m x ends =
      record { first = a; left = us; reads = nested k.Test (inside_can x) (λ n y. test_reads d n y ends.0); not_for = ends.1; comes = q.items_begin (expr m) s.RightBracket a us }
  tests_listed (g.more_tests {es = es} d is e) m x ends =
      let first = tests_listed d m x (comma_stops is, comma_not_for is) in
      let y = inside_can (inside_separated (inside_after_list x (tests_moves d)) is refl) in
      let fewer = can_fewer y (test_moves e) in
      record {
        first = first.first;
        left = first.left;
        reads = first.reads;
        not_for = first.not_for;
        comes = q.items_go (expr m) s.RightBracket es first.comes is (test_starts e).1 (nested k.Test y (λ n z. test_reads e n z ends.0)) (omega (arith, fewer));
      }

  pub dict_reads : {ts us rest : List Lex} {keys values : List Ex} → IsEntries ts keys values us → (m : ℕ) → Inside m ts → Is s.RightBrace us rest
      → Reads (in_braces (expr m)) ts (t.dict (exs_of keys) (exs_of values)) rest
  dict_reads g.no_entries m x close_is = q.reads_empty_dict (expr m) close_is
  dict_reads (g.entries {keys = keys} {values = values} d last) m x close_is =
      let first = entries_listed d m x (braces_end last close_is) in
      q.reads_dict_from (expr m) (entries_start d).2 first.key_reads first.colon first.value_reads
      (q.reads_dict (expr m) first.key first.value first.not_for (record { is = q.entries_stop (expr m) (record { keys = keys; values = values }) first.comes last close_is (brace_not_comma close_is) }) close_is)

  pub entries_listed : {ts us : List Lex} {keys values : List Ex} → IsSomeEntries ts keys values us → (m : ℕ) → Inside m ts → StopsTest us × (is_at s.For us ≡ false) → Entered m ts keys values us
  entries_listed {us} (g.one_entry {us = at_colon} {vs = at_value} {key = a} {value = b} key colon value) m x ends =
      let y = inside_can (inside_passed (inside_after x (test_moves key)) colon refl) in
      record {
        key = a;
        value = b;
        at_colon = at_colon;
        at_value = at_value;
        left = us;
        key_reads = nested k.Test (inside_can x) (λ n w. test_reads key n w (colon_stops colon));
        colon = colon;
        value_reads = nested k.Test y (λ n w. test_reads value n w ends.0);
        not_for = ends.1;
        comes = q.entries_begin (expr m) (record { keys = a ∷ []; values = b ∷ [] }) us;
      }
  entries_listed (g.more_entries {keys = keys} {values = values} d is key colon value) m x ends =
      let first = entries_listed d m x (comma_stops is, comma_not_for is) in
      let y = inside_separated (inside_after_list x (some_entries_moves d)) is refl in
      let z = inside_passed (inside_after y (test_moves key)) colon refl in
      let one = token_counts colon in
      let two = can_fewer (inside_can y) (test_moves key) in
      let fewer = can_fewer (inside_can z) (test_moves value) in
      record {
        key = first.key;
        value = first.value;
        at_colon = first.at_colon;
        at_value = first.at_value;
        left = first.left;
        key_reads = first.key_reads;
        colon = first.colon;
        value_reads = first.value_reads;
        not_for = first.not_for;
        comes = q.entries_go (expr m) (record { keys = keys; values = values }) first.comes is (test_starts key).2
            (q.reads_entry (expr m) (record { keys = keys; values = values }) (nested k.Test (inside_can y) (λ n w. test_reads key n w (colon_stops colon))) colon (nested k.Test (inside_can z) (λ n w. test_reads value n w ends.0)))
            (omega (arith, one, two, fewer));
      }

  pub clauses_come : {ts us : List Lex} {cs : List Cl} → IsClauses ts cs us → (m : ℕ) → Inside m ts → StopsOr us → Comes (clauses (expr m) ts) (λ n. clauses_after (expr m) n cs us) us
  clauses_come {ts} (g.first_for is target in_is e) m x stops =
      let y = inside_counted x is refl in
      let z = inside_can (inside_counted (inside_after_list y (targets_moves target)) in_is refl) in
      let one = token_counts in_is in
      let two = inside_fewer y (targets_moves target) in
      let fewer = can_fewer z (or_moves e) in
      q.for_goes (expr m) [] (q.clauses_begin (expr m) ts) is
      (q.reads_for_clause (expr m) (targets_read target m y (in_stops in_is) (in_not_comma in_is)) in_is (nested k.Or z (λ n w. f.reads_or (expr n) (or_comes e n w stops.0) stops.1))) (omega (arith, one, two, fewer))
  clauses_come (g.more_for {cs = cs} d is target in_is e) m x stops =
      let y = inside_counted (inside_after_list x (clauses_moves d)) is refl in
      let z = inside_can (inside_counted (inside_after_list y (targets_moves target)) in_is refl) in
      let one = token_counts in_is in
      let two = inside_fewer y (targets_moves target) in
      let fewer = can_fewer z (or_moves e) in
      q.for_goes (expr m) cs (clauses_come d m x (for_stops is).0) is
      (q.reads_for_clause (expr m) (targets_read target m y (in_stops in_is) (in_not_comma in_is)) in_is (nested k.Or z (λ n w. f.reads_or (expr n) (or_comes e n w stops.0) stops.1))) (omega (arith, one, two, fewer))
  clauses_come (g.more_if {cs = cs} d is e) m x stops =
      let z = inside_can (inside_counted (inside_after_list x (clauses_moves d)) is refl) in
      let fewer = can_fewer z (or_moves e) in
      q.if_goes (expr m) cs (clauses_come d m x (if_stops is)) is (nested k.Or z (λ n w. f.reads_or (expr n) (or_comes e n w stops.0) stops.1)) (omega (arith, fewer))

  pub targets_read : {ts rest : List Lex} {e : Ex} → IsTargets ts e rest → (m : ℕ) → Inside m ts → StopsPostfix rest → is_at s.Comma rest ≡ false → Reads (targets (expr m)) ts e rest
  targets_read (g.one_target d) m x stops other = q.reads_one_target (expr m) (target_reads d m (inside_can x) stops) other
  targets_read (g.targets {es = es} d is e) m x stops other =
      let first = targets_listed d m x is in
      let y = inside_can (inside_separated (inside_after_list x (some_targets_moves d)) is refl) in
      let fewer = can_fewer y (target_moves e) in
      q.reads_targets (expr m) first.reads first.at_comma (record { is = q.targets_stop (expr m) (q.targets_go (expr m) es first.comes is (target_reads e m y stops) (omega (arith, fewer))) other })

  pub targets_listed : {ts us vs : List Lex} {es : List Ex} → IsSomeTargets ts es us → (m : ℕ) → Inside m ts → Is s.Comma us vs → Targeted m ts es us
  targets_listed {us} (g.first_target {e = a} d) m x is =
      record { first = a; left = us; reads = target_reads d m (inside_can x) (comma_stops is).0.0.0.0.0.0; at_comma = at_is is; comes = q.targets_begin (expr m) a us }
  targets_listed (g.more_targets {es = es} d next e) m x is =
      let first = targets_listed d m x next in
      let y = inside_can (inside_separated (inside_after_list x (some_targets_moves d)) next refl) in
      let fewer = can_fewer y (target_moves e) in
      record {
        first = first.first;
        left = first.left;
        reads = first.reads;
        at_comma = first.at_comma;
        comes = q.targets_go (expr m) es first.comes next (target_reads e m y (comma_stops is).0.0.0.0.0.0) (omega (arith, fewer));
      }

  pub target_reads : {ts rest : List Lex} {e : Ex} → IsTarget ts e rest → (m : ℕ) → Can m ts → StopsPostfix rest → Reads (target (expr m)) ts e rest
  target_reads (g.target d h) m x stops = q.reads_target (expr m) (nested k.Postfix x (λ n y. f.reads_postfix (expr n) (postfix_comes d n y) stops)) h
