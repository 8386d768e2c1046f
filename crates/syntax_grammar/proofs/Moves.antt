-- What each nonterminal of expressions does to the counts of the nesting.
use Rattle.std.proofs.Common.{ℕ, ◌+◌, List, ◌∷◌, refl}
use Rattle.syntax_tokens.specs.Token.{Lex}
use Rattle.syntax_tree.specs.declared.expr.BinaryOp.{BinaryOp}
use Rattle.syntax_tree.specs.Tree.{Ex, Bound, Cl}
use Rattle.syntax_grammar.specs.declared.kind.Rank.{Rank}
use Rattle.syntax_grammar.specs.Grammar as g
use Rattle.syntax_grammar.specs.Grammar.{IsOperator, IsCmpOp, IsCommaOrNone, IsTest, IsOr, IsAnd, IsNot, IsCmp, IsSum, IsTerm, IsUnary, IsPostfix, IsBound, IsArgs, IsSomeArgs, IsAtom, IsItems, IsTests, IsEntries, IsSomeEntries, IsClauses, IsTargets, IsSomeTargets, IsTarget, IsExprs}
use Rattle.syntax_grammar.proofs.Fits.{Fits, Went, passed, counted, separated, opened, closed, begins, after, after_some, after_list, after_items, maybe_empty, from_none}

-- from the counts of any item
abbrev pub Moves : ℕ → ℕ → List ℕ → List Lex → List Lex → Type 0
Moves k i o ts rest = (c : ℕ) → Fits i c o ts → Went k c i o ts rest

-- by commas too
abbrev pub MovesOn : ℕ → ℕ → List ℕ → List Lex → List Lex → Type 0
MovesOn k i o ts rest = (c : ℕ) → Fits i c o ts → Went k 0 i o ts rest

pub operator_moves : {k b i : ℕ} {o : List ℕ} {ts us vs : List Lex} {rank : Rank} {op : BinaryOp} → Went k b i o ts us → IsOperator rank op us vs → Went 1 b i o ts vs
operator_moves w (g.is_or is) = counted w is refl
operator_moves w (g.is_and is) = counted w is refl
operator_moves w (g.is_plus is) = counted w is refl
operator_moves w (g.is_minus is) = counted w is refl
operator_moves w (g.is_star is) = counted w is refl
operator_moves w (g.is_slash_slash is) = counted w is refl
operator_moves w (g.is_percent is) = counted w is refl

pub cmp_moves : {k b i : ℕ} {o : List ℕ} {ts us vs : List Lex} {op : BinaryOp} → Went k b i o ts us → IsCmpOp op us vs → Went 1 b i o ts vs
cmp_moves w (g.is_equal is) = counted w is refl
cmp_moves w (g.is_not_equal is) = counted w is refl
cmp_moves w (g.is_less is) = counted w is refl
cmp_moves w (g.is_less_equal is) = counted w is refl
cmp_moves w (g.is_greater is) = counted w is refl
cmp_moves w (g.is_greater_equal is) = counted w is refl
cmp_moves w (g.is_in is) = counted w is refl
cmp_moves w (g.is_not_in is in_is) = counted (counted w is refl) in_is refl

pub comma_moves : {k i : ℕ} {o : List ℕ} {ts us vs : List Lex} → Went k 0 i o ts us → IsCommaOrNone us vs → Went 0 0 i o ts vs
comma_moves w (g.comma is) = maybe_empty (separated w is refl)
comma_moves w g.no_comma = maybe_empty w

mutual
  pub test_moves : {ts rest : List Lex} {e : Ex} → IsTest ts e rest → (i : ℕ) (o : List ℕ) → Moves 1 i o ts rest
  test_moves (g.test_or d) i o c f = or_moves d i o c f
  test_moves (g.choice d if_is condition else_is other) i o c f =
      after (counted (after (counted (after (begins f) (or_moves d i o)) if_is refl) (or_moves condition i o)) else_is refl) (test_moves other i o)

  pub or_moves : {ts rest : List Lex} {e : Ex} → IsOr ts e rest → (i : ℕ) (o : List ℕ) → Moves 1 i o ts rest
  or_moves (g.or_and d) i o c f = and_moves d i o c f
  or_moves (g.or_more d op e) i o c f = after (operator_moves (after (begins f) (or_moves d i o)) op) (and_moves e i o)

  pub and_moves : {ts rest : List Lex} {e : Ex} → IsAnd ts e rest → (i : ℕ) (o : List ℕ) → Moves 1 i o ts rest
  and_moves (g.and_not d) i o c f = not_moves d i o c f
  and_moves (g.and_more d op e) i o c f = after (operator_moves (after (begins f) (and_moves d i o)) op) (not_moves e i o)

  pub not_moves : {ts rest : List Lex} {e : Ex} → IsNot ts e rest → (i : ℕ) (o : List ℕ) → Moves 1 i o ts rest
  not_moves (g.not_not is d) i o c f = after (counted (begins f) is refl) (not_moves d i o)
  not_moves (g.not_cmp d) i o c f = cmp_moves_on d i o c f

  pub cmp_moves_on : {ts rest : List Lex} {e : Ex} → IsCmp ts e rest → (i : ℕ) (o : List ℕ) → Moves 1 i o ts rest
  cmp_moves_on (g.cmp_sum d) i o c f = sum_moves d i o c f
  cmp_moves_on (g.cmp d op e) i o c f = after (cmp_moves (after (begins f) (sum_moves d i o)) op) (sum_moves e i o)

  pub sum_moves : {ts rest : List Lex} {e : Ex} → IsSum ts e rest → (i : ℕ) (o : List ℕ) → Moves 1 i o ts rest
  sum_moves (g.sum_term d) i o c f = term_moves d i o c f
  sum_moves (g.sum_more d op e) i o c f = after (operator_moves (after (begins f) (sum_moves d i o)) op) (term_moves e i o)

  pub term_moves : {ts rest : List Lex} {e : Ex} → IsTerm ts e rest → (i : ℕ) (o : List ℕ) → Moves 1 i o ts rest
  term_moves (g.term_unary d) i o c f = unary_moves d i o c f
  term_moves (g.term_more d op e) i o c f = after (operator_moves (after (begins f) (term_moves d i o)) op) (unary_moves e i o)

  pub unary_moves : {ts rest : List Lex} {e : Ex} → IsUnary ts e rest → (i : ℕ) (o : List ℕ) → Moves 1 i o ts rest
  unary_moves (g.unary_plus is d) i o c f = after (counted (begins f) is refl) (unary_moves d i o)
  unary_moves (g.unary_minus is d) i o c f = after (counted (begins f) is refl) (unary_moves d i o)
  unary_moves (g.unary_postfix d) i o c f = postfix_moves d i o c f

  pub postfix_moves : {ts rest : List Lex} {e : Ex} → IsPostfix ts e rest → (i : ℕ) (o : List ℕ) → Moves 1 i o ts rest
  postfix_moves (g.postfix_atom d) i o c f = atom_moves d i o c f
  postfix_moves (g.method d dot is open_is found close_is) i o c f =
      let w = passed (counted (after (begins f) (postfix_moves d i o)) dot refl) is refl in
      closed w open_is (args_moves found i ((w.count + 1) ∷ o) 0 (opened w open_is refl)) close_is refl
  postfix_moves (g.call d open_is found close_is) i o c f =
      let w = after (begins f) (postfix_moves d i o) in
      closed w open_is (args_moves found i ((w.count + 1) ∷ o) 0 (opened w open_is refl)) close_is refl
  postfix_moves (g.index d open_is e close_is) i o c f =
      let w = after (begins f) (postfix_moves d i o) in
      closed w open_is (test_moves e i ((w.count + 1) ∷ o) 0 (opened w open_is refl)) close_is refl
  postfix_moves (g.slice d open_is from colon to close_is) i o c f =
      let w = after (begins f) (postfix_moves d i o) in
      closed w open_is (after_some (passed (bound_moves from i ((w.count + 1) ∷ o) 0 (opened w open_is refl)) colon refl) (bound_moves to i ((w.count + 1) ∷ o))) close_is refl

  pub bound_moves : {ts rest : List Lex} {b : Bound} → IsBound ts b rest → (i : ℕ) (o : List ℕ) → Moves 0 i o ts rest
  bound_moves g.no_bound i o c f = begins f
  bound_moves (g.bound d) i o c f = maybe_empty (test_moves d i o c f)

  pub args_moves : {ts rest : List Lex} {es : List Ex} {names : List (List ℕ)} → IsArgs ts es names rest → (i : ℕ) (o : List ℕ) → MovesOn 0 i o ts rest
  args_moves g.no_args i o c f = from_none (begins f)
  args_moves (g.args d last) i o c f = comma_moves (some_args_moves d i o c f) last

  pub some_args_moves : {ts rest : List Lex} {es : List Ex} {names : List (List ℕ)} → IsSomeArgs ts es names rest → (i : ℕ) (o : List ℕ) → MovesOn 1 i o ts rest
  some_args_moves (g.plain d) i o c f = from_none (test_moves d i o c f)
  some_args_moves (g.named is equal d) i o c f = from_none (after (passed (passed (begins f) is refl) equal refl) (test_moves d i o))
  some_args_moves (g.more_plain d is e) i o c f = after (separated (some_args_moves d i o c f) is refl) (test_moves e i o)
  some_args_moves (g.more_named d is named equal e) i o c f = after (passed (passed (separated (some_args_moves d i o c f) is refl) named refl) equal refl) (test_moves e i o)

  pub atom_moves : {ts rest : List Lex} {e : Ex} → IsAtom ts e rest → (i : ℕ) (o : List ℕ) → Moves 1 i o ts rest
  atom_moves (g.a_name is) i o c f = passed (begins f) is refl
  atom_moves (g.an_int is) i o c f = passed (begins f) is refl
  atom_moves (g.a_string is) i o c f = passed (begins f) is refl
  atom_moves (g.none is) i o c f = passed (begins f) is refl
  atom_moves (g.yes is) i o c f = passed (begins f) is refl
  atom_moves (g.no is) i o c f = passed (begins f) is refl
  atom_moves (g.empty_tuple open_is close_is) i o c f =
      let w = begins f in
      closed w open_is (begins (opened w open_is refl)) close_is refl
  atom_moves (g.parens open_is d close_is) i o c f =
      let w = begins f in
      closed w open_is (test_moves d i ((w.count + 1) ∷ o) 0 (opened w open_is refl)) close_is refl
  atom_moves (g.tuple open_is d is es close_is) i o c f =
      let w = begins f in
      closed w open_is (after_items (separated (test_moves d i ((w.count + 1) ∷ o) 0 (opened w open_is refl)) is refl) (items_moves es i ((w.count + 1) ∷ o))) close_is refl
  atom_moves (g.list open_is es close_is) i o c f =
      let w = begins f in
      closed w open_is (items_moves es i ((w.count + 1) ∷ o) 0 (opened w open_is refl)) close_is refl
  atom_moves (g.list_of open_is d cs close_is) i o c f =
      let w = begins f in
      closed w open_is (after_list (test_moves d i ((w.count + 1) ∷ o) 0 (opened w open_is refl)) (clauses_moves cs i ((w.count + 1) ∷ o))) close_is refl
  atom_moves (g.dict open_is es close_is) i o c f =
      let w = begins f in
      closed w open_is (entries_moves es i ((w.count + 1) ∷ o) 0 (opened w open_is refl)) close_is refl
  atom_moves (g.dict_of open_is key colon value cs close_is) i o c f =
      let w = begins f in
      closed w open_is (after_list (after (passed (test_moves key i ((w.count + 1) ∷ o) 0 (opened w open_is refl)) colon refl) (test_moves value i ((w.count + 1) ∷ o))) (clauses_moves cs i ((w.count + 1) ∷ o))) close_is refl

  pub items_moves : {ts rest : List Lex} {es : List Ex} → IsItems ts es rest → (i : ℕ) (o : List ℕ) → MovesOn 0 i o ts rest
  items_moves g.no_items i o c f = from_none (begins f)
  items_moves (g.items d last) i o c f = comma_moves (tests_moves d i o c f) last

  pub tests_moves : {ts rest : List Lex} {es : List Ex} → IsTests ts es rest → (i : ℕ) (o : List ℕ) → MovesOn 1 i o ts rest
  tests_moves (g.one_test d) i o c f = from_none (test_moves d i o c f)
  tests_moves (g.more_tests d is e) i o c f = after (separated (tests_moves d i o c f) is refl) (test_moves e i o)

  pub entries_moves : {ts rest : List Lex} {keys values : List Ex} → IsEntries ts keys values rest → (i : ℕ) (o : List ℕ) → MovesOn 0 i o ts rest
  entries_moves g.no_entries i o c f = from_none (begins f)
  entries_moves (g.entries d last) i o c f = comma_moves (some_entries_moves d i o c f) last

  pub some_entries_moves : {ts rest : List Lex} {keys values : List Ex} → IsSomeEntries ts keys values rest → (i : ℕ) (o : List ℕ) → MovesOn 1 i o ts rest
  some_entries_moves (g.one_entry key colon value) i o c f = from_none (after (passed (test_moves key i o c f) colon refl) (test_moves value i o))
  some_entries_moves (g.more_entries d is key colon value) i o c f =
      after (passed (after (separated (some_entries_moves d i o c f) is refl) (test_moves key i o)) colon refl) (test_moves value i o)

  pub clauses_moves : {ts rest : List Lex} {cs : List Cl} → IsClauses ts cs rest → (i : ℕ) (o : List ℕ) → MovesOn 1 i o ts rest
  clauses_moves (g.first_for is target in_is e) i o c f = after (counted (after_list (counted (begins f) is refl) (targets_moves target i o)) in_is refl) (or_moves e i o)
  clauses_moves (g.more_for d is target in_is e) i o c f =
      after (counted (after_list (counted (clauses_moves d i o c f) is refl) (targets_moves target i o)) in_is refl) (or_moves e i o)
  clauses_moves (g.more_if d is e) i o c f = after (counted (clauses_moves d i o c f) is refl) (or_moves e i o)

  pub targets_moves : {ts rest : List Lex} {e : Ex} → IsTargets ts e rest → (i : ℕ) (o : List ℕ) → MovesOn 1 i o ts rest
  targets_moves (g.one_target d) i o c f = from_none (target_moves d i o c f)
  targets_moves (g.targets d is e) i o c f = after (separated (some_targets_moves d i o c f) is refl) (target_moves e i o)

  pub some_targets_moves : {ts rest : List Lex} {es : List Ex} → IsSomeTargets ts es rest → (i : ℕ) (o : List ℕ) → MovesOn 1 i o ts rest
  some_targets_moves (g.first_target d) i o c f = from_none (target_moves d i o c f)
  some_targets_moves (g.more_targets d is e) i o c f = after (separated (some_targets_moves d i o c f) is refl) (target_moves e i o)

  pub target_moves : {ts rest : List Lex} {e : Ex} → IsTarget ts e rest → (i : ℕ) (o : List ℕ) → Moves 1 i o ts rest
  target_moves (g.target d h) i o c f = postfix_moves d i o c f
