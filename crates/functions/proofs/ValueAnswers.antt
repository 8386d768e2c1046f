-- Expressions that, by enough right answers, wait for no glob.
use Rattle.std.proofs.Common.{ℕ, List, [], ◌∷◌}
use Rattle.syntax_tree.specs.declared.expr.BinaryOp.{BinaryOp}
use Rattle.syntax_tree.specs.declared.expr.BinaryOp.TheVariants as o
use Rattle.syntax_tree.specs.Tree as t
use Rattle.syntax_tree.specs.Tree.{Ex, Exs, Bound, Clauses, Cl}
use Rattle.values_semantics.specs.declared.val.Val.{Val}
use Rattle.values_semantics.specs.Heap.{Entries}
use Rattle.values_semantics.specs.Operators.{is_true}
use Rattle.values_semantics.specs.Functions.{KeywordArguments}
use Rattle.evaluator_semantics.specs.World.{World, Here, Runs, ◌>>=◌, tick, with_block}
use Rattle.evaluator_semantics.specs.Names.{is_native_name, new_block, clause_names}
use Rattle.evaluator_semantics.specs.Environment.{Env, Answers}
use Rattle.evaluator_semantics.specs.Targets.{store}
use Rattle.evaluator_semantics.specs.Loops.{Collection, nothing_yet, one_more, one_entry}
use Rattle.evaluator_semantics.specs.Expressions.{Call, between, fresh, value, values, each_value, entries, bound_value, aim, aims, comprehension, clauses, clause}
use Rattle.evaluator_semantics.specs.Laws.{with_answers}
use Rattle.evaluator_semantics.proofs.Quiet.{quiet}
use Rattle.functions.proofs.Closing.{Closing, Closes, same, both, after, choose, going_over, gathering}
use Rattle.functions.proofs.GlobAnswers.{apply_closes, apply_method_closes}

module _ (found : List ℕ → List (List ℕ)) where
  between_closes : (op : BinaryOp) (m i : Answers → Runs Val) → Closing found m → Closing found i → (here : Here) (w : World) → Closes found (λ a. between op (m a) (i a) here w)
  between_closes o.Or m i p q here w = both found (p w) λ x u. choose found (is_true x u.store) _ _ u (same found _ (search quiet)) (q u)
  between_closes o.And m i p q here w = both found (p w) λ x u. choose found (is_true x u.store) _ _ u (q u) (same found _ (search quiet))
  between_closes op m i p q here w = both found (p w) λ x u. both found (q u) λ y z. same found _ (search quiet)

  -- each of some pieces, in a list
  data EachCloses : (Answers → List (Runs Val)) → Type 0 where
    none : EachCloses (λ a. [])
    one : {m : Answers → Runs Val} {ms : Answers → List (Runs Val)} → Closing found m → EachCloses ms → EachCloses (λ a. m a ∷ ms a)

  module _ (env : Env) (call : Answers → Call) (calls : (label name : List ℕ) (xs : List Val) (ns : KeywordArguments) (here : Here) (w : World) → Closes found (λ a. call a label name xs ns here w)) where
    abbrev at : Answers → Env
    at a = with_answers a env

    mutual
      pub value_closes : (e : Ex) (here : Here) (w : World) → Closes found (λ a. value (at a) (call a) e here w)
      value_closes (t.name x) here w = after found (tick here w) (search quiet) λ _ u. same found _ (search quiet)
      value_closes (t.int n) here w = after found (tick here w) (search quiet) λ _ u. same found _ (search quiet)
      value_closes (t.str x) here w = after found (tick here w) (search quiet) λ _ u. same found _ (search quiet)
      value_closes (t.literal l) here w = after found (tick here w) (search quiet) λ _ u. same found _ (search quiet)
      value_closes (t.tuple es) here w = after found (tick here w) (search quiet) λ _ u. both found (values_close es here u) λ xs z. same found _ (search quiet)
      value_closes (t.list es) here w = after found (tick here w) (search quiet) λ _ u. both found (values_close es here u) λ xs z. same found _ (search quiet)
      value_closes (t.dict ks es) here w = after found (tick here w) (search quiet) λ _ u. both found (entries_close ks _ (each_close es here) [] here u) λ xs z. same found _ (search quiet)
      value_closes (t.list_of e cs) here w =
          after found (tick here w) (search quiet) λ _ u.
          both found (comprehension_closes cs (λ a g. value (at a) (call a) e here >>= λ x. one_more x g here) (λ g z. both found (value_closes e here z) λ x y. same found _ (search quiet)) here u) λ g z. same found _ (search quiet)
      value_closes (t.dict_of k e cs) here w =
          after found (tick here w) (search quiet) λ _ u.
          both found (comprehension_closes cs (λ a g. value (at a) (call a) k here >>= λ x. value (at a) (call a) e here >>= λ y. one_entry x y g here)
          (λ g z. both found (value_closes k here z) λ x y. both found (value_closes e here y) λ _ _. same found _ (search quiet)) here u) λ g z. same found _ (search quiet)
      value_closes (t.unary op e) here w = after found (tick here w) (search quiet) λ _ u. both found (value_closes e here u) λ x z. same found _ (search quiet)
      value_closes (t.binary op e f) here w = after found (tick here w) (search quiet) λ _ u. between_closes op _ _ (value_closes e here) (value_closes f here) here u
      value_closes (t.choice e c f) here w = after found (tick here w) (search quiet) λ _ u. both found (value_closes c here u) λ x z. choose found (is_true x z.store) _ _ z (value_closes e here z) (value_closes f here z)
      value_closes (t.index e i) here w = after found (tick here w) (search quiet) λ _ u. both found (value_closes e here u) λ x z. both found (value_closes i here z) λ _ _. same found _ (search quiet)
      value_closes (t.slice e i j) here w = after found (tick here w) (search quiet) λ _ u. both found (value_closes e here u) λ x z. both found (bound_closes i here z) λ _ y. both found (bound_closes j here y) λ _ _. same found _ (search quiet)
      value_closes (t.call f es names) here w = after found (tick here w) (search quiet) λ _ u. both found (value_closes f here u) λ g z. both found (values_close es here z) λ xs y. apply_closes found env call calls g _ _ here y
      value_closes (t.method e name es names) here w =
          after found (tick here w) (search quiet) λ _ u.
          both found (choose found (is_native_name e here u) _ _ u (after found (tick here u) (search quiet) λ _ z. same found _ (search quiet)) (both found (value_closes e here u) λ _ _. same found _ (search quiet))) λ r z.
          both found (values_close es here z) λ xs y. apply_method_closes found env r name _ _ here y

      pub values_close : (es : Exs) (here : Here) (w : World) → Closes found (λ a. values (at a) (call a) es here w)
      values_close t.no_exs here w = same found _ (search quiet)
      values_close (t.ex e es) here w = both found (value_closes e here w) λ x u. both found (values_close es here u) λ _ _. same found _ (search quiet)

      each_close : (es : Exs) (here : Here) → EachCloses (λ a. each_value (at a) (call a) es here)
      each_close t.no_exs here = none
      each_close (t.ex e es) here = one (value_closes e here) (each_close es here)

      entries_close : (ks : Exs) (ms : Answers → List (Runs Val)) → EachCloses ms → (done : Entries) (here : Here) (w : World) → Closes found (λ a. entries (at a) (call a) ks (ms a) done here w)
      entries_close t.no_exs ms h done here w = same found _ (search quiet)
      entries_close (t.ex k ks) ms none done here w = same found _ (search quiet)
      entries_close (t.ex k ks) ms (one p h) done here w =
          both found (value_closes k here w) λ x u. both found (p u) λ y z. after found (fresh x y done here z) (search quiet) λ more s. entries_close ks _ h more here s

      pub bound_closes : (b : Bound) (here : Here) (w : World) → Closes found (λ a. bound_value (at a) (call a) b here w)
      bound_closes t.no_bound here w = same found _ (search quiet)
      bound_closes (t.bound e) here w = value_closes e here w

      pub aim_closes : (e : Ex) (here : Here) (w : World) → Closes found (λ a. aim (at a) (call a) e here w)
      aim_closes (t.index e i) here w = both found (value_closes e here w) λ x u. both found (value_closes i here u) λ _ _. same found _ (search quiet)
      aim_closes (t.tuple es) here w = both found (aims_close es here w) λ _ _. same found _ (search quiet)
      aim_closes (t.list es) here w = both found (aims_close es here w) λ _ _. same found _ (search quiet)
      aim_closes e here w = same found _ (search quiet)

      pub aims_close : (es : Exs) (here : Here) (w : World) → Closes found (λ a. aims (at a) (call a) es here w)
      aims_close t.no_exs here w = same found _ (search quiet)
      aims_close (t.ex e es) here w = both found (aim_closes e here w) λ x u. both found (aims_close es here u) λ _ _. same found _ (search quiet)

      pub comprehension_closes : (cs : Clauses) (m : Answers → Collection → Runs Collection) → ((g : Collection) (w : World) → Closes found (λ a. m a g w)) → (here : Here) (w : World)
          → Closes found (λ a. comprehension (at a) (call a) cs (m a) here w)
      comprehension_closes (t.clause (t.for_in target e) cs) m h here w =
          both found (value_closes e here w) λ x u.
          both found (going_over found x here (λ xs. gathering found _ (λ y g z. after found (tick here z) (search quiet) λ _ s. both found (aim_closes target here s) λ i q. after found (store i y here q) (search quiet) λ _ r. clauses_close cs m h here g r) xs nothing_yet)
          (with_block (new_block (clause_names (t.clause (t.for_in target e) cs))) u)) λ _ _. same found _ (search quiet)
      comprehension_closes (t.clause (t.only_if e) cs) m h here w = same found _ (search quiet)
      comprehension_closes t.no_clauses m h here w = same found _ (search quiet)

      pub clauses_close : (cs : Clauses) (m : Answers → Collection → Runs Collection) → ((g : Collection) (w : World) → Closes found (λ a. m a g w)) → (here : Here) (g : Collection) (w : World)
          → Closes found (λ a. clauses (at a) (call a) cs (m a) here g w)
      clauses_close t.no_clauses m h here g w = h g w
      clauses_close (t.clause c cs) m h here g w = clause_closes c (λ a. clauses (at a) (call a) cs (m a) here) (clauses_close cs m h here) here g w

      pub clause_closes : (c : Cl) (m : Answers → Collection → Runs Collection) → ((g : Collection) (w : World) → Closes found (λ a. m a g w)) → (here : Here) (g : Collection) (w : World)
          → Closes found (λ a. clause (at a) (call a) c (m a) here g w)
      clause_closes (t.for_in target e) m h here g w =
          both found (value_closes e here w) λ x u.
          going_over found x here (λ xs. gathering found _ (λ y i z. after found (tick here z) (search quiet) λ _ s. both found (aim_closes target here s) λ j q. after found (store j y here q) (search quiet) λ _ r. h i r) xs g) u
      clause_closes (t.only_if e) m h here g w = both found (value_closes e here w) λ x u. choose found (is_true x u.store) _ _ u (h g u) (same found _ (search quiet))
