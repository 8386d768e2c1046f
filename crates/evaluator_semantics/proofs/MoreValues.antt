-- Expressions under more answered globs.
use Rattle.std.proofs.Common.{ℕ, List, [], ◌∷◌}
use Rattle.syntax_tree.specs.declared.expr.BinaryOp.{BinaryOp}
use Rattle.syntax_tree.specs.declared.expr.BinaryOp.TheVariants as o
use Rattle.syntax_tree.specs.Tree as t
use Rattle.syntax_tree.specs.Tree.{Ex, Exs, Bound, Clauses, Cl}
use Rattle.values_semantics.specs.declared.val.Val.{Val}
use Rattle.values_semantics.specs.Heap.{Entries}
use Rattle.values_semantics.specs.Operators.{is_true}
use Rattle.values_semantics.specs.Functions.{KeywordArguments}
use Rattle.evaluator_semantics.specs.World.{World, Here, Runs, ◌>>=◌, tick, with_block}
use Rattle.evaluator_semantics.specs.Names.{is_native_name, new_block, clause_names}
use Rattle.evaluator_semantics.specs.Environment.{Env, Answers}
use Rattle.evaluator_semantics.specs.Targets.{store}
use Rattle.evaluator_semantics.specs.Loops.{Collection, nothing_yet, one_more, one_entry}
use Rattle.evaluator_semantics.specs.Expressions.{Call, between, fresh, value, values, each_value, entries, bound_value, aim, aims, comprehension, clauses, clause}
use Rattle.evaluator_semantics.specs.Laws.{KnowsMore, with_answers, IsAsked}
use Rattle.evaluator_semantics.proofs.Below.{Asks, Below, same, both, after, choose, going_over, gathering}
use Rattle.evaluator_semantics.proofs.Quiet.{quiet}
use Rattle.evaluator_semantics.proofs.MoreAnswers.{apply_below, apply_method_below}

between_below : {Q : Asks} (op : BinaryOp) (m n i j : Runs Val) → ((w : World) → Below Q (m w) (n w)) → ((w : World) → Below Q (i w) (j w)) → (here : Here) (w : World) → Below Q (between op m i here w) (between op n j here w)
between_below o.Or m n i j p q here w = both (p w) λ x u. choose (is_true x u.store) _ _ _ _ u (same _ (search quiet)) (q u)
between_below o.And m n i j p q here w = both (p w) λ x u. choose (is_true x u.store) _ _ _ _ u (q u) (same _ (search quiet))
between_below op m n i j p q here w = both (p w) λ x u. both (q u) λ y z. same _ (search quiet)

-- pieces of two lists, one by one
abbrev AllBelow : Asks → List (Runs Val) → List (Runs Val) → Type 0
AllBelow Q [] [] = Unit {0}
AllBelow Q (m ∷ ms) (n ∷ ns) = ((w : World) → Below Q (m w) (n w)) × AllBelow Q ms ns
AllBelow Q ms ns = ⊥

module _ (env : Env) (more : Answers) (knows : KnowsMore env.globs more) (call call' : Call) (calls : (label name : List ℕ) (xs : List Val) (ns : KeywordArguments) (here : Here) (w : World) → Below (IsAsked env) (call label name xs ns here w) (call' label name xs ns here w)) where
  abbrev env' : Env
  env' = with_answers more env

  mutual
    pub value_below : (e : Ex) (here : Here) (w : World) → Below (IsAsked env) (value env call e here w) (value env' call' e here w)
    value_below (t.name x) here w = same _ (search quiet)
    value_below (t.int n) here w = same _ (search quiet)
    value_below (t.str x) here w = same _ (search quiet)
    value_below (t.literal l) here w = same _ (search quiet)
    value_below (t.tuple es) here w = after (tick here w) (search quiet) λ _ u. both (values_below es here u) λ xs z. same _ (search quiet)
    value_below (t.list es) here w = after (tick here w) (search quiet) λ _ u. both (values_below es here u) λ xs z. same _ (search quiet)
    value_below (t.dict ks es) here w = after (tick here w) (search quiet) λ _ u. both (entries_below ks _ _ (each_below es here) [] here u) λ xs z. same _ (search quiet)
    value_below (t.list_of e cs) here w =
        after (tick here w) (search quiet) λ _ u.
        both (comprehension_below cs (λ g. value env call e here >>= λ x. one_more x g here) (λ g. value env' call' e here >>= λ x. one_more x g here) (λ g z. both (value_below e here z) λ x y. same _ (search quiet)) here u) λ g z. same _ (search quiet)
    value_below (t.dict_of k e cs) here w =
        after (tick here w) (search quiet) λ _ u.
        both (comprehension_below cs (λ g. value env call k here >>= λ x. value env call e here >>= λ y. one_entry x y g here) (λ g. value env' call' k here >>= λ x. value env' call' e here >>= λ y. one_entry x y g here)
        (λ g z. both (value_below k here z) λ x y. both (value_below e here y) λ _ _. same _ (search quiet)) here u) λ g z. same _ (search quiet)
    value_below (t.unary op e) here w = after (tick here w) (search quiet) λ _ u. both (value_below e here u) λ x z. same _ (search quiet)
    value_below (t.binary op a b) here w = after (tick here w) (search quiet) λ _ u. between_below op _ _ _ _ (value_below a here) (value_below b here) here u
    value_below (t.choice a c b) here w = after (tick here w) (search quiet) λ _ u. both (value_below c here u) λ x z. choose (is_true x z.store) _ _ _ _ z (value_below a here z) (value_below b here z)
    value_below (t.index a i) here w = after (tick here w) (search quiet) λ _ u. both (value_below a here u) λ x z. both (value_below i here z) λ _ _. same _ (search quiet)
    value_below (t.slice a i j) here w = after (tick here w) (search quiet) λ _ u. both (value_below a here u) λ x z. both (bound_below i here z) λ _ y. both (bound_below j here y) λ _ _. same _ (search quiet)
    value_below (t.call f es names) here w = after (tick here w) (search quiet) λ _ u. both (value_below f here u) λ g z. both (values_below es here z) λ xs y. apply_below env more knows call call' calls g _ _ here y
    value_below (t.method e name es names) here w =
        after (tick here w) (search quiet) λ _ u.
        both (choose (is_native_name e here u) _ _ _ _ u (same _ (search quiet)) (both (value_below e here u) λ _ _. same _ (search quiet))) λ r z.
        both (values_below es here z) λ xs y. apply_method_below env more knows r name _ _ here y

    pub values_below : (es : Exs) (here : Here) (w : World) → Below (IsAsked env) (values env call es here w) (values env' call' es here w)
    values_below t.no_exs here w = same _ (search quiet)
    values_below (t.ex e es) here w = both (value_below e here w) λ x u. both (values_below es here u) λ _ _. same _ (search quiet)

    pub each_below : (es : Exs) (here : Here) → AllBelow (IsAsked env) (each_value env call es here) (each_value env' call' es here)
    each_below t.no_exs here = tt
    each_below (t.ex e es) here = (value_below e here, each_below es here)

    pub entries_below : (ks : Exs) (ms ns : List (Runs Val)) → AllBelow (IsAsked env) ms ns → (done : Entries) (here : Here) (w : World) → Below (IsAsked env) (entries env call ks ms done here w) (entries env' call' ks ns done here w)
    entries_below t.no_exs ms ns h done here w = same _ (search quiet)
    entries_below (t.ex k ks) [] [] h done here w = same _ (search quiet)
    entries_below (t.ex k ks) [] (n ∷ ns) h done here w = absurd h
    entries_below (t.ex k ks) (m ∷ ms) [] h done here w = absurd h
    entries_below (t.ex k ks) (m ∷ ms) (n ∷ ns) h done here w =
        both (value_below k here w) λ x u. both (h.0 u) λ y z. after (fresh x y done here z) (search quiet) λ es s. entries_below ks ms ns h.1 es here s

    pub bound_below : (b : Bound) (here : Here) (w : World) → Below (IsAsked env) (bound_value env call b here w) (bound_value env' call' b here w)
    bound_below t.no_bound here w = same _ (search quiet)
    bound_below (t.bound e) here w = value_below e here w

    pub aim_below : (e : Ex) (here : Here) (w : World) → Below (IsAsked env) (aim env call e here w) (aim env' call' e here w)
    aim_below (t.index a i) here w = both (value_below a here w) λ x u. both (value_below i here u) λ _ _. same _ (search quiet)
    aim_below (t.tuple es) here w = both (aims_below es here w) λ _ _. same _ (search quiet)
    aim_below (t.list es) here w = both (aims_below es here w) λ _ _. same _ (search quiet)
    aim_below e here w = same _ (search quiet)

    pub aims_below : (es : Exs) (here : Here) (w : World) → Below (IsAsked env) (aims env call es here w) (aims env' call' es here w)
    aims_below t.no_exs here w = same _ (search quiet)
    aims_below (t.ex e es) here w = both (aim_below e here w) λ x u. both (aims_below es here u) λ _ _. same _ (search quiet)

    pub comprehension_below : (cs : Clauses) (m n : Collection → Runs Collection) → ((g : Collection) (w : World) → Below (IsAsked env) (m g w) (n g w)) → (here : Here) (w : World)
        → Below (IsAsked env) (comprehension env call cs m here w) (comprehension env' call' cs n here w)
    comprehension_below (t.clause (t.for_in target e) cs) m n h here w =
        both (value_below e here w) λ x u.
        both (going_over x here (λ xs. gathering _ _ (λ y g z. after (tick here z) (search quiet) λ _ s. both (aim_below target here s) λ a q. after (store a y here q) (search quiet) λ _ r. clauses_below cs m n h here g r) xs nothing_yet)
        (with_block (new_block (clause_names (t.clause (t.for_in target e) cs))) u)) λ _ _. same _ (search quiet)
    comprehension_below (t.clause (t.only_if e) cs) m n h here w = same _ (search quiet)
    comprehension_below t.no_clauses m n h here w = same _ (search quiet)

    pub clauses_below : (cs : Clauses) (m n : Collection → Runs Collection) → ((g : Collection) (w : World) → Below (IsAsked env) (m g w) (n g w)) → (here : Here) (g : Collection) (w : World)
        → Below (IsAsked env) (clauses env call cs m here g w) (clauses env' call' cs n here g w)
    clauses_below t.no_clauses m n h here g w = h g w
    clauses_below (t.clause c cs) m n h here g w = clause_below c (clauses env call cs m here) (clauses env' call' cs n here) (clauses_below cs m n h here) here g w

    pub clause_below : (c : Cl) (m n : Collection → Runs Collection) → ((g : Collection) (w : World) → Below (IsAsked env) (m g w) (n g w)) → (here : Here) (g : Collection) (w : World)
        → Below (IsAsked env) (clause env call c m here g w) (clause env' call' c n here g w)
    clause_below (t.for_in target e) m n h here g w =
        both (value_below e here w) λ x u.
        going_over x here (λ xs. gathering _ _ (λ y i z. after (tick here z) (search quiet) λ _ s. both (aim_below target here s) λ a q. after (store a y here q) (search quiet) λ _ r. h i r) xs g) u
    clause_below (t.only_if e) m n h here g w = both (value_below e here w) λ x u. choose (is_true x u.store) _ _ _ _ u (h g u) (same _ (search quiet))
