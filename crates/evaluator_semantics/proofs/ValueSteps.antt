-- Package calls and expressions have no more steps left than before, and keep the names of files that are bound.
use Rattle.std.proofs.Common.{ℕ, List, [], ◌∷◌, Bool, true, false, Option, Some, None, refl}
use Rattle.std.specs.Prelude.{if◌then◌else◌, length}
use Rattle.std.specs.List.{list_any}
use Rattle.syntax_grammar.specs.declared.kind.FileKind.{FileKind}
use Rattle.syntax_grammar.specs.declared.kind.FileKind.TheVariants as k
use Rattle.syntax_tree.specs.declared.expr.BinaryOp.{BinaryOp}
use Rattle.syntax_tree.specs.declared.expr.BinaryOp.TheVariants as o
use Rattle.syntax_tree.specs.Tree as t
use Rattle.syntax_tree.specs.Tree.{Ex, Exs, Bound, Clauses, Cl}
use Rattle.values_semantics.specs.declared.val.Val.{Val}
use Rattle.values_semantics.specs.declared.val.Val.TheVariants as v
use Rattle.values_semantics.specs.declared.builtin.Builtin.{Builtin}
use Rattle.values_semantics.specs.declared.builtin.Builtin.TheVariants as b
use Rattle.values_semantics.specs.Builtins.{same_builtin, package_functions, builtin_at}
use Rattle.values_semantics.specs.Outcome as m
use Rattle.values_semantics.specs.Outcome.{lift_fault}
use Rattle.values_semantics.specs.Heap.{Entries, Obj, text, list, tuple, dict, function, at, makes_list, is_sized}
use Rattle.values_semantics.specs.Operators.{is_true}
use Rattle.values_semantics.specs.Functions.{KeywordArguments, the_items, builtin}
use Rattle.values_semantics.specs.Methods.{makes_texts, method}
use Rattle.evaluator_semantics.specs.World.{World, Here, Ends, Runs, then_runs, on_heap, tick, pure, with_block, ◌>>=◌}
use Rattle.evaluator_semantics.specs.Names.{is_native_name, first_named, new_block, clause_names}
use Rattle.evaluator_semantics.specs.Environment.{Env, Answers}
use Rattle.evaluator_semantics.specs.Globs.{Glob, read_call, questions, found, makes_paths, glob_result, queries_without_result, glob}
use Rattle.evaluator_semantics.specs.Packages.{in_package, if_build, package_call}
use Rattle.evaluator_semantics.specs.Loops.{Collection, nothing_yet, one_more, one_entry, gather, over, locks, unlocks}
use Rattle.evaluator_semantics.specs.Expressions.{Call, between, both, operator_of, call_builtin, call_object, apply, Receiver, native, receiver, apply_method, value, values, each_value, entries, bound_value, aim, aims, comprehension, clauses, clause}
use Rattle.evaluator_semantics.proofs.HeapSteps.{Lowers, d_pure, d_gives, d_fault, d_then, d_if, d_checked, d_text, d_list, d_tuple, d_dict, index_down, slice_down, binary_down}
use Rattle.evaluator_semantics.proofs.CallSteps.{the_items_down, builtin_down}
use Rattle.evaluator_semantics.proofs.MethodSteps.{makes_texts_down, method_down}
use Rattle.evaluator_semantics.proofs.PieceSteps.{Sinks, Sinking, ends_sink, gives_sink, from_beside, fails_sink, waits_sink, then_sinks, if_sinks, heap_sinks, tick_sinks, or_fault_sinks, read_sinks, store_sinks, one_more_sinks, one_entry_sinks, fresh_sinks, unary_sinks, rule_sinks, package_name_sinks}

-- one piece after another
pub also : {A B : Type 0} {n : World} {e : Ends A} {k : A → Runs B} → Sinks n e → ((a : A) (w : World) → Sinks w (k a w)) → Sinks n (then_runs e k)
also {n = n} {e = e} {k = k} p h = then_sinks n e k p h

-- ---- package calls

many_down : (paths : List (List ℕ)) → Lowers (if is_sized (length paths) then (m.◌>>=◌ (makes_texts paths) makes_list) else m.fault 13)
many_down paths s = d_if (is_sized (length paths)) (m.◌>>=◌ (makes_texts paths) makes_list) (m.fault 13) s s.steps (d_then s.steps (makes_texts paths s) makes_list (makes_texts_down paths s) d_list) (d_fault 13 _)

makes_paths_down : (allow_empty : Bool) (paths : List (List ℕ)) → Lowers (makes_paths allow_empty paths)
makes_paths_down true paths s = many_down paths s
makes_paths_down false [] s = d_fault 22 _
makes_paths_down false (p ∷ ps) s = many_down (p ∷ ps) s

answered_sinks : (patterns : List (List ℕ)) (answers : Answers) (g : Glob) (here : Here) → Sinking (glob_result patterns answers g here)
answered_sinks [] answers g here w = heap_sinks here (makes_paths g.allow_empty (found answers g)) (makes_paths_down g.allow_empty (found answers g)) w
answered_sinks (p ∷ ps) answers g here w = waits_sink (p ∷ ps) _

glob_sinks : (answers : Answers) (xs : List Val) (ns : KeywordArguments) (here : Here) → Sinking (glob answers xs ns here)
unfolding glob
glob_sinks answers xs ns here w = also (heap_sinks here (λ s. lift_fault (read_call xs ns s) s) (λ s. d_checked (read_call xs ns s) s) w) λ g u. answered_sinks (queries_without_result answers [] (questions g)) answers g here u

in_package_sinks : (env : Env) (f : Builtin) (xs : List Val) (ns : KeywordArguments) (here : Here) → Sinking (in_package env f xs ns here)
in_package_sinks env b.PackageName xs ns here w = package_name_sinks env xs ns here w
in_package_sinks env b.Glob xs ns here w = glob_sinks env.globs xs ns here w
in_package_sinks env f xs ns here w = rule_sinks f env.package_name xs ns here w

by_kind_sinks : (kind : FileKind) (here : Here) (m : Runs Val) → Sinking m → Sinking (if_build kind here m)
by_kind_sinks k.Build here m h w = h w
by_kind_sinks k.Bzl here m h w = fails_sink 23 here.site _

package_call_sinks : (env : Env) (f : Builtin) (xs : List Val) (ns : KeywordArguments) (here : Here) → Sinking (package_call env f xs ns here)
unfolding package_call
package_call_sinks env f xs ns here w = by_kind_sinks env.kind here (in_package env f xs ns here) (in_package_sinks env f xs ns here) w

call_builtin_sinks : (env : Env) (f : Builtin) (xs : List Val) (ns : KeywordArguments) (here : Here) → Sinking (call_builtin env f xs ns here)
call_builtin_sinks env f xs ns here w =
    if_sinks (list_any (same_builtin f) package_functions) (package_call env f xs ns here) (on_heap here (builtin f xs ns)) w w (package_call_sinks env f xs ns here w) (heap_sinks here (builtin f xs ns) (builtin_down f xs ns) w)

-- ---- going over members

locks_down : (x : Val) → Lowers (locks x)
locks_down (v.At a) s = d_gives tt s.steps _ refl
locks_down x s = d_pure tt s

unlocks_down : (x : Val) → Lowers (unlocks x)
unlocks_down (v.At a) s = d_gives tt s.steps _ refl
unlocks_down x s = d_pure tt s

pub over_sinks : {A : Type 0} (x : Val) (here : Here) (body : List Val → Runs A) → ((xs : List Val) → Sinking (body xs)) → Sinking (over x body here)
over_sinks x here body h w =
    also (heap_sinks here (the_items x) (the_items_down x) w) λ xs u.
    also (heap_sinks here (locks x) (locks_down x) u) λ _ z.
    also (h xs z) λ a s.
    also (heap_sinks here (unlocks x) (unlocks_down x) s) λ _ q. gives_sink a q

gather_sinks : (turn : Val → Collection → Runs Collection) → ((x : Val) (g : Collection) → Sinking (turn x g)) → (xs : List Val) (g : Collection) → Sinking (gather turn xs g)
gather_sinks turn h [] g w = gives_sink g w
gather_sinks turn h (x ∷ xs) g w = also (h x g w) λ i u. gather_sinks turn h xs i u

both_sinks : (op : BinaryOp) (m n : Runs Val) → Sinking m → Sinking n → (here : Here) → Sinking (both (operator_of op) m n here)
both_sinks op m n p q here w = also (p w) λ x u. also (q u) λ y z. heap_sinks here _ (binary_down (operator_of op) x y) z

between_sinks : (op : BinaryOp) (m n : Runs Val) → Sinking m → Sinking n → (here : Here) → Sinking (between op m n here)
between_sinks o.Or m n p q here w = also (p w) λ x u. if_sinks (is_true x u.store) (pure x) n u u (gives_sink x u) (q u)
between_sinks o.And m n p q here w = also (p w) λ x u. if_sinks (is_true x u.store) n (pure x) u u (q u) (gives_sink x u)
between_sinks op m n p q here w = both_sinks op m n p q here w

abbrev AllSinking : List (Runs Val) → Type 0
AllSinking [] = Unit {0}
AllSinking (m ∷ ms) = Sinking m × AllSinking ms

pub apply_method_sinks : (env : Env) (r : Receiver) (name : List ℕ) (xs : List Val) (ns : KeywordArguments) (here : Here) → Sinking (apply_method env r name xs ns here)
unfolding apply_method
apply_method_sinks env native name xs ns here w = also (or_fault_sinks 5 (first_named name package_functions) here w) λ f u. package_call_sinks env f xs ns here u
apply_method_sinks env (receiver x) name xs ns here w = heap_sinks here (method x name xs ns) (method_down x name xs ns) w

module _ (env : Env) (call : Call) (calls : (label name : List ℕ) (xs : List Val) (ns : KeywordArguments) (here : Here) → Sinking (call label name xs ns here)) where
  call_object_sinks : (object : Option Obj) (xs : List Val) (ns : KeywordArguments) (here : Here) → Sinking (call_object call object xs ns here)
  call_object_sinks (Some (function label name)) xs ns here w = calls label name xs ns here w
  call_object_sinks (Some (text bytes)) xs ns here w = fails_sink 5 here.site _
  call_object_sinks (Some (list members f)) xs ns here w = fails_sink 5 here.site _
  call_object_sinks (Some (tuple members)) xs ns here w = fails_sink 5 here.site _
  call_object_sinks (Some (dict es f)) xs ns here w = fails_sink 5 here.site _
  call_object_sinks None xs ns here w = fails_sink 5 here.site _

  apply_sinks : (g : Val) (xs : List Val) (ns : KeywordArguments) (here : Here) → Sinking (apply env call g xs ns here)
  unfolding apply
  apply_sinks (v.Builtin n) xs ns here w = call_builtin_sinks env (builtin_at n) xs ns here w
  apply_sinks (v.At a) xs ns here w = call_object_sinks (at a w.store) xs ns here w
  apply_sinks v.Nothing xs ns here w = fails_sink 5 here.site _
  apply_sinks v.True xs ns here w = fails_sink 5 here.site _
  apply_sinks v.False xs ns here w = fails_sink 5 here.site _
  apply_sinks (v.Int n) xs ns here w = fails_sink 5 here.site _

  mutual
    pub value_sinks : (e : Ex) (here : Here) → Sinking (value env call e here)
    value_sinks (t.name x) here w = also (tick_sinks here w) λ _ u. read_sinks x here u
    value_sinks (t.int n) here w = also (tick_sinks here w) λ _ u. gives_sink (v.Int n) u
    value_sinks (t.str x) here w = also (tick_sinks here w) λ _ u. heap_sinks here _ (d_text x) u
    value_sinks (t.literal l) here w = also (tick_sinks here w) λ _ u. ends_sink _ _ _ refl refl
    value_sinks (t.tuple es) here w = also (tick_sinks here w) λ _ u. also (values_sink es here u) λ xs z. heap_sinks here _ (d_tuple xs) z
    value_sinks (t.list es) here w = also (tick_sinks here w) λ _ u. also (values_sink es here u) λ xs z. heap_sinks here _ (d_list xs) z
    value_sinks (t.dict ks es) here w = also (tick_sinks here w) λ _ u. also (entries_sink ks _ (each_sinks es here) [] here u) λ xs z. heap_sinks here _ (d_dict xs) z
    value_sinks (t.list_of e cs) here w =
        also (tick_sinks here w) λ _ u.
        also (comprehension_sinks cs (λ g. value env call e here >>= λ x. one_more x g here) (λ g z. also (value_sinks e here z) λ x y. one_more_sinks x g here y) here u) λ g z. heap_sinks here _ (d_list g.members) z
    value_sinks (t.dict_of k e cs) here w =
        also (tick_sinks here w) λ _ u.
        also (comprehension_sinks cs (λ g. value env call k here >>= λ x. value env call e here >>= λ y. one_entry x y g here)
        (λ g z. also (value_sinks k here z) λ x y. also (value_sinks e here y) λ q s. one_entry_sinks x q g here s) here u) λ g z. heap_sinks here _ (d_dict g.entries) z
    value_sinks (t.unary op e) here w = also (tick_sinks here w) λ _ u. also (value_sinks e here u) λ x z. unary_sinks op x here z
    value_sinks (t.binary op a b) here w = also (tick_sinks here w) λ _ u. between_sinks op (value env call a here) (value env call b here) (value_sinks a here) (value_sinks b here) here u
    value_sinks (t.choice a c b) here w = also (tick_sinks here w) λ _ u. also (value_sinks c here u) λ x z. if_sinks (is_true x z.store) (value env call a here) (value env call b here) z z (value_sinks a here z) (value_sinks b here z)
    value_sinks (t.index a i) here w = also (tick_sinks here w) λ _ u. also (value_sinks a here u) λ x z. also (value_sinks i here z) λ y s. heap_sinks here _ (index_down x y) s
    value_sinks (t.slice a i j) here w = also (tick_sinks here w) λ _ u. also (value_sinks a here u) λ x z. also (bound_sinks i here z) λ y q. also (bound_sinks j here q) λ p s. heap_sinks here _ (slice_down x y p) s
    value_sinks (t.call f es names) here w = also (tick_sinks here w) λ _ u. also (value_sinks f here u) λ g z. also (values_sink es here z) λ xs y. apply_sinks g _ _ here y
    value_sinks (t.method e name es names) here w =
        also (tick_sinks here w) λ _ u.
        also (if_sinks (is_native_name e here u) (tick here >>= λ _. pure native) (value env call e here >>= λ x. pure (receiver x)) u u
        (also (tick_sinks here u) λ _ z. gives_sink native z) (also (value_sinks e here u) λ x z. gives_sink (receiver x) z)) λ r z.
        also (values_sink es here z) λ xs y. apply_method_sinks env r name _ _ here y

    pub values_sink : (es : Exs) (here : Here) → Sinking (values env call es here)
    values_sink t.no_exs here w = gives_sink [] w
    values_sink (t.ex e es) here w = also (value_sinks e here w) λ x u. also (values_sink es here u) λ xs z. gives_sink (x ∷ xs) z

    pub each_sinks : (es : Exs) (here : Here) → AllSinking (each_value env call es here)
    each_sinks t.no_exs here = tt
    each_sinks (t.ex e es) here = (value_sinks e here, each_sinks es here)

    pub entries_sink : (ks : Exs) (ms : List (Runs Val)) → AllSinking ms → (done : Entries) (here : Here) → Sinking (entries env call ks ms done here)
    entries_sink t.no_exs ms h done here w = ends_sink _ _ _ refl refl
    entries_sink (t.ex k ks) [] h done here w = ends_sink _ _ _ refl refl
    entries_sink (t.ex k ks) (m ∷ ms) h done here w = also (value_sinks k here w) λ x u. also (h.0 u) λ y z. also (fresh_sinks x y done here z) λ es s. entries_sink ks ms h.1 es here s

    pub bound_sinks : (b : Bound) (here : Here) → Sinking (bound_value env call b here)
    bound_sinks t.no_bound here w = gives_sink v.Nothing w
    bound_sinks (t.bound e) here w = value_sinks e here w

    pub aim_sinks : (e : Ex) (here : Here) → Sinking (aim env call e here)
    aim_sinks (t.name x) here w = ends_sink _ _ _ refl refl
    aim_sinks (t.index a i) here w = also (value_sinks a here w) λ x u. also (value_sinks i here u) λ y z. ends_sink _ _ _ refl refl
    aim_sinks (t.tuple es) here w = also (aims_sink es here w) λ x z. ends_sink _ _ _ refl refl
    aim_sinks (t.list es) here w = also (aims_sink es here w) λ x z. ends_sink _ _ _ refl refl
    aim_sinks e here w = fails_sink _ _ _

    pub aims_sink : (es : Exs) (here : Here) → Sinking (aims env call es here)
    aims_sink t.no_exs here w = ends_sink _ _ _ refl refl
    aims_sink (t.ex e es) here w = also (aim_sinks e here w) λ x u. also (aims_sink es here u) λ xs z. ends_sink _ _ _ refl refl

    pub comprehension_sinks : (cs : Clauses) (m : Collection → Runs Collection) → ((g : Collection) → Sinking (m g)) → (here : Here) → Sinking (comprehension env call cs m here)
    comprehension_sinks (t.clause (t.for_in target e) cs) m h here w =
        also (value_sinks e here w) λ x u.
        let inside = with_block (new_block (clause_names (t.clause (t.for_in target e) cs))) u in
        also (from_beside u inside _ refl refl (over_sinks x here _ (λ xs. gather_sinks _ (λ y g z. also (tick_sinks here z) λ _ s. also (aim_sinks target here s) λ a q. also (store_sinks a y here q) λ _ r. clauses_sink cs m h here g r) xs nothing_yet) inside)) λ g z. ends_sink _ _ _ refl refl
    comprehension_sinks (t.clause (t.only_if e) cs) m h here w = fails_sink _ _ _
    comprehension_sinks t.no_clauses m h here w = fails_sink _ _ _

    pub clauses_sink : (cs : Clauses) (m : Collection → Runs Collection) → ((g : Collection) → Sinking (m g)) → (here : Here) (g : Collection) → Sinking (clauses env call cs m here g)
    clauses_sink t.no_clauses m h here g w = h g w
    clauses_sink (t.clause c cs) m h here g w = clause_sinks c (clauses env call cs m here) (clauses_sink cs m h here) here g w

    pub clause_sinks : (c : Cl) (m : Collection → Runs Collection) → ((g : Collection) → Sinking (m g)) → (here : Here) (g : Collection) → Sinking (clause env call c m here g)
    clause_sinks (t.for_in target e) m h here g w =
        also (value_sinks e here w) λ x u.
        over_sinks x here _ (λ xs. gather_sinks _ (λ y i z. also (tick_sinks here z) λ _ s. also (aim_sinks target here s) λ a q. also (store_sinks a y here q) λ _ r. h i r) xs g) u
    clause_sinks (t.only_if e) m h here g w = also (value_sinks e here w) λ x u. if_sinks (is_true x u.store) (m g) (pure g) u u (h g u) (gives_sink g u)
