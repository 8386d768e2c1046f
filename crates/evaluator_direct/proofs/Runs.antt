-- How pieces of an evaluation go on one after another.
use Rattle.std.proofs.Common.{◌≡◌, ◌≤◌, ◌++◌, ℕ, zero, suc, length, drop, arith, List, [], ◌∷◌, Bool, true, false, Some, Result, Ok, Err, refl, ap, sym, subst, ◌∙◌}
use Rattle.std.specs.Prelude.{◌&&◌, if◌then◌else◌}
use Rattle.values_objects.specs.declared.halt.Halt.{Halt}
use Rattle.values_objects.specs.declared.halt.Halt.TheVariants.{Code, Memory}
use Rattle.values_heap.specs.View.{Says}
use Rattle.values_semantics.specs.declared.val.Val.{Val}
use Rattle.values_semantics.specs.Outcome as o
use Rattle.values_semantics.specs.Heap.{Store, walks}
use Rattle.values_semantics.specs.Operators.{is_true}
use Rattle.evaluator_semantics.specs.World.{World, Site, Here, Ends, ended, failed, waits, Runs, then_runs, ◌>>=◌, pure, on_heap, at_site, by_truth, tick}
use Rattle.syntax_tree.specs.declared.expr.BinaryOp.{BinaryOp}
use Rattle.syntax_tree.specs.declared.expr.BinaryOp.TheVariants as ops
use Rattle.values_semantics.specs.Binary.{binary}
use Rattle.syntax_tree.specs.Tree as t
use Rattle.syntax_tree.specs.Tree.{Ex}
use Rattle.evaluator_semantics.specs.Environment.{Env}
use Rattle.evaluator_semantics.specs.Expressions.{Call, operator_of, between, value, values}
use Rattle.evaluator_semantics.specs.Statements.{Exit}
use Rattle.evaluator_state.specs.View.{Ran, RanItems}
use Rattle.evaluator_direct.specs.StatementResults.{Done, Tested}
use Rattle.syntax_tree.specs.declared.expr.Expr.{Expr}
use Rattle.syntax_tree.specs.View.{tree_of, trees_of}
use Rattle.evaluator_direct.specs.Parts.{right}
use Rattle.evaluator_direct.specs.Quiet.{quiet, quiets}

-- a piece that stops, and what would stand behind it
pub stops : {A B : Type 0} (m : Ends A) (k : A → Runs B) (site : Site) (halt : Halt) (u v : World) → Ran site m (Err halt) u → Ran site (then_runs m k) (Err halt) v
stops m k site (Code c) u v h = ap (λ q. then_runs q k) h
stops m k site (Memory _) u v h = tt

pub items_stop : {A B : Type 0} (m : Ends (List A)) (k : List A → Runs B) (site : Site) (halt : Halt) (u v : World) → RanItems site m (Err halt) u → Ran site (then_runs m k) (Err halt) v
items_stop m k site (Code c) u v h = ap (λ q. then_runs q k) h
items_stop m k site (Memory _) u v h = tt

-- a piece that goes on
pub behind : {A B : Type 0} (m : Ends A) (k : A → Runs B) (site : Site) (a : A) (u : World) (r : Result B Halt) (v : World) → m ≡ ended a u → Ran site (k a u) r v → Ran site (then_runs m k) r v
behind m k site a u r v e h = subst (λ q. Ran site (then_runs q k) r v) (sym e) h

-- what works on the heap alone
pub heaped : {A : Type 0} (does : o.Does Store A) (here : Here) (w : World) (r : Result A Halt) (s : Store) → Says (does w.store) r s → Ran here.site (on_heap here does w) r (record w { store = s })
heaped does here w (Ok a) s h = ap (at_site here.site w) h
heaped does here w (Err (Code c)) s h = ap (at_site here.site w) h
heaped does here w (Err (Memory _)) s h = tt

-- one of two pieces, by the truth of a value
pub truly : {A : Type 0} (x : Val) (m k : Runs A) (w : World) (b : Bool) (site : Site) (r : Result A Halt) (v : World) → b ≡ is_true x w.store → Ran site ((if b then m else k) w) r v → Ran site (by_truth x m k w) r v
truly x m k w b site r v e h = subst (λ (c : Bool). Ran site ((if c then m else k) w) r v) e h

-- the second operand, behind the first
pub right_or : (op : BinaryOp) (x : Val) (m : Runs Val) (here : Here) (w : World) (b : Bool) (r : Result Val Halt) (v : World) → op ≡ ops.Or → b ≡ is_true x w.store → Ran here.site ((if b then pure x else m) w) r v → Ran here.site (right op x m here w) r v
right_or op x m here w b r v is e h = subst (λ (q : BinaryOp). Ran here.site (right q x m here w) r v) (sym is) (truly x (pure x) m w b here.site r v e h)

pub right_and : (op : BinaryOp) (x : Val) (m : Runs Val) (here : Here) (w : World) (b : Bool) (r : Result Val Halt) (v : World) → op ≡ ops.And → b ≡ is_true x w.store → Ran here.site ((if b then m else pure x) w) r v → Ran here.site (right op x m here w) r v
right_and op x m here w b r v is e h = subst (λ (q : BinaryOp). Ran here.site (right q x m here w) r v) (sym is) (truly x m (pure x) w b here.site r v e h)

pub right_both : (op : BinaryOp) (x : Val) (m : Runs Val) (here : Here) → (op ≡ ops.Or → ⊥) → (op ≡ ops.And → ⊥) → right op x m here ≡ (λ w. then_runs (m w) (λ y. on_heap here (binary (operator_of op) x y)))
right_both ops.Or x m here p q = absurd (p refl)
right_both ops.And x m here p q = absurd (q refl)
right_both ops.Equal x m here p q = refl
right_both ops.NotEqual x m here p q = refl
right_both ops.Less x m here p q = refl
right_both ops.LessEqual x m here p q = refl
right_both ops.Greater x m here p q = refl
right_both ops.GreaterEqual x m here p q = refl
right_both ops.In x m here p q = refl
right_both ops.NotIn x m here p q = refl
right_both ops.Add x m here p q = refl
right_both ops.Subtract x m here p q = refl
right_both ops.Multiply x m here p q = refl
right_both ops.Divide x m here p q = refl
right_both ops.Remainder x m here p q = refl

-- the first operand, and what is done behind it
pub between_is : (op : BinaryOp) (m n : Runs Val) (here : Here) → between op m n here ≡ (λ w. then_runs (m w) (λ x. right op x n here))
between_is ops.Or m n here = refl
between_is ops.And m n here = refl
between_is ops.Equal m n here = refl
between_is ops.NotEqual m n here = refl
between_is ops.Less m n here = refl
between_is ops.LessEqual m n here = refl
between_is ops.Greater m n here = refl
between_is ops.GreaterEqual m n here = refl
between_is ops.In m n here = refl
between_is ops.NotIn m n here = refl
between_is ops.Add m n here = refl
between_is ops.Subtract m n here = refl
between_is ops.Multiply m n here = refl
between_is ops.Divide m n here = refl
between_is ops.Remainder m n here = refl

-- a step, and what stands behind it
pub stepped : {A : Type 0} (k : Runs A) (here : Here) (w : World) (s : Store) (r : Result A Halt) (v : World) → walks (λ objects. o.tick) w.store ≡ o.gives tt s → Ran here.site (k (record w { store = s })) r v → Ran here.site (then_runs (tick here w) (λ _. k)) r v
unfolding tick
stepped k here w s r v e h = subst (λ q. Ran here.site (then_runs (at_site here.site w q) (λ _. k)) r v) (sym e) h

pub ticked : {A : Type 0} (k : Runs A) (here : Here) (w : World) (s : Store) → walks (λ objects. o.tick) w.store ≡ o.gives tt s → then_runs (tick here w) (λ _. k) ≡ k (record w { store = s })
unfolding tick
ticked k here w s e = ap (λ q. then_runs (at_site here.site w q) (λ _. k)) e

pub no_step : {A : Type 0} (k : Runs A) (here : Here) (w : World) (halt : Halt) (s : Store) (v : World) → Says (walks (λ objects. o.tick) w.store) (Err halt) s → Ran here.site (then_runs (tick here w) (λ _. k)) (Err halt) v
unfolding tick
no_step k here w (Code c) s v h = ap (λ q. then_runs (at_site here.site w q) (λ _. k)) h
no_step k here w (Memory _) s v h = tt

-- an expression: the step that its node takes, and what it does behind that
pub node : (env : Env) (call : Call) (e d : Ex) (does : Runs Val) (here : Here) (w : World) (s : Store) (r : Result Val Halt) (v : World) → e ≡ d → value env call d here ≡ (λ u. then_runs (tick here u) (λ _. does)) → walks (λ objects. o.tick) w.store ≡ o.gives tt s → Ran here.site (does (record w { store = s })) r v → Ran here.site (value env call e here w) r v
node env call e d does here w s r v is form ticks h = subst (λ (x : Ex). Ran here.site (value env call x here w) r v) (sym is) (subst (λ (m : Runs Val). Ran here.site (m w) r v) (sym form) (stepped does here w s r v ticks h))

-- an expression that has no step left
pub no_node : (env : Env) (call : Call) (e : Ex) (here : Here) (w : World) (halt : Halt) (s : Store) (v : World) → Says (walks (λ objects. o.tick) w.store) (Err halt) s → Ran here.site (value env call e here w) (Err halt) v
no_node env call (t.name x) here w halt s v h = no_step _ here w halt s v h
no_node env call (t.int n) here w halt s v h = no_step _ here w halt s v h
no_node env call (t.str x) here w halt s v h = no_step _ here w halt s v h
no_node env call (t.literal l) here w halt s v h = no_step _ here w halt s v h
no_node env call (t.tuple es) here w halt s v h = no_step _ here w halt s v h
no_node env call (t.list es) here w halt s v h = no_step _ here w halt s v h
no_node env call (t.dict ks es) here w halt s v h = no_step _ here w halt s v h
no_node env call (t.list_of e cs) here w halt s v h = no_step _ here w halt s v h
no_node env call (t.dict_of k e cs) here w halt s v h = no_step _ here w halt s v h
no_node env call (t.unary op e) here w halt s v h = no_step _ here w halt s v h
no_node env call (t.binary op a b) here w halt s v h = no_step _ here w halt s v h
no_node env call (t.choice a c b) here w halt s v h = no_step _ here w halt s v h
no_node env call (t.index a i) here w halt s v h = no_step _ here w halt s v h
no_node env call (t.slice a i j) here w halt s v h = no_step _ here w halt s v h
no_node env call (t.call f es names) here w halt s v h = no_step _ here w halt s v h
no_node env call (t.method e name es names) here w halt s v h = no_step _ here w halt s v h

later : (a b : Bool) → (a && b) ≡ true → b ≡ true
later true b h = h
later false b h = absurd cc

-- the expressions behind the first of some that are quiet
pub quiet_rest : (free : List ℕ → Bool) (e : Expr) (es all : List Expr) → all ≡ e ∷ es → quiets free (trees_of all) ≡ true → quiets free (trees_of es) ≡ true
quiet_rest free e es all is h = later (quiet free (tree_of e)) (quiets free (trees_of es)) (sym (ap (λ l. quiets free (trees_of l)) is) ∙ h)

pub drop_past : {X : Type 0} → (xs : List X) (k : ℕ) → length xs ≤ k → drop k xs ≡ []
drop_past [] zero h = refl
drop_past [] (suc k) h = refl
drop_past (x ∷ xs) zero h = absurd (omega arith)
drop_past (x ∷ xs) (suc k) h = drop_past xs k (omega arith)

append_one : {A : Type 0} (xs : List A) (x : A) (ys : List A) → (xs ++ x ∷ []) ++ ys ≡ xs ++ x ∷ ys
append_one [] x ys = refl
append_one (z ∷ xs) x ys = ap (λ l. z ∷ l) (append_one xs x ys)

append_none : {A : Type 0} (xs : List A) → xs ++ [] ≡ xs
append_none [] = refl
append_none (x ∷ xs) = ap (λ l. x ∷ l) (append_none xs)

one_more : (m : Ends (List Val)) (x : Val) (done : List Val) → then_runs m (λ xs. pure ((done ++ x ∷ []) ++ xs)) ≡ then_runs (then_runs m (λ xs. pure (x ∷ xs))) (λ xs. pure (done ++ xs))
one_more (ended xs w) x done = ap (λ l. ended l w) (append_one done x xs)
one_more (failed c site) x done = refl
one_more (waits ps) x done = refl

module _ (env : Env) (call : Call) (here : Here) where
  -- the values of several expressions, from one on whose value is known
  pub gathers : (e : Expr) (es all : List Expr) (x : Val) (done more : List Val) (w u : World) (o : Ends (List Val)) → all ≡ e ∷ es → more ≡ done ++ x ∷ [] → value env call (tree_of e) here w ≡ ended x u → then_runs (values env call (trees_of all) here w) (λ xs. pure (done ++ xs)) ≡ o → then_runs (values env call (trees_of es) here u) (λ xs. pure (more ++ xs)) ≡ o
  gathers e es all x done more w u o is grown says h =
      ap (λ l. then_runs (values env call (trees_of es) here u) (λ xs. pure (l ++ xs))) grown
      ∙ one_more (values env call (trees_of es) here u) x done
      ∙ ap (λ q. then_runs (then_runs q (λ y. values env call (trees_of es) here >>= λ xs. pure (y ∷ xs))) (λ xs. pure (done ++ xs))) (sym says)
      ∙ ap (λ l. then_runs (values env call (trees_of l) here w) (λ xs. pure (done ++ xs))) (sym is)
      ∙ h

  pub gathered : (all : List Expr) (done : List Val) (w : World) (o : Ends (List Val)) → all ≡ [] → then_runs (values env call (trees_of all) here w) (λ xs. pure (done ++ xs)) ≡ o → o ≡ ended done w
  gathered all done w o is h = sym h ∙ ap (λ l. then_runs (values env call (trees_of l) here w) (λ xs. pure (done ++ xs))) is ∙ ap (λ l. ended l w) (append_none done)

  pub gathers_none : (e : Expr) (es all : List Expr) (done : List Val) (w u v : World) (o : Ends (List Val)) (halt : Halt) → all ≡ e ∷ es → Ran here.site (value env call (tree_of e) here w) (Err halt) u → then_runs (values env call (trees_of all) here w) (λ xs. pure (done ++ xs)) ≡ o → RanItems here.site o (Err halt) v
  gathers_none e es all done w u v o (Code c) is says h =
      sym h
      ∙ ap (λ l. then_runs (values env call (trees_of l) here w) (λ xs. pure (done ++ xs))) is
      ∙ ap (λ q. then_runs (then_runs q (λ y. values env call (trees_of es) here >>= λ xs. pure (y ∷ xs))) (λ xs. pure (done ++ xs))) says
  gathers_none e es all done w u v o (Memory _) is says h = tt

-- a fault of a statement that is run at once
pub done_ran : (m : Ends Exit) (site : Site) (halt : Halt) (u : World) → Ran site m (Err halt) u → Done site m (Err halt) u
done_ran m site (Code c) u h = h
done_ran m site (Memory _) u h = tt

-- a condition that is tested at once
module _ (here : Here) (m : Runs Val) (w : World) where
  pub tested_none : (halt : Halt) (s : Store) (u : World) → Says (walks (λ objects. o.tick) w.store) (Err halt) s → Tested here.site (λ k j. tick here >>= λ _. m >>= λ x. by_truth x k j) w (Err halt) u
  unfolding tick
  tested_none (Code c) s u h = λ k j. ap (λ q. then_runs (at_site here.site w q) (λ _. m >>= λ x. by_truth x k j)) h
  tested_none (Memory _) s u h = tt

  pub tested_stops : (s : Store) (halt : Halt) (v u : World) → walks (λ objects. o.tick) w.store ≡ o.gives tt s → Ran here.site (m (record w { store = s })) (Err halt) v → Tested here.site (λ k j. tick here >>= λ _. m >>= λ x. by_truth x k j) w (Err halt) u
  tested_stops s (Code c) v u ticks h = λ k j. ticked (m >>= λ x. by_truth x k j) here w s ticks ∙ ap (λ q. then_runs q (λ x. by_truth x k j)) h
  tested_stops s (Memory _) v u ticks h = tt

  pub tested : (s : Store) (x : Val) (b : Bool) (u : World) → walks (λ objects. o.tick) w.store ≡ o.gives tt s → m (record w { store = s }) ≡ ended x u → b ≡ is_true x u.store → Tested here.site (λ k j. tick here >>= λ _. m >>= λ x. by_truth x k j) w (Ok (Some b)) u
  tested s x b u ticks says e = λ k j. ticked (m >>= λ x. by_truth x k j) here w s ticks ∙ ap (λ q. then_runs q (λ x. by_truth x k j)) says ∙ ap (λ c. (if c then k else j) u) (sym e)
