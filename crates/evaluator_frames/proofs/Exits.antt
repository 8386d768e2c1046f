-- Statements that leave their suite at once, and statements behind which none stands.
use Rattle.std.proofs.Common.{◌≡◌, ◌≤◌, true, ℕ, List, [], ◌∷◌, length, drop, Option, Result, Ok, Err, IfOk, Vec, Global, arith, refl, ap, sym, subst, ◌∙◌}
use Rattle.std.specs.declared.sync.Arc.{Arc}
use Rattle.std.specs.Arc.{arc_value}
use Rattle.values_objects.specs.declared.halt.Halt.{Halt}
use Rattle.values_objects.specs.declared.halt.Halt.TheVariants.{Code, Memory}
use Rattle.values_semantics.specs.declared.val.Val.{Val}
use Rattle.syntax_tree.specs.Tree as t
use Rattle.syntax_tree.specs.Tree.{St, Br}
use Rattle.syntax_tree.specs.View.{bound_tree}
use Rattle.syntax_tree.specs.Statements.{stmt_of, stmts_of, stmt_step, branch_step}
use Rattle.syntax_tree.specs.declared.expr.Expr.{Expr}
use Rattle.syntax_tree.specs.declared.stmt.Stmt.{Stmt, fold-roll-Stmt}
use Rattle.syntax_tree.specs.declared.stmt.Stmt.TheOpen.{Stmt-F}
use Rattle.syntax_tree.specs.declared.stmt.Stmt.TheVariants as z
use Rattle.evaluator_state.specs.declared.state.State.{State}
use Rattle.evaluator_state.specs.View.{Ran}
use Rattle.evaluator_semantics.specs.World.{World, Here, Ends, ended, failed, waits, Runs, then_runs, pure, tick}
use Rattle.evaluator_semantics.specs.Environment.{Env}
use Rattle.evaluator_semantics.specs.Statements as s
use Rattle.evaluator_semantics.specs.Statements.{unless_over, exec}
use Rattle.evaluator_semantics.specs.Calls.{call}
use Rattle.evaluator_frames.specs.declared.frame.Control.TheVariants as c
use Rattle.evaluator_frames.specs.declared.frame.Signal.TheVariants as g
use Rattle.evaluator_frames.specs.declared.frame.Exit.{Exit}
use Rattle.evaluator_frames.specs.declared.frame.Exit.TheVariants as x
use Rattle.evaluator_frames.specs.declared.frame.Frame.TheVariants as f
use Rattle.evaluator_frames.specs.declared.frame.Once.{Once}
use Rattle.evaluator_frames.specs.declared.frame.Once.TheVariants as n
use Rattle.evaluator_frames.specs.Frames.{Sig, a_value, an_aim, an_exit, a_gathered, on, exit_of, body, frame_does}
use Rattle.evaluator_frames.specs.Ahead.{IsExit, LeavesAs, OnceDoes, OnceCosts, SuiteCosts, StopsAs, exited_as, is_run}
use Rattle.evaluator_frames.proofs.Bind.{then_assoc, drop_past}
use Rattle.evaluator_frames.proofs.AtOnce.{first_stops}

pub stmt-Return : (l : ℕ) (e : Option (Arc Expr Global)) → stmt_of (z.Return l e) ≡ t.return l (bound_tree e)
stmt-Return l e = ap stmt_of (sym (z.rolls-Return l e)) ∙ fold-roll-Stmt St Br stmt_step branch_step (Stmt-F.Return l e)

pub stmt-Break : (l : ℕ) → stmt_of (z.Break l) ≡ t.break l
stmt-Break l = ap stmt_of (sym (z.rolls-Break l)) ∙ fold-roll-Stmt St Br stmt_step branch_step (Stmt-F.Break l)

pub stmt-Continue : (l : ℕ) → stmt_of (z.Continue l) ≡ t.continue l
stmt-Continue l = ap stmt_of (sym (z.rolls-Continue l)) ∙ fold-roll-Stmt St Br stmt_step branch_step (Stmt-F.Continue l)

-- a piece with no statement behind it
pub alone_is : (m : Ends s.Exit) → then_runs m (λ exit. unless_over exit (pure s.goes_on)) ≡ m
alone_is (ended s.goes_on u) = refl
alone_is (ended s.breaks u) = refl
alone_is (ended s.continues u) = refl
alone_is (ended (s.returns v) u) = refl
alone_is (failed code site) = refl
alone_is (waits ps) = refl

-- a statement that leaves its suite, by itself
pub leaves_once : {E : Type 0} (env : Env) (k : ℕ) (here : Here) (m : Ends s.Exit) (r : Result Once E) (u : World) → IfOk r (λ once. LeavesAs env k here m once u) → IfOk r (λ once. OnceDoes env k here m once u)
leaves_once env k here m (Ok n.Done) u h = absurd h
leaves_once env k here m (Ok (n.Begun control)) u h = ap exited_as (sym (alone_is m)) ∙ h (pure s.goes_on)
leaves_once env k here m (Ok (n.Faulty line code)) u h = h
leaves_once env k here m (Ok n.Not) u h = tt
leaves_once env k here m (Err e) u h = tt

-- and as the first of several
pub leaves_first : (env : Env) (n' : ℕ) (here : Here) (w : World) (ss : List Stmt) (st : Stmt) (k m : ℕ) → drop k ss ≡ st ∷ drop m ss → (once : Once) (u : World) → LeavesAs env n' here (exec env (call env n') (stmt_of st) here w) once u → OnceDoes env n' here (body env n' here (stmts_of (drop k ss)) w) once u
leaves_first env n' here w ss st k m first n.Done u h = absurd h
leaves_first env n' here w ss st k m first (n.Begun control) u h = ap (λ (l : List Stmt). exited_as (body env n' here (stmts_of l) w)) first ∙ h (body env n' here (stmts_of (drop m ss)))
leaves_first env n' here w ss st k m first (n.Faulty line code) u h = first_stops env n' here w ss st k m first code (on env n' here line).site h
leaves_first env n' here w ss st k m first n.Not u h = tt

-- what a statement costs, its suite costs
pub costs_of_first : (once : Once) (old new : State) → (once ≡ n.Not → ⊥) → OnceCosts once old new → SuiteCosts once old new
costs_of_first n.Done old new not h = omega (arith, h)
costs_of_first (n.Begun control) old new not h = omega (arith, h)
costs_of_first (n.Faulty line code) old new not h = h
costs_of_first n.Not old new not h = absurd (not refl)

-- a statement that means the same
pub same_leaves : {E : Type 0} (env : Env) (k : ℕ) (here : Here) (m says : Ends s.Exit) (r : Result Once E) (u : World) → m ≡ says → IfOk r (λ once. LeavesAs env k here says once u) → IfOk r (λ once. LeavesAs env k here m once u)
same_leaves env k here m says r u e h = subst (λ (q : Ends s.Exit). IfOk r (λ once. LeavesAs env k here q once u)) (sym e) h

-- what has ended so leaves the suite
pub exit_leaves : (env : Env) (k : ℕ) (here : Here) (says : Ends s.Exit) (exit : Exit) (u : World) → IsExit exit → says ≡ ended (exit_of exit) u → LeavesAs env k here says (n.Begun (c.Signal (g.Exit exit))) u
exit_leaves env k here says x.GoesOn u is e = absurd is
exit_leaves env k here says x.Breaks u is e = λ rest. ap (λ q. exited_as (then_runs q (λ exit. unless_over exit rest))) e
exit_leaves env k here says x.Continues u is e = λ rest. ap (λ q. exited_as (then_runs q (λ exit. unless_over exit rest))) e
exit_leaves env k here says (x.Returns v) u is e = λ rest. ap (λ q. exited_as (then_runs q (λ exit. unless_over exit rest))) e

-- a fault of a statement that would leave its suite
pub stopped_leaves : {E : Type 0} (env : Env) (k : ℕ) (here : Here) (says : Ends s.Exit) (r : Result Once E) (line : ℕ) (halt : Halt) (u v : World) → IfOk r (StopsAs line halt) → Ran (on env k here line).site says (Err halt) u → IfOk r (λ once. LeavesAs env k here says once v)
stopped_leaves env k here says (Ok once) line (Code code) u v is h = subst (λ (q : Once). LeavesAs env k here says q v) (sym is) h
stopped_leaves env k here says (Ok once) line (Memory _) u v is h = absurd is
stopped_leaves env k here says (Err e) line halt u v is h = tt

-- and something was done
pub stopped_runs : {E : Type 0} (r : Result Once E) (line : ℕ) (halt : Halt) → IfOk r (StopsAs line halt) → IfOk r (λ once. is_run once ≡ true)
stopped_runs (Ok once) line (Code code) is = ap is_run is
stopped_runs (Ok once) line (Memory _) is = absurd is
stopped_runs (Err e) line halt is = tt

-- a fault costs all steps
pub stopped_costs : {E : Type 0} (r : Result Once E) (line : ℕ) (halt : Halt) (old new : State) → IfOk r (StopsAs line halt) → new.heap.steps ≡ 0 → IfOk r (λ once. OnceCosts once old new)
stopped_costs (Ok once) line (Code code) old new is h = subst (λ (q : Once). OnceCosts q old new) (sym is) h
stopped_costs (Ok once) line (Memory _) old new is h = absurd is
stopped_costs (Err e) line halt old new is h = tt

-- a `return`: what it gives, and that it ends
pub returned : (here : Here) (w u : World) (does : Runs Val) (v : Val) → then_runs (tick here w) (λ _. does) ≡ ended v u → then_runs (tick here w) (λ _ z. then_runs (does z) (λ y. pure (s.returns y))) ≡ ended (s.returns v) u
returned here w u does v e = sym (then_assoc (tick here w) (λ _. does) (λ y. pure (s.returns y))) ∙ ap (λ q. then_runs q (λ y. pure (s.returns y))) e

pub return_stops : (here : Here) (w u : World) (does : Runs Val) (halt : Halt) → Ran here.site (then_runs (tick here w) (λ _. does)) (Err halt) u → Ran here.site (then_runs (tick here w) (λ _ z. then_runs (does z) (λ y. pure (s.returns y)))) (Err halt) u
return_stops here w u does (Code code) e = sym (then_assoc (tick here w) (λ _. does) (λ y. pure (s.returns y))) ∙ ap (λ q. then_runs q (λ y. pure (s.returns y))) e
return_stops here w u does (Memory _) e = tt

-- a suite of which nothing is left changes nothing
rest_is : (env : Env) (k : ℕ) (here : Here) (ss : Arc (Vec Stmt Global) Global) (i : ℕ) (sig : Sig) (u : World) → drop i (arc_value ss).items ≡ [] → frame_does env k here (f.Rest ss i) sig u ≡ ended sig u
rest_is env k here ss i (a_value v) u none = refl
rest_is env k here ss i (an_aim a) u none = refl
rest_is env k here ss i (an_exit s.goes_on) u none = ap (λ (l : List Stmt). exited_as (body env k here (stmts_of l) u)) none
rest_is env k here ss i (an_exit s.breaks) u none = refl
rest_is env k here ss i (an_exit s.continues) u none = refl
rest_is env k here ss i (an_exit (s.returns v)) u none = refl
rest_is env k here ss i (a_gathered got) u none = refl

pub no_rest : (env : Env) (k : ℕ) (here : Here) (ss : Arc (Vec Stmt Global) Global) (i : ℕ) (m : Ends Sig) → length (arc_value ss).items ≤ i → then_runs m (frame_does env k here (f.Rest ss i)) ≡ m
no_rest env k here ss i (ended sig u) le = rest_is env k here ss i sig u (drop_past (arc_value ss).items i le)
no_rest env k here ss i (failed code site) le = refl
no_rest env k here ss i (waits ps) le = refl
