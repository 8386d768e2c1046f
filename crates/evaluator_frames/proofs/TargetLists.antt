-- Several targets, one after another.
use Rattle.std.proofs.Common.{◌≡◌, ℕ, List, [], ◌∷◌, ◌++◌, drop, refl, ap, sym, ◌∙◌, Vec, Global}
use Rattle.std.specs.declared.sync.Arc.{Arc}
use Rattle.std.specs.Arc.{arc_value}
use Rattle.syntax_tree.specs.declared.expr.Expr.{Expr}
use Rattle.syntax_tree.specs.View.{tree_of, trees_of}
use Rattle.evaluator_semantics.specs.World.{World, Here, Ends, ended, failed, waits, Runs, then_runs, pure}
use Rattle.evaluator_semantics.specs.Environment.{Env}
use Rattle.evaluator_semantics.specs.Targets.{Aim, Aims, aim_at, no_aims, to_each}
use Rattle.evaluator_semantics.specs.Expressions.{aims}
use Rattle.evaluator_semantics.specs.Calls.{call}
use Rattle.evaluator_state.specs.AimView.{before}
use Rattle.evaluator_frames.specs.declared.frame.Frame.{Frame}
use Rattle.evaluator_frames.specs.Frames.{Sig, an_aim, on, aimed, aims_at, aims_from, above, stack_does}

before_more : (done : List Aim) (a : Aim) (more : Aims) → before (done ++ a ∷ []) more ≡ before done (aim_at a more)
before_more [] a more = refl
before_more (d ∷ ds) a more = ap (λ m. aim_at d m) (before_more ds a more)

more_aims : {B : Type 0} (m : Ends Aims) (a : Aim) (done : List Aim) (p : Aim → Runs Sig) (j : Sig → Runs B) → then_runs (then_runs (then_runs (then_runs m (λ more. pure (aim_at a more))) (λ more. pure (to_each (before done more)))) p) j ≡ then_runs (then_runs (then_runs m (λ more. pure (to_each (before (done ++ a ∷ []) more)))) p) j
more_aims (ended more u) a done p j = ap (λ l. then_runs (p (to_each l) u) j) (sym (before_more done a more))
more_aims (failed c site) a done p j = refl
more_aims (waits ps) a done p j = refl

first_aim : {B : Type 0} (m : Ends Aim) (rest : Runs Aims) (done : List Aim) (p : Aim → Runs Sig) (j : Sig → Runs B) → then_runs (then_runs (then_runs (then_runs m (λ a w. then_runs (rest w) (λ more. pure (aim_at a more)))) (λ more. pure (to_each (before done more)))) p) j ≡ then_runs m (λ a w. then_runs (then_runs (then_runs (rest w) (λ more. pure (to_each (before (done ++ a ∷ []) more)))) p) j)
first_aim (ended a w) rest done p j = more_aims (rest w) a done p j
first_aim (failed c site) rest done p j = refl
first_aim (waits ps) rest done p j = refl

module _ (env : Env) (n : ℕ) (here : Here) (line : ℕ) (frames : List Frame) (w : World) where
  pub aim_begins : (es again : Arc (Vec Expr Global) Global) (e : Expr) (done : List Aim) (k m : ℕ) → drop k (arc_value es).items ≡ e ∷ drop m (arc_value es).items → arc_value again ≡ arc_value es
      → above env n here (aimed (aims_from env n here (trees_of (drop k (arc_value es).items)) done line)) frames w
      ≡ then_runs (aims_at env n here (tree_of e) line w) (λ a. above env n here (aimed (aims_from env n here (trees_of (drop m (arc_value again).items)) (done ++ a ∷ []) line)) frames)
  aim_begins es again e done k m first same =
      ap (λ (l : List Expr). above env n here (aimed (aims_from env n here (trees_of l) done line)) frames w) first
      ∙ first_aim (aims_at env n here (tree_of e) line w) (aims env (call env n) (trees_of (drop m (arc_value es).items)) (on env n here line)) done (λ a. pure (an_aim a)) (stack_does env n here frames)
      ∙ ap (λ (v : Vec Expr Global). then_runs (aims_at env n here (tree_of e) line w) (λ a. above env n here (aimed (aims_from env n here (trees_of (drop m v.items)) (done ++ a ∷ []) line)) frames)) (sym same)

  pub aims_end : (es : List Expr) (done : List Aim) → es ≡ [] → above env n here (aimed (aims_from env n here (trees_of es) done line)) frames w ≡ stack_does env n here frames (an_aim (to_each (before done no_aims))) w
  aims_end es done e = ap (λ (l : List Expr). above env n here (aimed (aims_from env n here (trees_of l) done line)) frames w) e
