-- What a part of a turn leaves behind.
use Rattle.std.proofs.Common.{◌≡◌, ◌≤◌, ◌<◌, ◌+◌, ℕ, Vec, Box, Global, Ok, Err, Result, true, refl, arith}
use Rattle.std.specs.Prelude.{IfOk, OnErr}
use Rattle.std.specs.declared.sync.Arc.{Arc}
use Rattle.base_types.specs.declared.text.Text.{Text}
use Rattle.values_objects.specs.declared.halt.Halt.{Halt}
use Rattle.values_semantics.specs.declared.val.Val.{Val}
use Rattle.values_semantics.specs.declared.builtin.Builtin.{Builtin}
use Rattle.syntax_tree.specs.declared.expr.Expr.{Expr}
use Rattle.syntax_tree.specs.declared.def.Def.{Def}
use Rattle.evaluator_state.specs.declared.lvalues.LValue.{LValue}
use Rattle.evaluator_frames.specs.declared.frame.Comprehension.{Comprehension}
use Rattle.evaluator_frames.specs.declared.frame.Control.{Control}
use Rattle.evaluator_frames.specs.declared.frame.MethodCall.{MethodCall}
use Rattle.evaluator_frames.specs.declared.frame.Control.TheVariants as c
use Rattle.evaluator_frames.specs.Frames.{is_within}
use Rattle.evaluator_frames.specs.Weight.{Lighter, frames_weight, control_weight}
use Rattle.evaluator.specs.declared.machine.Machine.{Machine}
use Rattle.evaluator.specs.declared.machine.Stop.{Stop}
use Rattle.evaluator.specs.declared.machine.Progress.{Progress}
use Rattle.evaluator.specs.declared.machine.Progress.TheVariants as t
use Rattle.evaluator.specs.Machines.{IsActing, Lightens, TurnFalls, StaysLight}

-- what goes on within a function or a file
pub within : (k : Control) → IsActing k
    → ((line : ℕ) (target : Arc Expr Global) (of : Arc Comprehension Global) (x : Val) → k ≡ c.First line target of x → ⊥)
    → ((line : ℕ) (f : Builtin) (xs : Vec Val Global) (names : Arc (Vec Text Global) Global) → k ≡ c.Builtin line f xs names → ⊥)
    → ((line : ℕ) (call : Box MethodCall Global) → k ≡ c.Method line call → ⊥)
    → ((line : ℕ) (aim : Box LValue Global) (x y : Val) → k ≡ c.Add line aim x y → ⊥)
    → ((line : ℕ) (def : Arc Def Global) (xs : Vec Val Global) → k ≡ c.Define line def xs → ⊥)
    → is_within k ≡ true
within (c.Signal sig) a p r s t u = absurd a
within (c.Eval line e) a p r s t u = refl
within (c.Items line s') a p r s t u = refl
within (c.Entries line pairs next) a p r s t u = refl
within (c.Aim line e) a p r s t u = refl
within (c.Aims line es done) a p r s t u = refl
within (c.Suite ss next) a p r s t u = refl
within (c.Branches bs next other) a p r s t u = refl
within (c.Turns turns) a p r s t u = refl
within (c.Clauses line of inner got) a p r s t u = refl
within (c.Gather turns got) a p r s t u = refl
within (c.First line target of x) a p r s t u = absurd (p line target of x refl)
within (c.Enter line place xs names) a p r s t u = absurd a
within (c.Builtin line f xs names) a p r s t u = absurd (r line f xs names refl)
within (c.Method line call) a p r s t u = absurd (s line call refl)
within (c.Package line f xs names) a p r s t u = absurd a
within (c.Tops file next) a p r s t u = refl
within (c.Defaults line def next done) a p r s t u = refl
within (c.Define line def xs) a p r s t u = absurd (u line def xs refl)
within (c.Add line aim x y) a p r s t u = absurd (t line aim x y refl)
within (c.Fault line code) a p r s t u = refl

-- where nothing is said of an end
pub nothing_moves : {A : Type 0} (r : Result Control Halt) (x : A) → OnErr r (x ≡ x)
nothing_moves (Ok control) x = tt
nothing_moves (Err halt) x = refl

-- a turn that leaves less leaves no more
pub stays : (m after : Machine) (k : Control) (r : Result Progress Stop) → IfOk r (λ turned. TurnFalls m k after turned) → IfOk r (λ turned. StaysLight m k after turned)
stays m after k (Ok (t.Goes next)) h = record { steps = h.steps; weight = λ e. omega (arith, h.weight e) }
stays m after k (Ok (t.Ended sig)) h = tt
stays m after k (Ok (t.Waits control patterns)) h = tt
stays m after k (Err stop) h = tt

-- a part that leaves less, and a second one behind it that leaves no more
pub lightens_then : (m first after : Machine) (k : Control) (w : ℕ) (r : Result Progress Stop) → Lighter m.state.heap.steps w first.state.heap.steps (frames_weight first.frames.items + control_weight k) → IfOk r (λ turned. StaysLight first k after turned) → IfOk r (λ turned. Lightens m w after turned)
lightens_then m first after k w (Ok (t.Goes next)) less h = record {
  steps = omega (arith, less.steps, h.steps);
  weight = λ e. omega (arith, less.weight (omega (arith, e, less.steps, h.steps)), h.weight (omega (arith, e, less.steps, h.steps)));
}
lightens_then m first after k w (Ok (t.Ended sig)) less h = tt
lightens_then m first after k w (Ok (t.Waits control patterns)) less h = tt
lightens_then m first after k w (Err stop) less h = tt

-- steps and a weight that fell
pub fell : (s s' w w' : ℕ) → s' ≤ s → w' < w → Lighter s w s' w'
fell s s' w w' steps weight = record { steps = steps; weight = λ e. weight }
