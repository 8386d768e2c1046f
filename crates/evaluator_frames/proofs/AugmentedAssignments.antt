-- Augmented assignments by other operators than `+`.
use Rattle.std.proofs.Common.{◌≡◌, Err, refl, ap}
use Rattle.values_objects.specs.declared.halt.Halt.{Halt}
use Rattle.values_objects.specs.declared.halt.Halt.TheVariants.{Code, Memory}
use Rattle.values_semantics.specs.declared.val.Val.{Val}
use Rattle.values_semantics.specs.Binary.{binary}
use Rattle.syntax_tree.specs.declared.expr.BinaryOp.{BinaryOp}
use Rattle.syntax_tree.specs.declared.expr.BinaryOp.TheVariants as o
use Rattle.evaluator_semantics.specs.World.{World, Site, Here, Ends, Runs, then_runs, on_heap}
use Rattle.evaluator_semantics.specs.Expressions.{operator_of}
use Rattle.evaluator_semantics.specs.Statements.{augmented_value}
use Rattle.evaluator_state.specs.AimView.{RanInto}
use Rattle.evaluator_frames.specs.declared.frame.Control.{Control}
use Rattle.evaluator_frames.specs.Frames.{Sig, Goes}

pub changed_other : (op : BinaryOp) (x y : Val) (h : Here) → (op ≡ o.Add → ⊥) → augmented_value op x y h ≡ on_heap h (binary (operator_of op) x y)
changed_other o.Add x y h p = absurd (p refl)
changed_other o.Or x y h p = refl
changed_other o.And x y h p = refl
changed_other o.Equal x y h p = refl
changed_other o.NotEqual x y h p = refl
changed_other o.Less x y h p = refl
changed_other o.LessEqual x y h p = refl
changed_other o.Greater x y h p = refl
changed_other o.GreaterEqual x y h p = refl
changed_other o.In x y h p = refl
changed_other o.NotIn x y h p = refl
changed_other o.Subtract x y h p = refl
changed_other o.Multiply x y h p = refl
changed_other o.Divide x y h p = refl
changed_other o.Remainder x y h p = refl

pub stops_into : {A B : Type 0} (m : Ends A) (k : A → Runs B) (j : B → Runs Sig) (site : Site) (halt : Halt) (b : A) (u : World) (after : Control → Ends Sig) → RanInto {A = Unit {0}} site m (Err halt) b u → Goes site (then_runs (then_runs m k) j) (Err halt) after
stops_into m k j site (Code c) b u after e = ap (λ o. then_runs (then_runs o k) j) e
stops_into m k j site (Memory _) b u after e = tt
