-- An operator between two expressions.
use Rattle.std.proofs.Common.{◌≡◌, refl}
use Rattle.values_semantics.specs.declared.val.Val.{Val}
use Rattle.syntax_tree.specs.declared.expr.BinaryOp.{BinaryOp}
use Rattle.syntax_tree.specs.declared.expr.BinaryOp.TheVariants as o
use Rattle.evaluator_semantics.specs.World.{World, Here, Runs, then_runs}
use Rattle.evaluator_semantics.specs.Expressions.{between}
use Rattle.evaluator_frames.specs.Frames.{right}

-- the first operand, and what is done behind it
pub between_is : (op : BinaryOp) (first second : Runs Val) (h : Here) (w : World) → between op first second h w ≡ then_runs (first w) (λ v. right op v second h)
between_is o.Or first second h w = refl
between_is o.And first second h w = refl
between_is o.Equal first second h w = refl
between_is o.NotEqual first second h w = refl
between_is o.Less first second h w = refl
between_is o.LessEqual first second h w = refl
between_is o.Greater first second h w = refl
between_is o.GreaterEqual first second h w = refl
between_is o.In first second h w = refl
between_is o.NotIn first second h w = refl
between_is o.Add first second h w = refl
between_is o.Subtract first second h w = refl
between_is o.Multiply first second h w = refl
between_is o.Divide first second h w = refl
between_is o.Remainder first second h w = refl
