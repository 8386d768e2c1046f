use Rattle.std.proofs.Common.{◌∙◌}
use Rattle.std.specs.Cmp.Lexicographic.{pointwise}
use Rattle.values_modules.specs.Equal.{target_eq}
use Rattle.values_modules.proofs.SameTests.{same_targets}
use Rattle.values_modules.proofs.targets.TargetsPartialEq.eq.Goals as goal

pub returns : goal.returns
returns c = c.eq.ensures ∙ same_targets c.self.inside.block c.other.inside.block c.self.invariant.0 c.other.invariant.0 ∙ (λ i. pointwise target_eq (c.self.view_is i) (c.other.view_is i))
