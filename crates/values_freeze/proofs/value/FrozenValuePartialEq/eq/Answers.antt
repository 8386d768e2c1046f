use Rattle.std.proofs.Common.{◌∙◌}
use Rattle.values_freeze.specs.View.{frozen_of}
use Rattle.values_freeze.specs.Same.{same}
use Rattle.values_freeze.proofs.Sames.{one_answer}
use Rattle.values_freeze.proofs.value.FrozenValuePartialEq.eq.Goals as goal

pub returns : goal.returns
returns c = one_answer c.same_frozen.result (frozen_of c.self.inside.inner) (frozen_of c.other.inside.inner) c.self.invariant.0 c.same_frozen.ensures.exact ∙ (λ i. same (c.self.view_is i) (c.other.view_is i))
