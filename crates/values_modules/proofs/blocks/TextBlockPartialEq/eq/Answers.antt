use Rattle.std.proofs.Common.{◌∙◌}
use Rattle.std.specs.Cmp.Lexicographic.{pointwise}
use Rattle.values_modules.specs.Equal.{text_eq}
use Rattle.values_modules.proofs.SameTests.{same_texts}
use Rattle.values_modules.proofs.blocks.TextBlockPartialEq.eq.Goals as goal

pub returns : goal.returns
returns c = c.eq.ensures ∙ same_texts c.self.inside.bytes.items c.other.inside.bytes.items c.self.invariant c.other.invariant ∙ (λ i. pointwise text_eq (c.self.view_is i) (c.other.view_is i))
