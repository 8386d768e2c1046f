use Rattle.std.proofs.Common.{◌∙◌, ap, sym}
use Rattle.pattern.specs.Parts.{parts}
use Rattle.pattern.specs.Patterns.{path_matches}
use Rattle.pattern.proofs.FirstSegment.{nothing_takes_nothing}
use Rattle.pattern.proofs.walk.segments_match.Goals as goal

pub returns : goal.returns
returns c =
    nothing_takes_nothing c.loop-rest.path c.is_none.result c.is_none.ensures ∙ ap (λ p. path_matches p (parts c.loop-rest.path)) (sym c.in_default-split_segment.ensures) ∙ sym c.loop-rest.invariant.same
