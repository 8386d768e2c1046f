use Rattle.std.proofs.Common.{◌∙◌, ap, lit<}
use Rattle.std.proofs.lemmas.Str.Pattern.{split_once_first}
use Rattle.pattern.specs.Parts.{parts}
use Rattle.pattern.proofs.FirstSegment.{one_segment, more_segments}
use Rattle.pattern.proofs.walk.split_segment.Goals as goal

pub returns-in-Some : goal.returns-in-Some
returns-in-Some c =
    let told = split_once_first 47 c.in_ok-text.text.now c.split_once.result c.split_once.ensures.cases (lit< tt) in
    let at = rw c.in-Some.is at told in
    ap parts c.in_ok-text.was ∙ more_segments c.in_ok-text.text.now c.in-Some.first.now c.in-Some.rest.now at.0 at.1 at.2

pub returns-in-None : goal.returns-in-None
returns-in-None c =
    let told = split_once_first 47 c.in_ok-text.text.now c.split_once.result c.split_once.ensures.cases (lit< tt) in
    let at = rw c.in-None.is at told in
    ap parts c.in_ok-text.was ∙ one_segment c.in_ok-text.text.now at
