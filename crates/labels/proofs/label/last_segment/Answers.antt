use Rattle.std.proofs.Common.{◌∙◌, sym}
use Rattle.labels.proofs.Cuts.{found_last, only_part, no_slash}
use Rattle.labels.proofs.label.last_segment.Goals as goal

pub returns-in-Some : goal.returns-in-Some
returns-in-Some c =
    let h = c.in-Some.ensures.cases in
    h.4 ∙ sym (found_last c.args.text.now h.0 h.1 h.2)

pub returns-in-None : goal.returns-in-None
returns-in-None c = sym (only_part c.args.text.now (no_slash c.args.text.now c.in-None.ensures.cases))
