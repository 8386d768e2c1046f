use Rattle.std.proofs.Common.{◌∙◌, ap, Some}
use Rattle.labels.specs.Labels.{label_of}
use Rattle.labels.proofs.Segments.{reads_back}
use Rattle.labels.proofs.label.Label.text.Goals as goal

pub returns-clause-reads_back : goal.returns-clause-reads_back
returns-clause-reads_back c = λ present.
    ap (λ text. label_of text present) c.self.invariant.1 ∙ reads_back (record { package_name = c.self.inside.package_name; name = c.self.inside.name }) present c.self.invariant.0 ∙ ap Some c.self.view_is
