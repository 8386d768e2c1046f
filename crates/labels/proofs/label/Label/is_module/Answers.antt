use Rattle.std.proofs.Common.{◌∙◌, ap, eqb}
use Rattle.std.specs.Prelude.{codes}
use Rattle.std.specs.List.{ends_with}
use Rattle.std.proofs.lemmas.Str.Pattern.{ends_text}
use Rattle.labels.specs.Labels.{is_module}
use Rattle.labels.proofs.label.Label.is_module.Goals as goal

pub returns : goal.returns
returns c =
    ends_text c.ends_with.result (codes ".bzl") c.as_str.result.now c.ends_with.ensures.cases
    ∙ ap (λ name. ends_with eqb name (codes ".bzl")) c.as_str.ensures ∙ ap is_module c.self.view_is
