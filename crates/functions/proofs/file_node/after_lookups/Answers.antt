use Rattle.std.proofs.Common.{◌∙◌, ap, sym, ◌++◌}
use Rattle.keys.specs.Turns.{values}
use Rattle.functions.specs.Modules.{after_lookups}
use Rattle.functions.specs.Sources.{by_file}
use Rattle.functions.proofs.Further.{carried_on}
use Rattle.functions.proofs.SourceSteps.{after_lookups_is}
use Rattle.functions.proofs.file_node.after_lookups.Goals as goal

pub returns : goal.returns
returns c =
    let label = c.args.label.now in
    let looks = values c.args.looks.now in
    let answers = values c.args.answers.now in
    let source = c.in_ok-source_of.field-0 in
    carried_on (after_lookups label looks) answers (by_file source) answers
    (λ more. after_lookups_is label looks (answers ++ more) (sym c.is_in_package.ensures ∙ c.if-not-is_in_package.false) (sym c.is_crossed.ensures ∙ c.if-is_crossed.false)
    ∙ ap (λ s. by_file s (answers ++ more)) (sym c.in_ok-source_of.ensures))
    c.by_file.result c.by_file.ensures
