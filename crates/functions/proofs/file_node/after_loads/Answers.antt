use Rattle.std.proofs.Common.{◌≡◌, ◌-◌, Ok, length, take, drop, ◌∙◌, ap, sym}
use Rattle.std.specs.Arc.{arc_value}
use Rattle.syntax_tree.specs.Statements.{file_of}
use Rattle.keys.specs.Turns.{values}
use Rattle.functions.specs.Once.{once}
use Rattle.functions.specs.Sources.{all_modules, after_modules, after_loads}
use Rattle.functions.proofs.FileTurns.{after_loads_on}
use Rattle.functions.proofs.Further.{carried_on}
use Rattle.functions.proofs.file_node.after_loads.Goals as goal

pub returns-in-Ok : goal.returns-in-Ok
returns-in-Ok c =
    let source = c.args.parsed.source in
    let file = file_of (arc_value c.args.parsed.file) in
    let keys = c.args.parsed.keys.items in
    let group = c.in_ok-group.group.items in
    let answers = c.args.answers.now in
    let n = length c.as_slice-count.result.now in
    let found : all_modules source.path group keys (values answers) ≡ Ok c.in-Ok.loads.items =
    (λ i. all_modules source.path (sym c.as_slice-2.ensures.value i) (sym c.as_slice-3.ensures.value i) (values answers)) ∙ (rw c.in-Ok.is at c.in_ok-loads.ensures) in
    let asked : group ≡ once keys = c.in_ok-group.ensures ∙ ap once c.as_slice.ensures.value in
    let on = after_loads_on source file keys group answers c.in-Ok.loads.items n asked (ap length c.as_slice-count.ensures.value) c.if-answers-count.false found in
    carried_on (after_loads source file (Ok keys)) (values answers) (after_modules source file (Ok c.in-Ok.loads.items)) (values (take (length answers - n) (drop n answers))) on c.evaluate_file.result c.evaluate_file.ensures
