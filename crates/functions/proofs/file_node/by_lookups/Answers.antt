use Rattle.std.proofs.Common.{length, ◌-◌, take, drop, ap}
use Rattle.keys.specs.Turns.{values}
use Rattle.functions.specs.Modules.{by_lookups, after_lookups}
use Rattle.functions.proofs.FileTurns.{lookups_on}
use Rattle.functions.proofs.Further.{carried_on}
use Rattle.functions.proofs.file_node.by_lookups.Goals as goal

pub returns : goal.returns
returns c =
    let label = c.args.label.now in
    let answers = c.args.answers.now in
    let n = length c.as_slice-count.result.now in
    let on = lookups_on label c.in_ok-group.group.items answers n c.in_ok-group.ensures (ap length c.as_slice-count.ensures.value) c.if-answers-count.false in
    carried_on (by_lookups label) (values answers) (after_lookups label (values (take n answers))) (values (take (length answers - n) (drop n answers))) on c.after_lookups.result c.after_lookups.ensures
