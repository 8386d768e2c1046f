use Rattle.std.proofs.Common.{◌∙◌, sym, ap, refl, inr, Some}
use Rattle.std.specs.Arc.{arc_value}
use Rattle.keys.specs.Leaves as leaves
use Rattle.round.proofs.Wanting.{read_wants, read_true, read_sets, read_keeps}
use Rattle.round.proofs.visiting.read_leaf_node.Goals as goal

pub returns-clause-wants : goal.returns-clause-wants
returns-clause-wants c = read_wants c.args.graph.now c.record.new.self c.args.table.now c.log_run.new.table c.args.key.now (arc_value c.in_ok-value.value) (record { key = c.args.key.now; version = c.version.result; turns = 0 })
    c.record.ensures.version (read_sets c.args.graph.now c.record.new.self _ c.args.key.now _ _ c.in_ok-share.ensures c.new-2.ensures.items c.in_ok-record.ensures.recorded) c.requires.unsettled c.requires.closed c.in_ok-log_run.ensures refl

pub returns-clause-wanted : goal.returns-clause-wanted
returns-clause-wanted c = inr (_, (read_sets c.args.graph.now c.record.new.self _ c.args.key.now _ _ c.in_ok-share.ensures c.new-2.ensures.items c.in_ok-record.ensures.recorded).there, refl)

pub returns-clause-truth : goal.returns-clause-truth
returns-clause-truth c = λ next laws past cs sought t. read_true c.args.graph.now c.record.new.self c.args.table.now c.log_run.new.table c.args.key.now (arc_value c.in_ok-value.value) (record { key = c.args.key.now; version = c.version.result; turns = 0 })
    c.record.ensures.version (read_sets c.args.graph.now c.record.new.self _ c.args.key.now _ _ c.in_ok-share.ensures c.new-2.ensures.items c.in_ok-record.ensures.recorded) c.requires.unsettled c.requires.closed c.in_ok-log_run.ensures
    next (leaves.read c.args.tree.now) (c.in_ok-read_leaf.ensures ∙ ap (λ v. Some v) (sym c.in_ok-value.ensures.ok)) (read_keeps c.args.graph.now c.record.new.self _ c.args.key.now _ _ c.in_ok-share.ensures c.new-2.ensures.items c.in_ok-record.ensures.lawful)
    refl c.version.ensures refl laws past cs sought t
