use Rattle.std.proofs.Common.{sym, inl}
use Rattle.keys.specs.Leaves as leaves
use Rattle.node.specs.Graphs.{record_at}
use Rattle.round.proofs.Wanting.{check_begins, check_true, run_begins, run_true, some_there, none_there}
use Rattle.round.proofs.visiting.open_inner.Goals as goal

pub returns-in_ok-begin_check-clause-wants : goal.returns-in_ok-begin_check-clause-wants
returns-in_ok-begin_check-clause-wants c = let r = some_there (record_at c.args.graph.now c.args.key.now) (sym c.if-has_record.ensures) in
    check_begins c.args.graph.now c.args.table.now c.begin_check.new.table c.args.key.now c.requires.closed c.requires.unsettled c.in_ok-begin_check.ensures.entered c.in_ok-begin_check.ensures.pends r.0 r.1

pub returns-in_ok-begin_check-clause-wanted : goal.returns-in_ok-begin_check-clause-wanted
returns-in_ok-begin_check-clause-wanted c = let e = c.in_ok-begin_check.ensures.entered in inl (e.0, e.1.1)

pub returns-in_ok-begin_check-clause-truth : goal.returns-in_ok-begin_check-clause-truth
returns-in_ok-begin_check-clause-truth c = λ files no_leaf. let r = some_there (record_at c.args.graph.now c.args.key.now) (sym c.if-has_record.ensures) in
    check_true c.args.graph.now c.args.table.now c.begin_check.new.table c.args.key.now c.requires.closed c.requires.unsettled c.in_ok-begin_check.ensures.entered c.in_ok-begin_check.ensures.pends r.0 r.1 (leaves.read files) no_leaf

pub returns-in_ok-begin_run-clause-wants : goal.returns-in_ok-begin_run-clause-wants
returns-in_ok-begin_run-clause-wants c =
    run_begins c.args.graph.now c.args.table.now c.begin_run.new.table c.args.key.now c.requires.closed c.requires.unsettled c.in_ok-begin_run.ensures.entered c.in_ok-begin_run.ensures.readies
    (none_there (record_at c.args.graph.now c.args.key.now) (sym c.if-has_record.ensures))

pub returns-in_ok-begin_run-clause-wanted : goal.returns-in_ok-begin_run-clause-wanted
returns-in_ok-begin_run-clause-wanted c = let e = c.in_ok-begin_run.ensures.entered in inl (e.0, e.1.1)

pub returns-in_ok-begin_run-clause-truth : goal.returns-in_ok-begin_run-clause-truth
returns-in_ok-begin_run-clause-truth c = λ files no_leaf.
    run_true c.args.graph.now c.args.table.now c.begin_run.new.table c.args.key.now c.requires.closed c.requires.unsettled c.in_ok-begin_run.ensures.entered c.in_ok-begin_run.ensures.readies
    (none_there (record_at c.args.graph.now c.args.key.now) (sym c.if-has_record.ensures)) (leaves.read files) no_leaf
