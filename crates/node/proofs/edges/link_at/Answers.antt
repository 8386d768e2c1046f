use Rattle.std.proofs.Common.{◌∙◌, refl, sym}
use Rattle.indexmap.specs.IndexMap.{set_value_at}
use Rattle.node_table.proofs.Numbers.{value_by_number, written}
use Rattle.node.specs.declared.records.NodeRecord.{NodeRecord}
use Rattle.node.proofs.Joining.{linked_through, same_through}
use Rattle.node.proofs.Lists.{on_err}
use Rattle.node.proofs.Showing.{rows_set_at}
use Rattle.node.proofs.edges.link_at.Goals as goal

pub returns-in_err-push-clause-err : goal.returns-in_err-push-clause-err
returns-in_err-push-clause-err c = λ k h.
    let es = c.args.records.now in
    let e = c.value_mut.result.now in
    let w : NodeRecord = record e { users = c.push.new.self } in
    on_err c.from_residual.result
    (same_through es (set_value_at es c.args.member w) k c.args.user e w (written es c.args.member k w c.requires.distinct h)
    (sym c.value_mut.ensures.value ∙ sym (value_by_number es c.requires.distinct k c.args.member h)) c.in_err-push.ensures.err)

pub returns-in_err-push-clause-same : goal.returns-in_err-push-clause-same
returns-in_err-push-clause-same c =
    let e = c.value_mut.result.now in
    let w : NodeRecord = record e { users = c.push.new.self } in
    rows_set_at c.args.records.now c.args.member e w c.value_mut.ensures.value refl

pub returns-clause-ok : goal.returns-clause-ok
returns-clause-ok c = λ k h.
    let es = c.args.records.now in
    let e = c.value_mut.result.now in
    let w : NodeRecord = record e { users = c.push.new.self } in
    linked_through es (set_value_at es c.args.member w) k c.args.user e w (written es c.args.member k w c.requires.distinct h)
    (sym c.value_mut.ensures.value ∙ sym (value_by_number es c.requires.distinct k c.args.member h)) c.in_ok-push.ensures.ok

pub returns-clause-same : goal.returns-clause-same
returns-clause-same c =
    let e = c.value_mut.result.now in
    let w : NodeRecord = record e { users = c.push.new.self } in
    rows_set_at c.args.records.now c.args.member e w c.value_mut.ensures.value refl
