use Rattle.std.proofs.Common.{◌∙◌, refl, sym}
use Rattle.indexmap.specs.IndexMap.{set_value_at}
use Rattle.node_table.proofs.Numbers.{value_by_number, written}
use Rattle.node.specs.declared.records.NodeRecord.{NodeRecord}
use Rattle.node.proofs.Joining.{unlinked_through}
use Rattle.node.proofs.Showing.{rows_set_at}
use Rattle.node.proofs.edges.unlink_at.Goals as goal

pub returns-clause-users : goal.returns-clause-users
returns-clause-users c = λ k h.
    let es = c.args.records.now in
    let e = c.value_mut.result.now in
    let w : NodeRecord = record e { users = c.remove.new.self } in
    unlinked_through es (set_value_at es c.args.member w) k c.args.user e w (written es c.args.member k w c.requires.distinct h)
    (sym c.value_mut.ensures.value ∙ sym (value_by_number es c.requires.distinct k c.args.member h)) c.remove.ensures

pub returns-clause-same : goal.returns-clause-same
returns-clause-same c =
    let e = c.value_mut.result.now in
    let w : NodeRecord = record e { users = c.remove.new.self } in
    rows_set_at c.args.records.now c.args.member e w c.value_mut.ensures.value refl
