use Rattle.std.proofs.Common.{refl, sym, ap}
use Rattle.std.specs.Option.{is_some}
use Rattle.node.specs.declared.records.NodeRecord.{NodeRecord}
use Rattle.node.proofs.Joining.{unlinked_through}
use Rattle.node.proofs.Showing.{through_same}
use Rattle.node.proofs.edges.unlink.Goals as goal

pub returns-in-Some-clause-users : goal.returns-in-Some-clause-users
returns-in-Some-clause-users c =
    let e = c.in-Some.kept.now in
    let w : NodeRecord = record e { users = c.remove.new.self } in
    let holds = c.get_mut.follows.holds w in
    unlinked_through c.args.records.now (c.get_mut.follows.lender w) c.args.member.now c.args.user e w (holds.1 (ap is_some (sym c.in-Some.ensures.value))) c.in-Some.ensures.value c.remove.ensures

pub returns-in-Some-clause-same : goal.returns-in-Some-clause-same
returns-in-Some-clause-same c =
    let e = c.in-Some.kept.now in
    let w : NodeRecord = record e { users = c.remove.new.self } in
    let holds = c.get_mut.follows.holds w in
    through_same c.args.records.now (c.get_mut.follows.lender w) c.args.member.now e w holds.0 c.in-Some.ensures.value refl
