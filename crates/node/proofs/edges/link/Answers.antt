use Rattle.std.proofs.Common.{refl, sym, ap}
use Rattle.std.specs.Option.{is_some}
use Rattle.node.specs.declared.records.NodeRecord.{NodeRecord}
use Rattle.node.proofs.Lists.{on_err}
use Rattle.node.proofs.Joining.{linked_through, same_through}
use Rattle.node.proofs.Showing.{through_same}
use Rattle.node.proofs.edges.link.Goals as goal

pub returns-in_err-push-clause-err : goal.returns-in_err-push-clause-err
returns-in_err-push-clause-err c =
    let e = c.in-Some.kept.now in
    let w : NodeRecord = record e { users = c.push.new.self } in
    let holds = c.get_mut.follows.holds w in
    on_err c.from_residual.result
    (same_through c.args.records.now (c.get_mut.follows.lender w) c.args.member.now c.args.user e w (holds.1 (ap is_some (sym c.in-Some.ensures.value))) c.in-Some.ensures.value c.in_err-push.ensures.err)

pub returns-in_err-push-clause-same : goal.returns-in_err-push-clause-same
returns-in_err-push-clause-same c =
    let e = c.in-Some.kept.now in
    let w : NodeRecord = record e { users = c.push.new.self } in
    let holds = c.get_mut.follows.holds w in
    through_same c.args.records.now (c.get_mut.follows.lender w) c.args.member.now e w holds.0 c.in-Some.ensures.value refl

pub returns-in_ok-push-clause-ok : goal.returns-in_ok-push-clause-ok
returns-in_ok-push-clause-ok c =
    let e = c.in-Some.kept.now in
    let w : NodeRecord = record e { users = c.push.new.self } in
    let holds = c.get_mut.follows.holds w in
    linked_through c.args.records.now (c.get_mut.follows.lender w) c.args.member.now c.args.user e w (holds.1 (ap is_some (sym c.in-Some.ensures.value))) c.in-Some.ensures.value c.in_ok-push.ensures.ok

pub returns-in_ok-push-clause-same : goal.returns-in_ok-push-clause-same
returns-in_ok-push-clause-same c =
    let e = c.in-Some.kept.now in
    let w : NodeRecord = record e { users = c.push.new.self } in
    let holds = c.get_mut.follows.holds w in
    through_same c.args.records.now (c.get_mut.follows.lender w) c.args.member.now e w holds.0 c.in-Some.ensures.value refl
