use Rattle.std.proofs.Common.{◌∙◌, sym, subst}
use Rattle.engine_semantics.specs.Value.{In}
use Rattle.std.specs.Option.{IsSome}
use Rattle.node.specs.Records.{numbers_of}
use Rattle.node.proofs.Joining.{group_all, group_some, group_member}
use Rattle.node.proofs.Showing.{keeps_seen}
use Rattle.node.proofs.edges.link_groups.Goals as goal

pub returns-in_err-link_group-clause-some : goal.returns-in_err-link_group-clause-some
returns-in_err-link_group-clause-some c =
    group_some (numbers_of c.args.records.now) (numbers_of c.loop-group.records) (numbers_of c.link_group.new.records) c.args.user c.args.groups.now c.loop-group.group-index c.group-item.result c.group-item.is c.loop-group-test.true c.loop-group.invariant.some c.as_slice.result.now c.as_slice.ensures.value c.link_group.ensures.some

pub loop-group-preserved : goal.loop-group-preserved
loop-group-preserved c = record {
  some = group_some (numbers_of c.args.records.now) (numbers_of c.loop-group.records) (numbers_of c.link_group.new.records) c.args.user c.args.groups.now c.loop-group.group-index c.group-item.result c.group-item.is c.loop-group-test.true c.loop-group.invariant.some c.as_slice.result.now c.as_slice.ensures.value c.link_group.ensures.some;
  all = group_all (numbers_of c.loop-group.records) (numbers_of c.link_group.new.records) c.args.user c.args.groups.now c.loop-group.group-index c.group-item.result c.group-item.is c.loop-group-test.true c.as_slice.result.now c.as_slice.ensures.value c.link_group.ensures.some c.in_ok-link_group.ensures.all c.loop-group.invariant.all;
  same = c.link_group.ensures.same ∙ c.loop-group.invariant.same;
}

pub returns-in_err-link_group-clause-same : goal.returns-in_err-link_group-clause-same
returns-in_err-link_group-clause-same c = c.link_group.ensures.same ∙ c.loop-group.invariant.same

pub link_group-requires-clause-linked : goal.link_group-requires-clause-linked
link_group-requires-clause-linked c = λ j i. c.loop-group.invariant.some.keeps j c.args.user (c.requires.linked j i)

pub link_group-requires-clause-members : goal.link_group-requires-clause-members
link_group-requires-clause-members c = λ j i.
    let own = c.requires.members j (group_member c.args.groups.now c.loop-group.group-index c.group-item.result j c.group-item.is c.loop-group-test.true (subst (In j) c.as_slice.ensures.value i)) in
    subst IsSome (sym (λ x. keeps_seen c.args.records.now c.loop-group.records c.loop-group.invariant.same x j)) own
