use Rattle.std.proofs.Common.{◌∙◌, sym, subst}
use Rattle.std.specs.Option.{IsSome}
use Rattle.node.specs.Records.{numbers_of}
use Rattle.node.proofs.Joining.{linked_more, is_in, one_linked_more, one_linked_same}
use Rattle.node.proofs.Showing.{keeps_seen}
use Rattle.node.proofs.edges.link_group.Goals as goal
use Rattle.node.proofs.edges.link_group.Goals.{then-not-has+in_ok-link, else-not-has}

pub link-requires : goal.link-requires
link-requires c =
    let own = c.requires.members c.member-item.result (is_in c.args.group.now c.loop-member.member-index _ c.member-item.is c.loop-member-test.true) in
    subst IsSome (sym (λ i. keeps_seen c.args.records.now c.loop-member.records c.loop-member.invariant.same i c.member-item.result)) own

pub loop-member-preserved : goal.loop-member-preserved
loop-member-preserved c = elim c.if-not-has.branch [
  | then-not-has+in_ok-link w ↦ rw w.records-is (record {
    some = linked_more (numbers_of c.args.records.now) (numbers_of c.loop-member.records) (numbers_of w.link.new.records) c.args.user _ c.member-item.result c.loop-member.invariant.some w.in_ok-link.ensures.ok (is_in c.args.group.now c.loop-member.member-index _ c.member-item.is c.loop-member-test.true);
    all = one_linked_more (numbers_of c.loop-member.records) (numbers_of w.link.new.records) c.args.user c.args.group.now c.loop-member.member-index c.member-item.result c.member-item.is c.loop-member-test.true w.in_ok-link.ensures.ok c.loop-member.invariant.all;
    same = w.link.ensures.same ∙ c.loop-member.invariant.same;
  })
  | else-not-has w ↦ rw w.records-is (record {
    some = c.loop-member.invariant.some;
    all = one_linked_same (numbers_of c.loop-member.records) c.args.user c.args.group.now c.loop-member.member-index c.member-item.result c.member-item.is c.loop-member-test.true
        (c.loop-member.invariant.some.keeps c.member-item.result c.args.user (c.requires.linked c.member-item.result (c.has.ensures.0 w.if-not-has.false))) c.loop-member.invariant.all;
    same = c.loop-member.invariant.same;
  })
]
