use Rattle.std.proofs.Common.{inl, inr, sym, subst}
use Rattle.engine_semantics.specs.Value.{In}
use Rattle.node.proofs.Joining.{group_member, member_taken, member_all}
use Rattle.node.proofs.edges.members_of.Goals as goal

pub loop-group-init : goal.loop-group-init
loop-group-init c = record { from = λ k i. elim (subst (In k) c.new-set.ensures.empty i) [ ]; has = λ k m. elim m.1 [ ] }

pub loop-group-preserved : goal.loop-group-preserved
loop-group-preserved c =
    let a = c.in_ok-add_members.ensures in
    let v = c.loop-group.invariant in record {
      from = λ k i. elim (a.from k i) [
        | inl x ↦ v.from k x
        | inr x ↦ group_member c.args.groups.now c.loop-group.group-index c.group-item.result k c.group-item.is c.loop-group-test.true (subst (In k) c.as_slice.ensures.value x)
      ];
      has = λ k m. elim (member_taken c.args.groups.now c.loop-group.group-index c.group-item.result k c.group-item.is c.loop-group-test.true m) [
        | inl x ↦ a.keeps k (v.has k x)
        | inr x ↦ a.has k (subst (In k) (sym c.as_slice.ensures.value) x)
      ];
    }

pub returns : goal.returns
returns c = λ j. (c.loop-group.invariant.from j, λ m. c.loop-group.invariant.has j (member_all c.args.groups.now c.loop-group.group-index j c.loop-group-test.false m))
