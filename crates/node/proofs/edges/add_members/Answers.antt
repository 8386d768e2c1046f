use Rattle.std.proofs.Common.{◌∙◌, inl, inr, sym, subst}
use Rattle.engine_semantics.specs.Value.{In}
use Rattle.node.proofs.Joining.{is_in, in_taken, in_all}
use Rattle.node.proofs.edges.add_members.Goals as goal

pub loop-member-init : goal.loop-member-init
loop-member-init c = record { from = λ k i. inl i; keeps = λ k i. i; has = λ k i. elim i [ ] }

pub loop-member-preserved : goal.loop-member-preserved
loop-member-preserved c =
    let a = c.in_ok-add.ensures.ok in
    let v = c.loop-member.invariant in record {
      from = λ k i. elim (a.from k i) [ inl x ↦ v.from k x | inr q ↦ inr (subst (λ y. In y c.args.group.now) (sym c.in_ok-share.ensures ∙ q) (is_in c.args.group.now c.loop-member.member-index _ c.member-item.is c.loop-member-test.true)) ];
      keeps = λ k i. a.keeps k (v.keeps k i);
      has = λ k i. elim (in_taken c.args.group.now c.loop-member.member-index c.member-item.result k c.member-item.is c.loop-member-test.true i) [
        | inl x ↦ a.keeps k (v.has k x)
        | inr q ↦ subst (λ y. In y c.add.new.set.keys) (c.in_ok-share.ensures ∙ q) a.has
      ];
    }

pub returns : goal.returns
returns c = let v = c.loop-member.invariant in record { from = v.from; keeps = v.keeps; has = λ k i. v.has k (in_all c.args.group.now c.loop-member.member-index k c.loop-member-test.false i) }
