use Rattle.std.proofs.Common.{List, [], ◌∷◌, ℕ, take, refl, inl, inr, sym, subst, ◌∙◌}
use Rattle.std.proofs.Math.Seq.{take_all}
use Rattle.engine_semantics.specs.Value.{In, first}
use Rattle.node_table.specs.Flats.{members_in}
use Rattle.node.proofs.Lists.{in_left, in_right, in_split, in_one}
use Rattle.node.proofs.Numbering.{taken_members}
use Rattle.node.proofs.edges.members_with.Goals as goal

pub loop-number-init : goal.loop-number-init
loop-number-init c = record { from = λ k i. elim (subst (In k) c.new-set.ensures.empty i) [ ]; has = λ k m. elim m [ ] }

pub loop-number-preserved : goal.loop-number-preserved
loop-number-preserved c =
    let a = c.in_ok-add.ensures.ok in
    let v = c.loop-number.invariant in
    let records = c.args.records.now in
    let at = c.loop-number.number-index in
    let key = c.key_at.result.now in
    let before = members_in records (take at c.args.numbers.now) in
    let more = taken_members records c.args.numbers.now at c.number-item.result key c.number-item.is c.loop-number-test.true c.key_at.ensures in
    record {
      from = λ k i. elim (a.from k i) [
        | inl x ↦ subst (In k) (sym more) (in_left (key ∷ []) (v.from k x))
        | inr q ↦ subst (In k) (sym more) (in_right before (subst (λ y. In y (key ∷ [])) (sym c.in_ok-share.ensures ∙ q) first))
      ];
      has = λ k i. elim (in_split (subst (In k) more i) before (key ∷ []) refl) [
        | inl x ↦ a.keeps k (v.has k x)
        | inr b ↦ subst (λ y. In y c.add.new.set.keys) (c.in_ok-share.ensures ∙ sym (in_one b)) a.has
      ];
    }

pub returns : goal.returns
returns c = λ j.
    let v = c.loop-number.invariant in
    let all = take_all c.loop-number.number-index c.args.numbers.now c.loop-number-test.false in (
      λ i. subst (λ (ns : List ℕ). In j (members_in c.args.records.now ns)) all (v.from j i),
      λ i. v.has j (subst (λ (ns : List ℕ). In j (members_in c.args.records.now ns)) (sym all) i),
    )
