use Rattle.std.proofs.Common.{◌≡◌, ◌∙◌, refl, sym, ap, inl, inr, ◌++◌, ◌∷◌, [], Bool, true, arith, if◌then◌else◌}
use Rattle.node_table.specs.Flats.{members_in}
use Rattle.node_table.proofs.Numbers.{value_by_number}
use Rattle.node.specs.Records.{cost}
use Rattle.node.specs.declared.records.NodeRecord.{NodeRecord}
use Rattle.node.proofs.Lists.{some_is}
use Rattle.node.proofs.Numbering.{members_same, members_pushed, key_there}
use Rattle.node.proofs.marks.dirty_if_clean.Goals as goal

pub returns-then-value_at-clause-ok : goal.returns-then-value_at-clause-ok
returns-then-value_at-clause-ok c = λ k at.
    let had = value_by_number c.args.records.now c.requires.distinct k c.args.number at ∙ c.value_at.ensures in
    inl (refl, refl, λ e h. ap (λ (y : NodeRecord). y.dirty) (some_is (sym h ∙ had)) ∙ c.if-value_at.true)

pub returns-clause-ok : goal.returns-clause-ok
returns-clause-ok c = λ k at.
    let records = c.args.records.now in
    let had = value_by_number records c.requires.distinct k c.args.number at ∙ c.value_at.ensures in
    inr (
      c.value_at.result.now,
      had,
      c.if-value_at.false,
      c.set_at.ensures.updates k c.value_at.result.now at had,
      c.set_at.ensures.keys,
      ap (members_in c.set_at.new.records) c.in_ok-push.ensures.items ∙ members_same records c.set_at.new.records c.set_at.ensures.keys (c.args.marked.now.items ++ c.args.number ∷ [])
          ∙ members_pushed records c.args.marked.now.items c.args.number k at,
    )

pub returns-clause-work : goal.returns-clause-work
returns-clause-work c =
    let records = c.args.records.now in
    let e = c.value_at.result.now in
    let k = key_there records c.args.number c.requires.within in
    let work = c.set_at.ensures.work k.0 e k.1 (value_by_number records c.requires.distinct k.0 c.args.number k.1 ∙ c.value_at.ensures) in
    let one : cost e ≡ 1 = ap (λ (b : Bool). if b then 0 else 1) c.if-value_at.false in
    let none : cost (record e { dirty = true }) ≡ 0 = refl in
    omega (arith, work, one, none, c.in_ok-push.ensures.len)
