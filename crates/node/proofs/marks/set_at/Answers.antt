use Rattle.std.proofs.Common.{◌≡◌, ◌∙◌, ◌+◌, sym, subst}
use Rattle.indexmap.specs.IndexMap.{set_value_at}
use Rattle.node_table.specs.Tables.{Writes}
use Rattle.node_table.proofs.Numbers.{written, keys_written, value_by_number, sum_written}
use Rattle.node.specs.Records.{cleans, cost}
use Rattle.node.specs.declared.records.NodeRecord.{NodeRecord}
use Rattle.node.proofs.Lists.{some_is}
use Rattle.node.proofs.marks.set_at.Goals as goal

pub returns-clause-updates : goal.returns-clause-updates
returns-clause-updates c = λ k e h g.
    let es = c.args.records.now in
    let q : c.value_mut.result.now ≡ e = some_is (sym c.value_mut.ensures.value ∙ sym (value_by_number es c.requires.distinct k c.args.number h) ∙ g) in
    subst (λ (x : NodeRecord). Writes es (set_value_at es c.args.number (record x { dirty = c.args.dirty })) k (record e { dirty = c.args.dirty })) (sym q)
    (written es c.args.number k (record e { dirty = c.args.dirty }) c.requires.distinct h)

pub returns-clause-work : goal.returns-clause-work
returns-clause-work c = λ k e h g.
    let es = c.args.records.now in
    let q : c.value_mut.result.now ≡ e = some_is (sym c.value_mut.ensures.value ∙ sym (value_by_number es c.requires.distinct k c.args.number h) ∙ g) in
    subst (λ (x : NodeRecord). cleans (set_value_at es c.args.number (record x { dirty = c.args.dirty })) + cost e ≡ cleans es + cost (record e { dirty = c.args.dirty })) (sym q)
    (sum_written cost es c.args.number e (record e { dirty = c.args.dirty }) (sym (value_by_number es c.requires.distinct k c.args.number h) ∙ g))

pub returns-clause-keys : goal.returns-clause-keys
returns-clause-keys c = keys_written c.args.records.now c.args.number _
