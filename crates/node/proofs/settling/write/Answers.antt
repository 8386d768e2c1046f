use Rattle.std.proofs.Common.{◌≡◌, ◌∙◌, ap, cond, false, sym, subst}
use Rattle.indexmap.specs.IndexMap.{set_value_at}
use Rattle.std.specs.Arc.{arc_value}
use Rattle.keys.specs.Values.{value_eq}
use Rattle.node_table.specs.Tables.{Writes}
use Rattle.node_table.proofs.Numbers.{value_by_number, written as written_at_number}
use Rattle.node.specs.declared.records.NodeRecord.{NodeRecord}
use Rattle.node.specs.Writes.{record_after_write}
use Rattle.node.proofs.Lists.{some_is}
use Rattle.node.proofs.settling.write.Goals as goal

pub returns-clause-updates : goal.returns-clause-updates
returns-clause-updates c = λ k e h s.
    let es = c.args.records.now in
    let n = c.args.number in
    let own = c.value_mut-kept.result.now in
    let is : own ≡ e = some_is (sym c.value_mut-kept.ensures.value ∙ sym (value_by_number es c.requires.distinct k n h) ∙ s) in
    let w : NodeRecord = record { value = c.args.value; groups = c.replace.new.dest; users = own.users; settled_at = c.args.version; changed_at = c.changed_at-kept.result; dirty = false } in
    let changed = c.changed_at-kept.ensures ∙ ap (λ v. cond (value_eq (arc_value own.value) v) own.changed_at c.args.version) c.deref.ensures in
    let now : w ≡ record_after_write own c.args.value c.args.groups c.args.version =
    λ i. record { value = c.args.value; groups = c.replace.ensures.after i; users = own.users; settled_at = c.args.version; changed_at = changed i; dirty = false } in
    subst (λ (x : NodeRecord). Writes es (set_value_at es n w) k x) (now ∙ ap (λ (x : NodeRecord). record_after_write x c.args.value c.args.groups c.args.version) is) (written_at_number es n k w c.requires.distinct h)

pub returns-clause-groups : goal.returns-clause-groups
returns-clause-groups c = λ k e h s.
    let es = c.args.records.now in
    let is = some_is (sym c.value_mut-kept.ensures.value ∙ sym (value_by_number es c.requires.distinct k c.args.number h) ∙ s) in
    c.replace.ensures.value ∙ ap (λ (x : NodeRecord). x.groups) is
