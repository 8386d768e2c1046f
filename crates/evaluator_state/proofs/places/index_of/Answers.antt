use Rattle.std.proofs.Common.{◌≡◌, ◌+◌, ◌++◌, ◌∷◌, [], false, take, sym, ap, ◌∙◌}
use Rattle.std.specs.Prelude.{nat_eq}
use Rattle.std.specs.List.{list_any}
use Rattle.std.specs.Cmp.Lexicographic.{pointwise}
use Rattle.std.proofs.lemmas.Bool.{not-true}
use Rattle.indexmap.specs.IndexSet.{insert_key}
use Rattle.evaluator_semantics.specs.Names.{has_name}
use Rattle.evaluator_state.specs.declared.state.Slot.{Slot}
use Rattle.evaluator_state.specs.Once.{names_in, differ}
use Rattle.evaluator_state.proofs.Distinct.{differ_more, names_next, not_listed, added}
use Rattle.evaluator_state.proofs.places.index_of.Goals as goal

pub loop-slot-preserved : goal.loop-slot-preserved
loop-slot-preserved c =
    let slots = c.args.slots.now in
    let i = c.loop-slot.slot-index in
    let s = c.slot-item.result in
    let keys = c.loop-slot.index.keys in
    let names = names_in (take i slots) in
    let absent : list_any (pointwise nat_eq s.name) keys ≡ false =
    sym (ap (λ y. list_any (pointwise nat_eq y) keys) c.in_ok-share.ensures) ∙ not-true (list_any (pointwise nat_eq c.in_ok-share.field-0) keys) (sym c.in_ok-is_new.ensures.added ∙ c.if-not-is_new.false) in
    let more : names_in (take (i + 1) slots) ≡ names ++ s.name ∷ [] = names_next slots i s c.loop-slot-test.true ∙ ap (λ (t : Slot). names ++ t.name ∷ []) (sym c.slot-item.is) in
    let same = c.loop-slot.invariant.0 in (
      c.in_ok-is_new.ensures.keys ∙ ap (λ y. insert_key (pointwise nat_eq) keys y) c.in_ok-share.ensures ∙ added s.name keys absent ∙ ap (λ l. l ++ s.name ∷ []) same ∙ sym more,
      ap differ more ∙ differ_more names s.name c.loop-slot.invariant.1 (ap (λ l. has_name s.name l) (sym same) ∙ not_listed s.name keys absent),
    )
