use Rattle.std.proofs.Common.{◌∙◌, ◌<◌, ◌++◌, ◌∷◌, [], false, sym, ap, subst, length, take}
use Rattle.std.specs.List.{IsDistinct}
use Rattle.keys.specs.Keys.{key_eq}
use Rattle.node_table.specs.Tables.{AreDistinct}
use Rattle.node_table.specs.Flats.{members_in}
use Rattle.node.specs.Marks.{SetsMarks}
use Rattle.node.proofs.Collecting.{one_set}
use Rattle.node.proofs.Numbering.{one_more, key_there, key_same, has_value, members_pushed, same_length, within_at}
use Rattle.node.proofs.marks.clear_all_dirty.Goals as goal

pub loop-number-preserved : goal.loop-number-preserved
loop-number-preserved c =
    let i = c.loop-number.invariant in
    let start = c.args.records.now in
    let middle = c.loop-number.records in
    let new = c.set_at.new.records in
    let ns = c.args.numbers.now in
    let n = c.number-item.result in
    let at = c.loop-number.number-index in
    let low : n < length start = within_at start ns at n c.requires.within c.number-item.is c.loop-number-test.true in
    let k = key_there start n low in
    let there = key_same start middle i.keys n ∙ k.1 in
    let distinct : AreDistinct middle = subst (λ ks. IsDistinct key_eq ks) (sym i.keys) c.requires.distinct in
    let set = one_set false start middle new (members_in start (take at ns)) k.0 i.sets (λ e h. c.set_at.ensures.updates k.0 e there h)
    (λ h. absurd (has_value middle distinct n k.0 (subst (λ l. n < l) (sym (same_length start middle i.keys)) low) there h)) in
    record {
      sets = subst (SetsMarks false start new) (sym (ap (members_in start) (one_more ns at n c.loop-number-test.true ∙ ap (λ x. take at ns ++ x ∷ []) (sym c.number-item.is)) ∙ members_pushed start (take at ns) n k.0 k.1)) set;
      keys = c.set_at.ensures.keys ∙ i.keys;
    }
