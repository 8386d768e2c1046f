use Rattle.std.proofs.Common.{List, ℕ, suc, [], length, drop, sym, ap, ◌∙◌}
use Rattle.std.proofs.Math.Seq.{drop-cons}
use Rattle.values_semantics.specs.Outcome.{ValueOrFault, lift_fault}
use Rattle.values_semantics.specs.Heap.{is_sized}
use Rattle.values_semantics.specs.Methods.{all_bytes}
use Rattle.values_heap.specs.View.{store_of}
use Rattle.values_methods.proofs.Joins.{rest_joined, begun, refused_text}
use Rattle.values_methods.proofs.strings.join_texts.Goals as goal

pub loop-x-init : goal.loop-x-init
loop-x-init c =
    let texts = all_bytes c.args.xs.now (store_of c.args.heap.now) in (
      ap (λ (l : List ℕ). rest_joined l [] c.args.separator.now texts) c.new-all.ensures.items ∙ begun c.args.separator.now texts,
      ap (λ (l : List ℕ). is_sized (length l)) c.new-all.ensures.items,
    )

pub returns-in-Err : goal.returns-in-Err
returns-in-Err c =
    let l = c.loop-x in
    let xs = c.args.xs.now in
    let s = store_of c.args.heap.now in
    let here = ap (λ ys. rest_joined l.all.items l.between.now c.args.separator.now (all_bytes ys s)) (sym (drop-cons xs l.x-index _ c.loop-x-test.true)) ∙ l.invariant.0 in
    refused_text l.all.items l.between.now c.args.separator.now c.in_ok-text.text.now _ (all_bytes (drop (suc l.x-index) xs)) s (all_bytes xs s) c.in-Err.halt _ here (ap (λ (o : ValueOrFault (List ℕ)). lift_fault o s) c.in_ok-text.ensures) c.in-Err.ensures c.in_ok-check_texts.ensures
