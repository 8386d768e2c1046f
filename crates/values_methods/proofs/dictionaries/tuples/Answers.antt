use Rattle.std.proofs.Common.{◌∙◌, ◌++◌, ◌∷◌, [], ◌+◌, ℕ, ap, sym, suc, drop}
use Rattle.std.proofs.Math.Seq.{drop-cons}
use Rattle.std.proofs.Math.Numerals.{add-one}
use Rattle.std.proofs.lemmas.List.{drop_all}
use Rattle.values_heap.specs.View.{store_of}
use Rattle.values_methods.specs.Cases.{entry_tuples}
use Rattle.values_methods.proofs.Turns.{behind, made, ended}
use Rattle.values_methods.proofs.dictionaries.tuples.Goals as goal

pub loop-pair-preserved : goal.loop-pair-preserved
loop-pair-preserved c =
    let l = c.loop-pair in
    let pairs = c.args.pairs.now in
    let rest = λ (n : ℕ). entry_tuples (drop n pairs) in
    let here = ap (λ ps. behind l.all.items (entry_tuples ps (store_of l.heap))) (sym (drop-cons pairs l.pair-index _ c.loop-pair-test.true)) ∙ l.invariant in
    ap (λ xs. behind xs (rest (l.pair-index + 1) (store_of c.tuple.new.heap))) c.in_ok-push-in-Ok.ensures.items
    ∙ (ap (λ n. behind (l.all.items ++ c.in-Ok.made ∷ []) (rest n (store_of c.tuple.new.heap))) (add-one l.pair-index)
    ∙ made l.all.items _ (rest (suc l.pair-index)) c.in-Ok.made (store_of c.tuple.new.heap) _ here c.in-Ok.ensures)

pub returns : goal.returns
returns c =
    let l = c.loop-pair in
    ended l.all.items (store_of l.heap) _ (ap (λ ps. behind l.all.items (entry_tuples ps (store_of l.heap))) (sym (drop_all l.pair-index c.args.pairs.now c.loop-pair-test.false)) ∙ l.invariant)
