use Rattle.std.proofs.Common.{◌∙◌, ◌++◌, ◌∷◌, [], ◌+◌, ℕ, ap, sym, suc, drop}
use Rattle.std.proofs.Math.Seq.{drop-cons}
use Rattle.std.proofs.Math.Numerals.{add-one}
use Rattle.std.proofs.lemmas.List.{drop_all}
use Rattle.values_heap.specs.View.{store_of}
use Rattle.values_semantics.specs.Methods.{makes_texts}
use Rattle.values_methods.specs.Texts.{shown}
use Rattle.values_methods.proofs.Turns.{behind, made, ended}
use Rattle.values_methods.proofs.strings.make_copies.Goals as goal

pub loop-part-preserved : goal.loop-part-preserved
loop-part-preserved c =
    let l = c.loop-part in
    let parts = c.args.parts.now in
    let rest = λ (n : ℕ). makes_texts (shown (drop n parts)) in
    let here = ap (λ ps. behind l.all.items (makes_texts (shown ps) (store_of l.heap))) (sym (drop-cons parts l.part-index _ c.loop-part-test.true)) ∙ l.invariant in
    ap (λ xs. behind xs (rest (l.part-index + 1) (store_of c.make_copy.new.heap))) c.in_ok-push-in-Ok.ensures.items
    ∙ (ap (λ n. behind (l.all.items ++ c.in-Ok.made ∷ []) (rest n (store_of c.make_copy.new.heap))) (add-one l.part-index)
    ∙ made l.all.items _ (rest (suc l.part-index)) c.in-Ok.made (store_of c.make_copy.new.heap) _ here c.in-Ok.ensures)

pub returns : goal.returns
returns c =
    let l = c.loop-part in
    ended l.all.items (store_of l.heap) _ (ap (λ ps. behind l.all.items (makes_texts (shown ps) (store_of l.heap))) (sym (drop_all l.part-index c.args.parts.now c.loop-part-test.false)) ∙ l.invariant)
