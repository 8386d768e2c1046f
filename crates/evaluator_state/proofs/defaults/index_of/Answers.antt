use Rattle.std.proofs.Common.{◌≡◌, ◌+◌, ◌++◌, ◌∷◌, [], false, take, sym, ap, ◌∙◌}
use Rattle.std.specs.Prelude.{nat_eq}
use Rattle.std.specs.List.{list_any}
use Rattle.std.specs.Cmp.Lexicographic.{pointwise}
use Rattle.indexmap.specs.IndexSet.{insert_key}
use Rattle.evaluator_semantics.specs.Names.{has_name}
use Rattle.evaluator_state.specs.declared.state.FunctionDefaults.{FunctionDefaults}
use Rattle.evaluator_state.specs.Once.{differ}
use Rattle.evaluator_state.specs.Newest.{kept_names}
use Rattle.evaluator_state.proofs.Distinct.{differ_more, not_listed, added}
use Rattle.evaluator_state.proofs.Latest.{kept_next}
use Rattle.evaluator_state.proofs.defaults.index_of.Goals as goal

pub loop-k-preserved : goal.loop-k-preserved
loop-k-preserved c =
    let kept = c.args.kept.now in
    let i = c.loop-k.k-index in
    let k = c.k-item.result in
    let keys = c.loop-k.names.keys in
    let names = kept_names (take i kept) in
    let absent : list_any (pointwise nat_eq k.function) keys ≡ false = sym c.contains.ensures ∙ c.if-contains.false in
    let more : kept_names (take (i + 1) kept) ≡ names ++ k.function ∷ [] = kept_next kept i k c.loop-k-test.true ∙ ap (λ (j : FunctionDefaults). names ++ j.function ∷ []) (sym c.k-item.is) in
    let same = c.loop-k.invariant.0 in (
      c.in_ok-insert.ensures.keys ∙ ap (λ y. insert_key (pointwise nat_eq) keys y) c.in_ok-share.ensures ∙ added k.function keys absent ∙ ap (λ l. l ++ k.function ∷ []) same ∙ sym more,
      ap differ more ∙ differ_more names k.function c.loop-k.invariant.1 (ap (λ l. has_name k.function l) (sym same) ∙ not_listed k.function keys absent),
    )
