use Rattle.std.proofs.Common.{◌≡◌, ◌++◌, ◌∷◌, [], List, false, sym, ap, subst, ◌∙◌}
use Rattle.std.specs.Prelude.{IfSome, IsSomeAnd}
use Rattle.evaluator_semantics.specs.Names.{has_name}
use Rattle.evaluator_state.specs.declared.state.FileNames.{FileNames}
use Rattle.evaluator_state.specs.FileLabels.{HasLabels}
use Rattle.evaluator_state.proofs.Labels.{labels_more}
use Rattle.evaluator_state.proofs.files.Files.add.Goals as goal

pub invariant_of-self-2 : goal.invariant_of-self-2
invariant_of-self-2 c =
    let kept = c.self.inside.kept.items in
    let f = c.args.file in
    let now = c.in_ok-self-inside.field-0 in
    let noted = subst (λ o. IfSome now (λ s. IsSomeAnd o (λ t. (has_name f.label t.keys ≡ false) × (s.keys ≡ t.keys ++ f.label ∷ [])))) c.take-index.ensures.value c.in_ok-self-inside.ensures in
    let all = c.push_reserved.ensures.items ∙ ap (λ (l : List FileNames). l ++ f ∷ []) c.in_ok-reserve.ensures.items in
    subst (λ (l : List FileNames). HasLabels now l) (sym all) (labels_more kept f now c.self.inside.index.labels c.self.invariant noted)
