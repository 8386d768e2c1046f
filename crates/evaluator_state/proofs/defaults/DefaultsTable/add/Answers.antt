use Rattle.std.proofs.Common.{◌≡◌, ◌++◌, ◌∷◌, [], List, false, sym, ap, subst, ◌∙◌}
use Rattle.std.specs.Prelude.{IfSome, IsSomeAnd}
use Rattle.evaluator_semantics.specs.Names.{has_name}
use Rattle.evaluator_state.specs.declared.state.FunctionDefaults.{FunctionDefaults}
use Rattle.evaluator_state.specs.Newest.{Lists}
use Rattle.evaluator_state.proofs.Latest.{lists_more}
use Rattle.evaluator_state.proofs.defaults.DefaultsTable.add.Goals as goal

pub invariant_of-self-2 : goal.invariant_of-self-2
invariant_of-self-2 c =
    let kept = c.self.inside.kept.items in
    let k = c.args.kept in
    let now = c.in_ok-self-inside.field-0 in
    let noted = subst (λ o. IfSome now (λ s. IsSomeAnd o (λ t. (has_name k.function t.keys ≡ false) × (s.keys ≡ t.keys ++ k.function ∷ [])))) c.take-index.ensures.value c.in_ok-self-inside.ensures in
    let all = c.push_reserved.ensures.items ∙ ap (λ (l : List FunctionDefaults). l ++ k ∷ []) c.in_ok-reserve.ensures.items in
    subst (λ (l : List FunctionDefaults). Lists now l) (sym all) (lists_more kept k now c.self.inside.index c.self.invariant noted)
