use Rattle.std.proofs.Common.{[], ◌∷◌, ◌++◌, ap, ◌∙◌}
use Rattle.values_modules.specs.Values.{several}
use Rattle.values_modules.proofs.TargetTexts.{attribute_added, stay_attributes}
use Rattle.values_modules.proofs.attributes.Attributes.with_several.Goals as goal

pub invariant_of-result : goal.invariant_of-result
invariant_of-result c =
    stay_attributes c.self.inside.block c.in_ok-with.field-0 c.in_ok-with-2.field-0 c.in_ok-block.block (c.args.name.now, several c.args.texts.now) c.self.invariant c.in_ok-with.ensures c.in_ok-with-2.ensures
    (c.in_ok-block.ensures ∙ ap (λ x. c.in_ok-with-2.field-0 ++ x ∷ []) c.as_slice.ensures)

pub returns : goal.returns
returns c =
    attribute_added c.self.inside.block c.in_ok-with.field-0 c.in_ok-with-2.field-0 c.in_ok-block.block (c.args.name.now, several c.args.texts.now) c.self.invariant c.in_ok-with.ensures c.in_ok-with-2.ensures
    (c.in_ok-block.ensures ∙ ap (λ x. c.in_ok-with-2.field-0 ++ x ∷ []) c.as_slice.ensures)
    ∙ ap (λ xs. xs ++ (c.args.name.now, several c.args.texts.now) ∷ []) c.self.view_is
