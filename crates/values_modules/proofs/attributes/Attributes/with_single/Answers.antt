use Rattle.std.proofs.Common.{[], ◌∷◌, ◌++◌, ap, ◌∙◌}
use Rattle.values_modules.specs.Values.{single}
use Rattle.values_modules.proofs.TargetTexts.{attribute_added, stay_attributes}
use Rattle.values_modules.proofs.attributes.Attributes.with_single.Goals as goal

pub invariant_of-result : goal.invariant_of-result
invariant_of-result c =
    stay_attributes c.self.inside.block c.in_ok-with.field-0 c.in_ok-with-2.field-0 c.in_ok-block.block (c.args.name.now, single c.args.text.now) c.self.invariant c.in_ok-with.ensures c.in_ok-with-2.ensures c.in_ok-block.ensures

pub returns : goal.returns
returns c =
    attribute_added c.self.inside.block c.in_ok-with.field-0 c.in_ok-with-2.field-0 c.in_ok-block.block (c.args.name.now, single c.args.text.now) c.self.invariant c.in_ok-with.ensures c.in_ok-with-2.ensures c.in_ok-block.ensures
    ∙ ap (λ xs. xs ++ (c.args.name.now, single c.args.text.now) ∷ []) c.self.view_is
