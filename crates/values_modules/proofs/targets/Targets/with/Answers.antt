use Rattle.std.proofs.Common.{[], ◌∷◌, ◌++◌, ap, ◌∙◌}
use Rattle.std.proofs.lemmas.Str.{is_utf8-from_IsUtf8}
use Rattle.values_modules.specs.Values.{Target}
use Rattle.values_modules.proofs.TargetTexts.{target_added, stay_targets, stay_text_kinds}
use Rattle.values_modules.proofs.targets.Targets.with.Goals as goal

pub invariant_of-result : goal.invariant_of-result
invariant_of-result c =
    let old = c.self.inside.block in
    let t : Target = record { kind = c.args.kind.now; name = c.args.name.now; attributes = c.args.attributes.now } in
    let p = c.in_ok-with.ensures ∙ ap (λ x. old ++ x ∷ []) c.as_bytes.ensures.value in
    let r = c.in_ok-block-2.ensures ∙ ap (λ x. c.in_ok-block.block ++ x ∷ []) c.as_slice.ensures in
    (stay_targets old c.in_ok-with.field-0 c.in_ok-block.block c.in_ok-block-2.block t c.self.invariant.0 p c.in_ok-block.ensures r, stay_text_kinds old c.in_ok-with.field-0 c.in_ok-block.block c.in_ok-block-2.block t c.self.invariant.0 p c.in_ok-block.ensures r c.self.invariant.1 (is_utf8-from_IsUtf8 c.args.kind.now c.utf8.kind))

pub returns : goal.returns
returns c =
    let old = c.self.inside.block in
    let t : Target = record { kind = c.args.kind.now; name = c.args.name.now; attributes = c.args.attributes.now } in
    let p = c.in_ok-with.ensures ∙ ap (λ x. old ++ x ∷ []) c.as_bytes.ensures.value in
    let r = c.in_ok-block-2.ensures ∙ ap (λ x. c.in_ok-block.block ++ x ∷ []) c.as_slice.ensures in
    target_added old c.in_ok-with.field-0 c.in_ok-block.block c.in_ok-block-2.block t c.self.invariant.0 p c.in_ok-block.ensures r ∙ ap (λ ts. ts ++ t ∷ []) c.self.view_is
