use Rattle.std.proofs.Common.{[], ◌∷◌, ◌++◌, ap, ◌∙◌}
use Rattle.values_modules.proofs.BlockTexts.{text_added, stays_block}
use Rattle.values_modules.proofs.blocks.TextBlock.with.Goals as goal

pub invariant_of-result : goal.invariant_of-result
invariant_of-result c = stays_block c.self.inside.bytes.items c.push_text.new.out.items c.args.text.now c.self.invariant c.in_ok-push_text.ensures

pub returns : goal.returns
returns c = text_added c.self.inside.bytes.items c.push_text.new.out.items c.args.text.now c.self.invariant c.in_ok-push_text.ensures ∙ ap (λ ts. ts ++ c.args.text.now ∷ []) c.self.view_is
