use Rattle.std.proofs.Common.{◌-◌, [], ◌∷◌, ◌++◌, sym, ap, ◌∙◌, append_assoc}
use Rattle.values_modules.specs.Blocks.{number_bytes}
use Rattle.values_modules.proofs.BlockTexts.{number_more}
use Rattle.values_modules.proofs.blocks.push_number.Goals as goal

pub loop-left-preserved : goal.loop-left-preserved
loop-left-preserved c =
    let out = c.loop-left.out.items in
    let left = c.loop-left.left in
    ap (λ l. l ++ number_bytes (left - 255)) c.in_ok-push.ensures.items ∙ append_assoc out (255 ∷ []) (number_bytes (left - 255)) ∙ ap (λ l. out ++ l) (sym (number_more left c.loop-left-test.true)) ∙ c.loop-left.invariant
