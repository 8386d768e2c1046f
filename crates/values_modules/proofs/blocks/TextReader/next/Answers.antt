use Rattle.std.proofs.Common.{sym, ◌∙◌}
use Rattle.values_modules.proofs.BlockTexts.{first_of, not_empty, text_fits, stays_read, text_read}
use Rattle.values_modules.proofs.blocks.TextReader.next.Goals as goal

pub split_number-len-requires : goal.split_number-len-requires
split_number-len-requires c = (first_of c.self.inside.rest.now c.self.invariant (not_empty c.self.inside.rest.now c.is_empty.result c.is_empty.ensures c.if-is_empty.false)).fits

pub split_at-requires : goal.split_at-requires
split_at-requires c =
    let some = not_empty c.self.inside.rest.now c.is_empty.result c.is_empty.ensures c.if-is_empty.false in
    text_fits c.self.inside.rest.now c.split_number-len.result.0 c.split_number-len.result.1.now c.self.invariant some c.split_number-len.ensures.number c.split_number-len.ensures.after

pub invariant_of-self : goal.invariant_of-self
invariant_of-self c =
    let some = not_empty c.self.inside.rest.now c.is_empty.result c.is_empty.ensures c.if-is_empty.false in
    stays_read c.self.inside.rest.now c.split_number-len.result.0 c.split_number-len.result.1.now c.self.invariant some c.split_number-len.ensures.number c.split_number-len.ensures.after
    c.split_at.result.0.now c.split_at.result.1.now c.split_at.ensures.front c.split_at.ensures.back

pub returns : goal.returns
returns c =
    let some = not_empty c.self.inside.rest.now c.is_empty.result c.is_empty.ensures c.if-is_empty.false in
    sym c.self.view_is ∙ text_read c.self.inside.rest.now c.split_number-len.result.0 c.split_number-len.result.1.now c.self.invariant some c.split_number-len.ensures.number c.split_number-len.ensures.after
    c.split_at.result.0.now c.split_at.result.1.now c.split_at.ensures.front c.split_at.ensures.back
