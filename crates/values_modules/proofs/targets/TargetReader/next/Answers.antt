use Rattle.std.proofs.Common.{sym, ap, ◌∙◌}
use Rattle.std.proofs.lemmas.Str.{IsUtf8-from_is_utf8}
use Rattle.values_modules.specs.Encoding.{attribute_texts, attributes_in}
use Rattle.values_modules.proofs.TargetTexts.{reads_attributes, block_of_attributes, kind_is_text}
use Rattle.values_modules.proofs.targets.TargetReader.next.Goals as goal

pub from_utf8_unchecked-kind-requires : goal.from_utf8_unchecked-kind-requires
from_utf8_unchecked-kind-requires c =
    IsUtf8-from_is_utf8 c.in_ok-kind.kind.now
    (kind_is_text c.self.inside.texts c.next.new.self c.next-2.new.self c.in_ok-kind.kind.now c.in-Some.name.now c.in-Some-next.attributes.now c.next-3.new.self c.in_ok-kind.ensures c.in-Some.ensures c.in-Some-next.ensures c.self.invariant.0 c.self.invariant.1)

pub of-requires : goal.of-requires
of-requires c =
    block_of_attributes c.self.inside.texts c.next.new.self c.next-2.new.self c.in_ok-kind.kind.now c.in-Some.name.now c.in-Some-next.attributes.now c.next-3.new.self c.in_ok-kind.ensures c.in-Some.ensures c.in-Some-next.ensures c.self.invariant.0

pub of-attributes-requires : goal.of-attributes-requires
of-attributes-requires c =
    c.of.ensures
    ∙ reads_attributes c.self.inside.texts c.next.new.self c.next-2.new.self c.in_ok-kind.kind.now c.in-Some.name.now c.in-Some-next.attributes.now c.next-3.new.self c.in_ok-kind.ensures c.in-Some.ensures c.in-Some-next.ensures c.self.invariant.0
    ∙ sym (ap (λ x. attribute_texts (attributes_in x)) c.of.ensures)
