use Rattle.std.proofs.Common.{Some, map, sym, ap, ◌∙◌}
use Rattle.values_frozen_objects.specs.Shift.{moved_val}
use Rattle.values_objects.proofs.Lent.{cut_there}
use Rattle.values_objects.proofs.object_ref.cut_lent.Goals as goal

pub returns : goal.returns
returns c =
    cut_there c.args.base c.args.items.now c.args.from c.args.to c.in-Some-Some.from c.in-Some-Some.to c.in-Some-Some.ensures.value c.in-Some-Some.ensures'.value
    ∙ ap (λ xs. Some (map (moved_val c.args.base) xs)) (sym c.subrange-part.ensures) ∙ ap Some (sym c.in_ok-copied_lent.ensures)
