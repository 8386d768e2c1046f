use Rattle.std.proofs.Common.{◌≡◌, FitsSigned, w64, to_z, pos, ap, ◌∙◌}
use Rattle.std.proofs.lemmas.Int.{to_z-of_z}
use Rattle.values_objects.specs.Numbers.{shown}
use Rattle.values_heap.specs.View.{store_of}
use Rattle.values_builtins.proofs.RangeNumbers.{range_made, held_made}
use Rattle.values_builtins.proofs.ranges.make_range.Goals as goal

pub returns-in-Some : goal.returns-in-Some
returns-in-Some c =
    let f : FitsSigned w64 c.args.from = c.ranges.from in
    let g : FitsSigned w64 c.args.to = c.ranges.to in
    let h : FitsSigned w64 c.args.step = c.ranges.step in
    let one : c.args.step ≡ pos 1 = simp to_z-of_z at (ap (to_z w64) c.if-step-eq1.true) in
    let counted = simp to_z-of_z at c.in-Some.ensures in
    held_made c.args.from c.args.to c.args.step one (shown c.in-Some.held) counted (store_of c.args.heap.now) _ _ c.make_held.ensures

pub returns : goal.returns
returns c =
    let f : FitsSigned w64 c.args.from = c.ranges.from in
    let g : FitsSigned w64 c.args.to = c.ranges.to in
    let h : FitsSigned w64 c.args.step = c.ranges.step in
    range_made c.args.from c.args.to c.args.step c.in_ok-members.members.items (simp to_z-of_z at c.in_ok-members.ensures.0) (store_of c.args.heap.now) ∙ c.in_ok-made.ensures
