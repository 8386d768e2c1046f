use Rattle.std.proofs.Common.{◌≡◌, true, length, refl, sym, ◌∙◌, subst, w64}
use Rattle.values_semantics.specs.Heap.{is_sized}
use Rattle.std.proofs.lemmas.Int.{to_z-of_z}
use Rattle.values_objects.specs.ListSizes.{SizedAs}
use Rattle.values_objects.proofs.Times.{repeated_low, repeated_high}
use Rattle.values_objects.proofs.lists.repeated_into.Goals as goal

pub returns-then-n-le0 : goal.returns-then-n-le0
returns-then-n-le0 g c =
    let none = sym (repeated_low c.args.a.now c.args.n _ (to_z-of_z w64 c.args.n c.ranges.n) c.if-n-le0.true) in
    (c.new.ensures.items ∙ none, subst (λ l. is_sized (length l) ≡ true) none refl)

pub returns : goal.returns
returns g c = subst (λ l. SizedAs l c.times_sized.result) (repeated_high c.args.a.now c.args.n _ (to_z-of_z w64 c.args.n c.ranges.n) c.if-n-le0.false) c.times_sized.ensures
