use Rattle.std.proofs.Common.{◌≡◌, ◌≤◌, ◌+ℤ◌, pos, FitsSigned, w64, Some, sym, subst, ap, ◌∙◌, arith}
use Rattle.std.proofs.lemmas.Int.{to_z-of_z}
use Rattle.values_semantics.specs.declared.val.Val.TheVariants as v
use Rattle.values_objects.proofs.Consecutive.{number_at, first_fits, number_fits}
use Rattle.values_objects.proofs.numbers.Numbers.at.Goals as goal

pub returns : goal.returns
returns c =
    let n = c.args.self.now in
    let i = c.args.i in
    let r = c.number_after.result in
    let le : i ≤ n.count = omega (arith, c.requires) in
    let is : r ≡ n.first +ℤ pos i = c.number_after.ensures ∙ ap (λ z. z +ℤ pos i) (to_z-of_z w64 n.first (first_fits n.first n.count n.low n.fits)) in
    let fits : FitsSigned w64 r = subst (FitsSigned w64) (sym is) (number_fits n.first n.count i n.low n.fits le) in
    number_at n.count i n.first c.requires ∙ ap (λ m. Some (v.Int m)) (sym (to_z-of_z w64 r fits ∙ is))
