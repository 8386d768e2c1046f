use Rattle.std.proofs.Common.{◌≡◌, ◌≤◌, ◌-◌, ◌+ℤ◌, pos, FitsSigned, w64, to_z, of_z, sym, subst, ap, ◌∙◌}
use Rattle.std.proofs.lemmas.Int.{to_z-of_z}
use Rattle.values_semantics.specs.Functions.{numbers}
use Rattle.values_objects.proofs.Consecutive.{numbers_between, first_fits, number_fits}
use Rattle.values_objects.proofs.numbers.Numbers.between.Goals as goal

pub returns : goal.returns
returns c =
    let n = c.args.self.now in
    let i = c.args.from in
    let r = c.number_after.result in
    let le : i ≤ n.count = c.requires.first in
    let is : r ≡ n.first +ℤ pos i = c.number_after.ensures ∙ ap (λ z. z +ℤ pos i) (to_z-of_z w64 n.first (first_fits n.first n.count n.low n.fits)) in
    let fits : FitsSigned w64 r = subst (FitsSigned w64) (sym is) (number_fits n.first n.count i n.low n.fits le) in
    ap (λ k. numbers k (to_z w64 (of_z w64 r)) (pos 1)) c.saturating_sub.ensures ∙ ap (λ m. numbers (c.args.to - i) m (pos 1)) (to_z-of_z w64 r fits ∙ is) ∙ numbers_between n.count i c.args.to n.first c.requires.end
