use Rattle.std.proofs.Common.{◌≡◌, ap, ◌∙◌, w64, of_z}
use Rattle.std.proofs.lemmas.Int.{to_z-of_z}
use Rattle.values_semantics.specs.Numbers.{floor_div}
use Rattle.values_operators.specs.Wide.{wide_value}
use Rattle.values_operators.proofs.Quotients.{divided}
use Rattle.values_operators.proofs.numbers.divide.Goals as goal

pub returns : goal.returns
returns c =
    let x = to_z-of_z w64 c.args.x c.ranges.x in
    let y = c.widen.ensures.value ∙ to_z-of_z w64 c.args.y c.ranges.y in
    let e : wide_value c.quotient.result ≡ floor_div c.args.x c.args.y = c.quotient.ensures ∙ (λ i. floor_div (x i) (y i)) in
    divided c.args.y (floor_div c.args.x c.args.y) _ _ (λ z. c.if-y-eq0.false (ap (of_z w64) z)) e c.narrow.ensures
