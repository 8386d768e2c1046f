use Rattle.std.proofs.Common.{◌≡◌, ◌∙◌, ap, arith, ℕ, ◌+◌, ◌-◌, take, drop}
use Rattle.std.proofs.lemmas.List.{length-take}
use Rattle.functions_directories.proofs.possible_names.equal_names.Goals as goal

pub returns-in-Ok : goal.returns-in-Ok
returns-in-Ok c =
    let one : (c.in-Ok.at + 1) - c.in-Ok.at ≡ 1 = omega arith in
    let long = length-take ((c.in-Ok.at + 1) - c.in-Ok.at) (drop c.in-Ok.at c.args.names.now) in
    record {
      equal = ap (λ (n : ℕ). take n (drop c.in-Ok.at c.args.names.now)) one ∙ c.in-Ok.ensures.1;
      few = omega arith;
    }
