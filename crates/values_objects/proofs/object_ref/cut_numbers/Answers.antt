use Rattle.std.proofs.Common.{pos, arith}
use Rattle.values_objects.proofs.Consecutive.{numbers_length}
use Rattle.values_objects.proofs.object_ref.cut_numbers.Goals as goal

pub between-part-requires : goal.between-part-requires
between-part-requires c =
    let number = numbers_length c.args.numbers.now.count c.args.numbers.now.first (pos 1) in
    omega (arith, number, c.in-Some-Some.ensures.within, c.in-Some-Some.ensures'.within, c.len.ensures, c.len-2.ensures, c.len-3.ensures)
