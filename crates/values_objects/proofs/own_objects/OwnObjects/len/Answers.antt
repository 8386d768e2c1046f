use Rattle.std.proofs.Common.{map, arith}
use Rattle.std.proofs.lemmas.List.{length-map}
use Rattle.values_objects.specs.Standings.{standing_of}
use Rattle.values_objects.proofs.PagedObjects.{laid_size}
use Rattle.values_objects.proofs.own_objects.OwnObjects.len.Goals as goal

pub returns-clause-number : goal.returns-clause-number
returns-clause-number c =
    let own = c.args.self.now in
    let all = laid_size own.full.items (map standing_of own.last.items) in
    omega (arith, all, length-map own.last.items standing_of, own.paged, c.len.ensures, own.last.ok.0)
