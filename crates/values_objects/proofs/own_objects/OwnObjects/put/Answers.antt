use Rattle.std.proofs.Common.{◌/◌, map, refl}
use Rattle.std.proofs.lemmas.Option.{slice_get_read}
use Rattle.values_objects.specs.Objects.{object_of}
use Rattle.values_objects.specs.Standings.{standing_of}
use Rattle.values_objects.specs.Wholes.{page_size}
use Rattle.values_objects.proofs.PagedObjects.{written_last, written_there}
use Rattle.values_objects.proofs.own_objects.OwnObjects.put.Goals as goal

pub returns-then-i-self : goal.returns-then-i-self
returns-then-i-self c =
    let own = c.args.self.now in
    written_last own.full.items own.last.items c.put_own.new.objects.items own.first c.args.i (object_of c.args.object) own.paged c.if-i-self.true c.put_own.ensures.put

pub returns-in-Some : goal.returns-in-Some
returns-in-Some c =
    let own = c.args.self.now in
    let got = slice_get_read own.full.items own.full.len (c.args.i / page_size) c.in-Some.page.now own.full.ok.0 (c.in-Some.ensures.variant.0 refl) c.in-Some.ensures.value in
    written_there own.full.items (map standing_of own.last.items) c.args.i c.in-Some.page.now c.put.new.self (object_of c.args.object) got c.put.ensures
