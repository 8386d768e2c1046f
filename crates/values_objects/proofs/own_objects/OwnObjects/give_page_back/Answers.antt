use Rattle.std.proofs.Common.{map, refl}
use Rattle.std.proofs.lemmas.Option.{slice_get_read}
use Rattle.values_objects.specs.Standings.{standing_of}
use Rattle.values_objects.proofs.PagedObjects.{same_page_there}
use Rattle.values_objects.proofs.own_objects.OwnObjects.give_page_back.Goals as goal

pub returns-in-Some : goal.returns-in-Some
returns-in-Some c =
    let own = c.args.self.now in
    let got = slice_get_read own.full.items own.full.len c.args.page c.in-Some.found.now own.full.ok.0 (c.in-Some.ensures.variant.0 refl) c.in-Some.ensures.value in
    same_page_there own.full.items (map standing_of own.last.items) c.args.page c.in-Some.found.now c.give_back.new.self got c.give_back.ensures
