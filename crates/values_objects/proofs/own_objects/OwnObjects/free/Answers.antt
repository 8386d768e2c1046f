use Rattle.std.proofs.Common.{◌/◌, map, refl, sym, ap, ◌∙◌}
use Rattle.std.specs.Prelude.{◌-◌}
use Rattle.std.proofs.lemmas.Option.{slice_get-map, slice_get_read}
use Rattle.values_objects.specs.ObjectBytes.{standing_bytes}
use Rattle.values_objects.specs.Standings.{standing_of}
use Rattle.values_objects.specs.Wholes.{page_size}
use Rattle.values_objects.proofs.PagedObjects.{same_in_page, same_last, standing_last, standing_there}
use Rattle.values_objects.proofs.own_objects.OwnObjects.free.Goals as goal

pub returns-then-i-self-clause-same : goal.returns-then-i-self-clause-same
returns-then-i-self-clause-same c =
    let own = c.args.self.now in
    same_last own.full.items own.last.items c.free_own.new.objects.items c.free_own.ensures.same

pub returns-then-i-self-clause-bytes : goal.returns-then-i-self-clause-bytes
returns-then-i-self-clause-bytes c =
    let own = c.args.self.now in
    c.free_own.ensures.bytes ∙ ap standing_bytes (sym (standing_last own.full.items own.last.items own.first c.args.i own.paged c.if-i-self.true ∙ slice_get-map standing_of own.last.items (c.args.i - own.first)))

pub returns-in-Some-clause-same : goal.returns-in-Some-clause-same
returns-in-Some-clause-same c =
    let own = c.args.self.now in
    let got = slice_get_read own.full.items own.full.len (c.args.i / page_size) c.in-Some.page.now own.full.ok.0 (c.in-Some.ensures.variant.0 refl) c.in-Some.ensures.value in
    same_in_page own.full.items (map standing_of own.last.items) (c.args.i / page_size) c.in-Some.page.now c.free.new.self got c.free.ensures.same

pub returns-in-Some-clause-bytes : goal.returns-in-Some-clause-bytes
returns-in-Some-clause-bytes c =
    let own = c.args.self.now in
    let got = slice_get_read own.full.items own.full.len (c.args.i / page_size) c.in-Some.page.now own.full.ok.0 (c.in-Some.ensures.variant.0 refl) c.in-Some.ensures.value in
    c.free.ensures.bytes ∙ ap standing_bytes (sym (standing_there own.full.items (map standing_of own.last.items) c.args.i c.in-Some.page.now got))
