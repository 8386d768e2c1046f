use Rattle.std.proofs.Common.{refl, sym, ap, ◌∙◌}
use Rattle.std.proofs.Math.Seq.{map-set_same}
use Rattle.values_objects.specs.ObjectBytes.{standing_bytes}
use Rattle.values_objects.specs.Standings.{standing_of}
use Rattle.values_objects.specs.Own.{written_object}
use Rattle.values_objects.proofs.Standing.{own_bytes, there, none_there}
use Rattle.values_objects.proofs.object_list.free_own.Goals as goal

pub returns-in-Some-clause-same : goal.returns-in-Some-clause-same
returns-in-Some-clause-same c = map-set_same written_object c.args.objects.now.items c.args.i c.free.new.self c.in-Some.found.now (c.free.ensures.same ∙ ap written_object c.in-Some.ensures.value)

pub returns-in-Some-clause-bytes : goal.returns-in-Some-clause-bytes
returns-in-Some-clause-bytes c =
    let own = c.args.objects.now in
    c.free.ensures.bytes ∙ own_bytes c.in-Some.found.now ∙ ap standing_bytes (sym (there standing_of own.items own.len c.args.i c.in-Some.found.now own.ok.0 (c.in-Some.ensures.variant.0 refl) c.in-Some.ensures.value))

pub returns-in-None-clause-bytes : goal.returns-in-None-clause-bytes
returns-in-None-clause-bytes c =
    let own = c.args.objects.now in
    sym (ap standing_bytes (none_there standing_of own.items own.len c.args.i own.ok.0 c.in-None.ensures.variant.1))
