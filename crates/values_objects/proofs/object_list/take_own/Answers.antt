use Rattle.std.proofs.Common.{Some, is_none, refl, sym, ap, ◌∙◌}
use Rattle.std.proofs.Math.Seq.{map-set_same}
use Rattle.values_objects.specs.Standings.{has_gone}
use Rattle.values_objects.specs.Own.{written_object}
use Rattle.values_objects.proofs.Standing.{there, none_there}
use Rattle.values_objects.proofs.object_list.take_own.Goals as goal

pub returns-in-Ok-clause-same : goal.returns-in-Ok-clause-same
returns-in-Ok-clause-same c = map-set_same written_object c.args.objects.now.items c.args.i c.take.new.self c.in-Some.found.now (c.in-Ok.ensures.same ∙ ap written_object c.in-Some.ensures.value)

pub returns-in-Ok-clause-taken : goal.returns-in-Ok-clause-taken
returns-in-Ok-clause-taken c =
    let own = c.args.objects.now in
    there written_object own.items own.len c.args.i c.in-Some.found.now own.ok.0 (c.in-Some.ensures.variant.0 refl) c.in-Some.ensures.value ∙ ap Some (sym c.in-Ok.ensures.taken)

pub returns-in-Err-clause-same : goal.returns-in-Err-clause-same
returns-in-Err-clause-same c = map-set_same written_object c.args.objects.now.items c.args.i c.take.new.self c.in-Some.found.now (c.in-Err.ensures.same ∙ ap written_object c.in-Some.ensures.value)

pub returns-in-Err-clause-gone : goal.returns-in-Err-clause-gone
returns-in-Err-clause-gone c =
    let own = c.args.objects.now in
    there has_gone own.items own.len c.args.i c.in-Some.found.now own.ok.0 (c.in-Some.ensures.variant.0 refl) c.in-Some.ensures.value ∙ ap (λ o. Some (is_none o)) c.in-Err.ensures.gone

pub returns-in-None-clause-taken : goal.returns-in-None-clause-taken
returns-in-None-clause-taken c =
    let own = c.args.objects.now in
    none_there written_object own.items own.len c.args.i own.ok.0 c.in-None.ensures.variant.1
