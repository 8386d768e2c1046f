use Rattle.std.proofs.Common.{◌≡◌, map, take}
use Rattle.values_objects.specs.Own.{written_object}
use Rattle.values_objects.specs.Standings.{gone_own, standing_of}
use Rattle.values_objects.proofs.object_list.all_gone.Given as goal

abbrev pub invariant-loop-object : goal.invariant-loop-object
invariant-loop-object l = map standing_of (take l.object-index l.objects) ≡ map gone_own (map written_object (take l.object-index l.objects))
