use Rattle.std.proofs.Common.{map}
use Rattle.values_semantics.specs.Hashing.{key}
use Rattle.values_objects.specs.Standings.{object_in}
use Rattle.values_operators.proofs.Hashes.{along_fault, along_more}
use Rattle.values_operators.proofs.hashing.+hashing.Goals as goal

pub concat_parts-returns-in-Err : goal.concat_parts-returns-in-Err
concat_parts-returns-in-Err t c = along_fault (key c.args.left (map object_in c.args.objects.now)) c.args.members.now c.loop-i.i c.loop-i.steps c.loop-i.all.items _ c.loop-i.invariant c.at.result c.at.ensures c.in-Err.halt _ _ c.in-Err.ensures

pub concat_parts-loop-i-preserved : goal.concat_parts-loop-i-preserved
concat_parts-loop-i-preserved t c = along_more (key c.args.left (map object_in c.args.objects.now)) c.args.members.now c.loop-i.i c.loop-i.steps c.loop-i.all.items _ c.loop-i.invariant c.at.result c.at.ensures c.in-Ok.more.items _ _ c.in_ok-append.ensures.items c.in-Ok.ensures
