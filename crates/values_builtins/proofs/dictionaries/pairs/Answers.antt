use Rattle.values_builtins.proofs.Pairs.{pairs_more}
use Rattle.values_builtins.proofs.dictionaries.pairs.Goals as goal

pub loop-i-preserved : goal.loop-i-preserved
loop-i-preserved c = pairs_more c.args.entries.now c.loop-i.i c.loop-i.all.items _ c.loop-i.invariant c.in-Some._key.now c.in-Some.entry c.push.new.self.items c.in-Some.ensures c.in_ok-push.ensures.items
