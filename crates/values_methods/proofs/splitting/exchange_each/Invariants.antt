use Rattle.std.proofs.Common.{◌≡◌, ◌++◌, map, take, drop}
use Rattle.values_methods.specs.Texts.{exchanged}
use Rattle.values_methods.proofs.splitting.exchange_each.Given as goal

abbrev pub invariant-loop-byte : goal.invariant-loop-byte
invariant-loop-byte l = l.byte-items ≡ map (exchanged l.old l.new) (take l.byte-index l.initial.byte-items) ++ drop l.byte-index l.initial.byte-items
