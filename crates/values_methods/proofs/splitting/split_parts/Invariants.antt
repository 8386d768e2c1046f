use Rattle.std.proofs.Common.{◌≡◌, ◌++◌, length}
use Rattle.values_semantics.specs.Methods.{split_by}
use Rattle.values_methods.specs.Texts.{shown}
use Rattle.values_methods.proofs.splitting.split_parts.Given as goal

abbrev pub invariant-loop-at : goal.invariant-loop-at
invariant-loop-at l = shown l.all.items ++ split_by l.separator l.rest ≡ split_by l.separator l.whole

abbrev pub decreases-loop-at : goal.decreases-loop-at
decreases-loop-at l = length l.rest
