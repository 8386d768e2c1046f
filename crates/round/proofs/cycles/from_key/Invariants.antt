use Rattle.std.proofs.Common.{take}
use Rattle.engine_semantics.specs.Value.{In}
use Rattle.round.proofs.cycles.from_key.Given as goal

abbrev pub invariant-loop-place : goal.invariant-loop-place
invariant-loop-place l = In l.key (take l.place l.path) → ⊥
