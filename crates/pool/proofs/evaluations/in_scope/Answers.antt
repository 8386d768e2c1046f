use denote.Param.Send.{sendable}
use Rattle.pool.proofs.evaluations.in_scope.Goals as goal

pub scoped-requires : goal.scoped-requires
scoped-requires g c = let a = c.type_bounds.send-R in let b = c.type_bounds.send-R-State in let d = c.type_bounds.sync-T in
    record { at = λ x. (c.requires.seats, (c.requires.evaluation, (search sendable, search sendable, search sendable))) }
