use Rattle.keys.proofs.job.Job.make.Goals as goal
use Rattle.keys.proofs.job.Job.make.Goals.{in-Some, in-None+in-Ok}

-- the state fits the job's key and answers: a kept one by the job's invariant, and a new one fits any answers
pub turn-requires : goal.turn-requires
turn-requires g c = (
  c.self.inside.key,
  elim c.match-state.branch [
    | in-Some w ↦ rw (w.state-is, c.as_slice.ensures.value) (rw w.in-Some.is at c.self.invariant)
    | in-None+in-Ok w ↦ rw w.state-is (w.in-Ok.ensures _)
  ],
)
