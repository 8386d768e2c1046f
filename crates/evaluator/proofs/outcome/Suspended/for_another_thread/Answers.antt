use denote.Param.Send.{sendable}
use Rattle.evaluator.proofs.outcome.Suspended.for_another_thread.Goals as goal
use Rattle.evaluator.proofs.Crossing.{suspended_send}

pub crossing-requires-send-T : goal.crossing-requires-send-T
crossing-requires-send-T c κs = search (suspended_send, sendable)
