use Rattle.evaluator_semantics.specs.Calls.{call}
use Rattle.evaluator_frames.proofs.Immediate.{once_ran}
use Rattle.evaluator_frames.proofs.once.at_once.Goals as goal

pub returns-in-Ok-clause-says : goal.returns-in-Ok-clause-says
returns-in-Ok-clause-says c = λ env n line running. c.in-Ok.ensures.says env (call env n) line running

pub returns-in-Err-clause-says : goal.returns-in-Err-clause-says
returns-in-Err-clause-says c = λ env n line running. once_ran _ _ c.in-Err.halt _ (c.in-Err.ensures.says env (call env n) line running)
