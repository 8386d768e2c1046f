use denote.Param.Send.{sendable}
use Rattle.functions.proofs.Sends.{kept_send}
use Rattle.loader.proofs.Steps.{stopped_at_start, on_err}
use Rattle.loader.proofs.serving.serve_lines.Goals as goal

pub returns-in_err-hands-clause-err : goal.returns-in_err-hands-clause-err
returns-in_err-hands-clause-err g c = on_err _ (stopped_at_start _ _ _ _)

pub serve_with-requires-send-H-State : goal.serve_with-requires-send-H-State
serve_with-requires-send-H-State g c κs within = search (kept_send, sendable)
