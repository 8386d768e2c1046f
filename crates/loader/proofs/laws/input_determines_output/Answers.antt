use Rattle.loader.proofs.OneAnswers.{one_output, stops_in_output}
use Rattle.loader.proofs.laws.input_determines_output.Goals as goal

pub returns-clause-served : goal.returns-clause-served
returns-clause-served c = one_output

pub returns-clause-stopped : goal.returns-clause-stopped
returns-clause-stopped c = stops_in_output
