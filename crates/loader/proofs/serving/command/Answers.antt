use Rattle.loader.proofs.Steps.{stopped_at_start}
use Rattle.loader.proofs.serving.command.Goals as goal

pub returns-then-eq-clause-stopped : goal.returns-then-eq-clause-stopped
returns-then-eq-clause-stopped g c = λ status. stopped_at_start _ _ (g.R.Input.told c.args.reader.now) (g.W.Output.held c.args.writer.now)
