use Rattle.functions.proofs.OneCycle.{one_cycle}
use Rattle.functions.proofs.file_laws.one_cycle_is_shown.Goals as goal

pub returns : goal.returns
returns c = one_cycle
