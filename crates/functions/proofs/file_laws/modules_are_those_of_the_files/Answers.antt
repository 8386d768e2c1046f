use Rattle.functions.proofs.NodeValues.{modules_hold}
use Rattle.functions.proofs.file_laws.modules_are_those_of_the_files.Goals as goal

pub returns : goal.returns
returns c = modules_hold
