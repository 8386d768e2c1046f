use Rattle.functions.proofs.NodeValues.{packages_hold}
use Rattle.functions.proofs.file_laws.packages_are_those_of_the_files.Goals as goal

pub returns : goal.returns
returns c = packages_hold
