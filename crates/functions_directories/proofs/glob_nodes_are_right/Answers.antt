use Rattle.functions_directories.proofs.GlobFinds.{glob_held}
use Rattle.functions_directories.proofs.glob_nodes_are_right.Goals as goal

pub returns : goal.returns
returns c = glob_held
