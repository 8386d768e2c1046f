use Rattle.functions_directories.proofs.Grounds.{packages_held}
use Rattle.functions_directories.proofs.package_name_nodes_are_right.Goals as goal

pub returns : goal.returns
returns c = packages_held
