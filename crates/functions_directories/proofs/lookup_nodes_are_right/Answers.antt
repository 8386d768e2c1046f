use Rattle.functions_directories.proofs.LookupValue.{lookup_grounded, lookup_value}
use Rattle.functions_directories.proofs.lookup_nodes_are_right.Goals as goal

pub returns : goal.returns
returns c = λ next looks files directory. (lookup_grounded next looks files directory, lookup_value next looks files directory)
