use Rattle.functions.proofs.Uniqueness.{one_module_held, one_package_held}
use Rattle.functions.proofs.file_laws.files_determine_what_nodes_hold.Goals as goal

pub returns-clause-module : goal.returns-clause-module
returns-clause-module c = one_module_held

pub returns-clause-package : goal.returns-clause-package
returns-clause-package c = one_package_held
