use Rattle.functions.proofs.Existence.{some_module_held, some_package_held}
use Rattle.functions.proofs.file_laws.each_has_a_value.Goals as goal

pub returns-clause-module : goal.returns-clause-module
returns-clause-module c = some_module_held

pub returns-clause-package : goal.returns-clause-package
returns-clause-package c = some_package_held
