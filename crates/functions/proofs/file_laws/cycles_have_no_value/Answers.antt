use Rattle.functions.proofs.NoValue.{no_module_shown, no_package_shown}
use Rattle.functions.proofs.file_laws.cycles_have_no_value.Goals as goal

pub returns-clause-module : goal.returns-clause-module
returns-clause-module c = no_module_shown

pub returns-clause-package : goal.returns-clause-package
returns-clause-package c = no_package_shown
