use Rattle.functions.proofs.OneValue.{each_module_once, each_package_once}
use Rattle.functions.proofs.file_laws.each_has_one_value.Goals as goal

pub returns-clause-module : goal.returns-clause-module
returns-clause-module c = each_module_once

pub returns-clause-package : goal.returns-clause-package
returns-clause-package c = each_package_once
