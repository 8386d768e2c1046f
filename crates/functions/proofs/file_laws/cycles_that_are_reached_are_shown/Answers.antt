use Rattle.functions.proofs.ShownCycles.{modules_show, packages_show}
use Rattle.functions.proofs.file_laws.cycles_that_are_reached_are_shown.Goals as goal

pub returns-clause-module : goal.returns-clause-module
returns-clause-module c = modules_show

pub returns-clause-package : goal.returns-clause-package
returns-clause-package c = packages_show
