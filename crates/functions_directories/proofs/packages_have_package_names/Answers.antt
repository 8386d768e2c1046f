use Rattle.functions_directories.proofs.Names.{package_names}
use Rattle.functions_directories.proofs.packages_have_package_names.Goals as goal

pub returns : goal.returns
returns c = package_names
