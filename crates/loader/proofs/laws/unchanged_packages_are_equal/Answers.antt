use Rattle.loader.proofs.HeldValues.{unchanged_is_equal}
use Rattle.loader.proofs.laws.unchanged_packages_are_equal.Goals as goal

pub returns : goal.returns
returns c = unchanged_is_equal
