use Rattle.pattern.proofs.WalkFinds.{found_by_walk}
use Rattle.pattern.proofs.globs.walk_finds_pattern.Goals as goal

pub returns : goal.returns
returns c = found_by_walk
