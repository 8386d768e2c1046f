use Rattle.pattern.proofs.Directories.{held_with_directories}
use Rattle.pattern.proofs.globs.glob_with_directories.Goals as goal

pub returns : goal.returns
returns c = held_with_directories
