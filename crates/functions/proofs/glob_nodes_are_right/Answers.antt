use Rattle.std.proofs.Common.{refl}
use Rattle.functions.specs.Next.{next}
use Rattle.functions_directories.proofs.GlobFinds.{glob_held}
use Rattle.functions.proofs.glob_nodes_are_right.Goals as goal

pub returns : goal.returns
returns c = glob_held next (λ directory answers. refl) (λ directory pattern directories answers. refl)
