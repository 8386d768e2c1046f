use Rattle.std.proofs.Common.{length}
use Rattle.filetree.proofs.folder.Folder.+of_one.Given as goal

abbrev pub decreases-of_one : goal.decreases-of_one
decreases-of_one l = length l.path.now
