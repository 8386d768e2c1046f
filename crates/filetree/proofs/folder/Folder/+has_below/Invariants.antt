use Rattle.std.proofs.Common.{length}
use Rattle.filetree.proofs.folder.Folder.+has_below.Given as goal

abbrev pub decreases-has_below : goal.decreases-has_below
decreases-has_below l = length l.path.now
