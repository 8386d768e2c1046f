use Rattle.std.proofs.Common.{length}
use Rattle.filetree.proofs.folder.Folder.+del.Given as goal

abbrev pub decreases-del : goal.decreases-del
decreases-del l = length l.path.now
