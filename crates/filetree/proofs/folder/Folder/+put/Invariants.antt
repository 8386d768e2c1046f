use Rattle.std.proofs.Common.{length}
use Rattle.filetree.proofs.folder.Folder.+put.Given as goal

abbrev pub decreases-put : goal.decreases-put
decreases-put l = length l.path.now
