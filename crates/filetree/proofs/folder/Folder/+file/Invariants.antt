use Rattle.std.proofs.Common.{length}
use Rattle.filetree.proofs.folder.Folder.+file.Given as goal

abbrev pub decreases-file : goal.decreases-file
decreases-file l = length l.path.now
