use Rattle.std.proofs.Common.{length}
use Rattle.filetree.proofs.folder.Folder.+folder_at.Given as goal

abbrev pub decreases-folder_at : goal.decreases-folder_at
decreases-folder_at l = length l.path.now
