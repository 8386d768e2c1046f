use Rattle.std.proofs.Common.{◌+◌, ◌*◌, length}
use Rattle.filetree.proofs.folder.+del_shared.Given as goal

abbrev pub decreases-del_shared : goal.decreases-del_shared
decreases-del_shared l = 3 * length l.path.now + 1

abbrev pub decreases-Folder::del_file : goal.decreases-Folder::del_file
decreases-Folder::del_file l = 3 * length l.path.now

abbrev pub decreases-del_in_folder : goal.decreases-del_in_folder
decreases-del_in_folder l = 3 * length l.rest.now + 2
