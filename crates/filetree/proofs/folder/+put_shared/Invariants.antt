use Rattle.std.proofs.Common.{◌+◌, ◌*◌, length}
use Rattle.filetree.proofs.folder.+put_shared.Given as goal

abbrev pub decreases-put_shared : goal.decreases-put_shared
decreases-put_shared l = 3 * length l.path.now + 1

abbrev pub decreases-Folder::put_file : goal.decreases-Folder::put_file
decreases-Folder::put_file l = 3 * length l.path.now

abbrev pub decreases-put_in_folder : goal.decreases-put_in_folder
decreases-put_in_folder l = 3 * length l.rest.now + 2
