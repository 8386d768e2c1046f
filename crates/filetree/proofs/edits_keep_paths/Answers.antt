use Rattle.filetree.proofs.Lawful as lawful
use Rattle.filetree.proofs.edits_keep_paths.Goals as goal

pub returns : goal.returns
returns c = lawful.edits_keep_paths
