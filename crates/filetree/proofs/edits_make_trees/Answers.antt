use Rattle.filetree.proofs.TreeLaws as trees
use Rattle.filetree.proofs.edits_make_trees.Goals as goal

pub returns : goal.returns
returns c = trees.edits_make_trees
