use Rattle.std.proofs.Common.{lit<}
use Rattle.std.proofs.lemmas.Str.Pattern.{split_parts}
use Rattle.filetree.proofs.Slashes.{split_told}
use Rattle.filetree.proofs.folder.split_name.Goals as goal

pub returns : goal.returns
returns c = split_told c.args.path.now c.split_once.result (split_parts 47 c.args.path.now c.split_once.result c.split_once.ensures.cases (lit< tt))
