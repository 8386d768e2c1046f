use Rattle.syntax_grammar.proofs.Laws.{one_tree}
use Rattle.syntax_grammar.proofs.no_text_has_two_trees.Goals as goal

pub returns : goal.returns
returns c = one_tree
