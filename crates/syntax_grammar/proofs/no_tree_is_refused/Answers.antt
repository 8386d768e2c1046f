use Rattle.syntax_grammar.proofs.Laws.{no_tree_refused}
use Rattle.syntax_grammar.proofs.no_tree_is_refused.Goals as goal

pub returns : goal.returns
returns c = no_tree_refused
