use Rattle.syntax_grammar.proofs.Laws.{parse_tree, parse_refused}
use Rattle.functions.proofs.Parses.{tree_is, fault_is}
use Rattle.functions.proofs.file_laws.texts_are_read_by_the_grammar.Goals as goal

pub returns-clause-tree : goal.returns-clause-tree
returns-clause-tree c = λ kind bytes tree. (parse_tree kind bytes tree, tree_is kind bytes tree)

pub returns-clause-fault : goal.returns-clause-fault
returns-clause-fault c = λ kind bytes fault. (parse_refused kind bytes fault, fault_is kind bytes fault)
