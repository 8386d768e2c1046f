use Rattle.syntax_grammar.proofs.TargetRules.{by_rules}
use Rattle.syntax_grammar.proofs.targets_are_by_their_rules.Goals as goal

pub returns : goal.returns
returns c = by_rules
