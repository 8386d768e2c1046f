use Rattle.std.proofs.Common.{◌≡◌, drop, map}
use Rattle.syntax_tree.specs.Statements.{param_of}
use Rattle.syntax_grammar.specs.Targets.{has_name}
use Rattle.syntax.proofs.parameters.has_name.Given as goal

abbrev pub invariant-loop-p : goal.invariant-loop-p
invariant-loop-p l = has_name (map param_of (drop l.p-index l.params)) l.name ≡ has_name (map param_of l.params) l.name
