use Rattle.std.proofs.Common.{map}
use Rattle.std.specs.Arc.{arc_value}
use Rattle.syntax_tree.specs.Statements.{top_of}
use Rattle.evaluator_semantics.specs.Environment.{defs}
use Rattle.evaluator.proofs.FunctionLookups.{found_def, no_def}
use Rattle.evaluator.proofs.finding.own_function.Goals as goal

pub returns-in-Some : goal.returns-in-Some
returns-in-Some c = found_def c.args.name.now (defs (map top_of (arc_value c.args.e.now.file).tops.items)) c.in-Some.function.now c.def.result.now c.in-Some.ensures c.def.ensures

pub returns-in-None : goal.returns-in-None
returns-in-None c = no_def c.args.name.now (defs (map top_of (arc_value c.args.e.now.file).tops.items)) c.in-None.ensures
