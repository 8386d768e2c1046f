use Rattle.evaluator.proofs.FunctionLookups.{found_def, no_def}
use Rattle.evaluator.proofs.finding.function_in.Goals as goal

pub returns-in-Some : goal.returns-in-Some
returns-in-Some c = found_def c.args.name.now c.args.m.now.functions c.in-Some.function.now c.def.result.now c.in-Some.ensures c.def.ensures

pub returns-in-None : goal.returns-in-None
returns-in-None c = no_def c.args.name.now c.args.m.now.functions c.in-None.ensures
