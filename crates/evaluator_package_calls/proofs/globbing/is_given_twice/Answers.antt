use Rattle.std.proofs.Common.{sym, ◌∙◌, arith}
use Rattle.evaluator_package_calls.proofs.Twice.{given_one, given_two, given_three}
use Rattle.evaluator_package_calls.proofs.globbing.is_given_twice.Goals as goal

pub returns-in-1 : goal.returns-in-1
returns-in-1 c = c.is_named.ensures ∙ sym (given_one c.args.xs.now c.args.ns.now c.in-1.is)

pub returns-in-2 : goal.returns-in-2
returns-in-2 c = c.names_two.ensures ∙ sym (given_two c.args.xs.now c.args.ns.now c.in-2.is)

pub returns-in_default : goal.returns-in_default
returns-in_default c = c.names_three.ensures ∙ sym (given_three c.args.xs.now c.args.ns.now (omega (arith, c.in_default)))
