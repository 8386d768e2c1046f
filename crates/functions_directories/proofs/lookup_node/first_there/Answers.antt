use Rattle.std.proofs.Common.{◌∙◌, sym, ap}
use Rattle.std.specs.declared.sync.Arc.{Arc}
use Rattle.std.specs.declared.alloc.Global.{Global}
use Rattle.std.specs.Arc.{arc_value}
use Rattle.keys.specs.declared.value.Value.{Value}
use Rattle.keys.specs.declared.value.BuildName.TheVariants.{BuildBazel}
use Rattle.functions_directories.specs.Lookups.{is_there}
use Rattle.functions_directories.proofs.Lookups.{passed, found, past_answers}
use Rattle.functions_directories.proofs.lookup_node.first_there.Goals as goal

pub returns-then-i-answers : goal.returns-then-i-answers
returns-then-i-answers c = sym (c.loop-i.invariant ∙ past_answers _ c.args.answers.now c.loop-i.i c.if-i-answers.true)

pub returns-then-is_there : goal.returns-then-is_there
returns-then-is_there c =
    sym (c.loop-i.invariant
    ∙ found c.args.names.now c.args.answers.now c.loop-i.i _ c.index-answers-i.result c.loop-i-test.true c.if-i-answers.false
    (ap (λ (x : Arc Value Global). is_there (arc_value x)) (sym c.index-answers-i.is) ∙ ap is_there (sym c.deref.ensures) ∙ sym c.is_there.ensures ∙ c.if-is_there.true))

pub loop-i-preserved : goal.loop-i-preserved
loop-i-preserved c =
    c.loop-i.invariant
    ∙ passed c.args.names.now c.args.answers.now c.loop-i.i BuildBazel c.index-answers-i.result c.loop-i-test.true c.if-i-answers.false
    (ap (λ (x : Arc Value Global). is_there (arc_value x)) (sym c.index-answers-i.is) ∙ ap is_there (sym c.deref.ensures) ∙ sym c.is_there.ensures ∙ c.if-is_there.false)
