use Rattle.std.proofs.Common.{true, false, Option, is_some, ap, sym, subst, ◌∙◌}
use denote.Bor.{Bor}
use Rattle.values_modules.specs.Values.{Body}
use Rattle.evaluator_semantics.specs.World.{Ends}
use Rattle.evaluator_semantics.specs.Environment.{thaw_body}
use Rattle.evaluator_state.specs.declared.state.FileNames.{FileNames}
use Rattle.evaluator_state.specs.View.{world_of, names_of, Ran}
use Rattle.evaluator_calls.proofs.Worlds.{needed, some_map}
use Rattle.evaluator_calls.proofs.naming.ensure_names.Goals as goal

pub returns-then-is_some-clause-says : goal.returns-then-is_some-clause-says
returns-then-is_some-clause-says c = λ env here is. needed env c.args.loads.now c.args.label.now here (world_of c.args.state.now) true is (sym (ap (λ o. is_some o) c.with_label.ensures) ∙ some_map (λ (f : Bor FileNames). names_of f.now) c.with_label.result ∙ sym c.if-is_some.ensures)

pub returns-in-Some-clause-says : goal.returns-in-Some-clause-says
returns-in-Some-clause-says c = λ env here is.
    let w = world_of c.args.state.now in
    subst (λ (o : Ends (Unit {0})). Ran here.site o c.thaw_names_of.result (world_of c.thaw_names_of.new.state)) (sym (needed env c.args.loads.now c.args.label.now here (world_of c.args.state.now) false is (sym (ap (λ o. is_some o) c.with_label.ensures) ∙ some_map (λ (f : Bor FileNames). names_of f.now) c.with_label.result ∙ sym c.if-is_some.ensures) ∙ ap (λ (o : Option Body). thaw_body o here w) (sym c.in-Some.ensures))) (c.thaw_names_of.ensures.says here)

pub returns-in-None-clause-says : goal.returns-in-None-clause-says
returns-in-None-clause-says c = λ env here is. needed env c.args.loads.now c.args.label.now here (world_of c.args.state.now) false is (sym (ap (λ o. is_some o) c.with_label.ensures) ∙ some_map (λ (f : Bor FileNames). names_of f.now) c.with_label.result ∙ sym c.if-is_some.ensures) ∙ ap (λ (o : Option Body). thaw_body o here (world_of c.args.state.now)) (sym c.in-None.ensures)
