use Rattle.std.proofs.Common.{Some, sym, ap, ◌∙◌}
use Rattle.evaluator_semantics.specs.Names.{or_else, file_slot, names_at, read_slot}
use Rattle.evaluator_state.specs.View.{here_of}
use Rattle.evaluator_state.specs.Scope.{world_in}
use Rattle.evaluator_state.proofs.Searches.{read_is}
use Rattle.evaluator_state.proofs.reading.read_in_scope.Goals as goal

pub returns-in-Some-Some : goal.returns-in-Some-Some
returns-in-Some-Some c = λ line running store targets. let here = here_of c.args.scope.now.at.now line running in let w = world_in store c.args.scope.now targets in read_is c.args.x.now here w ∙ ap (λ o. read_slot o c.args.x.now here w) (sym c.slot_in_scope.ensures ∙ c.in-Some-Some.is ∙ ap (λ o. Some o) c.in-Some-Some.field-0-is)

pub returns-in-Some-None : goal.returns-in-Some-None
returns-in-Some-None c = λ line running store targets. let here = here_of c.args.scope.now.at.now line running in let w = world_in store c.args.scope.now targets in read_is c.args.x.now here w ∙ ap (λ o. read_slot o c.args.x.now here w) (sym c.slot_in_scope.ensures ∙ c.in-Some-None.is ∙ ap (λ o. Some o) c.in-Some-None.field-0-is)

pub returns-in-None : goal.returns-in-None
returns-in-None c = λ line running store targets. let here = here_of c.args.scope.now.at.now line running in let w = world_in store c.args.scope.now targets in rw (read_is c.args.x.now here w ∙ ap (λ o. read_slot o c.args.x.now here w) (sym c.slot_in_scope.ensures ∙ c.in-None.is)) (c.read_universal.ensures line running w)

pub returns-in-Some : goal.returns-in-Some
returns-in-Some c = λ line running store targets. let here = here_of c.args.scope.now.at.now line running in let w = world_in store c.args.scope.now targets in read_is c.args.x.now here w ∙ ap (λ o. read_slot (or_else o (file_slot c.args.x.now (names_at here.label w.files))) c.args.x.now here w) c.in-Some.ensures
