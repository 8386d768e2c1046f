use Rattle.std.proofs.Common.{ap, sym, ◌∙◌}
use Rattle.std.specs.Arc.{arc_value}
use Rattle.evaluator_semantics.specs.Names.{or_else}
use Rattle.evaluator_state.specs.Sparse.{value_at, argument_at}
use Rattle.evaluator_state.proofs.SparseNames.{bind_place, bind_missing, just_bound, not_bound}
use Rattle.evaluator_state.proofs.sparse.SparseBlock.bind.Goals as goal

pub returns-in_ok-insert : goal.returns-in_ok-insert
returns-in_ok-insert c =
    bind_place (value_at c.args.self.now) (value_at (record c.args.self.now { bound = c.insert.new.self })) c.args.x.now c.args.value (arc_value c.args.self.now.def).names.items c.in-Some.place c.in-Some.ensures
    (λ y j apart. ap (λ o. or_else o (argument_at c.args.self.now y j)) (c.in_ok-insert.ensures.updates.0 j ∙ not_bound c.in-Some.place j c.args.value _ apart))
    (λ y. ap (λ o. or_else o (argument_at c.args.self.now y c.in-Some.place)) (c.in_ok-insert.ensures.updates.0 c.in-Some.place ∙ just_bound c.in-Some.place c.args.value _))

pub returns-in_default : goal.returns-in_default
returns-in_default c = sym (bind_missing (value_at c.args.self.now) 0 c.args.x.now c.args.value (arc_value c.args.self.now.def).names.items c.in_default.ensures)
