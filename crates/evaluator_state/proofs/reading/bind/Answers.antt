use Rattle.std.proofs.Common.{refl, List, sym, ap, ◌∙◌}
use Rattle.evaluator_semantics.specs.World.{Block, ended}
use Rattle.evaluator_state.specs.View.{world_of, here_of}
use Rattle.evaluator_state.proofs.Searches.{bind_local, bind_file}
use Rattle.evaluator_state.proofs.reading.bind.Goals as goal

pub returns-then-branch-clause-says : goal.returns-then-branch-clause-says
returns-then-branch-clause-says c = λ line running.
    let w = world_of c.args.state.now in
    bind_local c.args.x.now c.args.value (here_of c.args.at.now line running) w (sym c.in_ok-bind_among.ensures.had ∙ c.if-branch.true)
    ∙ ap (λ (bs : List Block). ended tt (record w { blocks = bs })) (sym c.in_ok-bind_among.ensures.bound)

pub returns-clause-says : goal.returns-clause-says
returns-clause-says c = λ line running. rw (bind_file c.args.x.now c.args.value (here_of c.args.at.now line running) (world_of c.args.state.now) (sym c.in_ok-bind_among.ensures.had ∙ c.if-branch.false), c.in_ok-bind_among.ensures.kept c.if-branch.false) (c.bind_global.ensures line running (world_of c.args.state.now) refl)
