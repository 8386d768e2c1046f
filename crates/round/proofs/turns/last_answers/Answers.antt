use Rattle.std.proofs.Common.{subst}
use Rattle.std.specs.Option.{option_map}
use Rattle.keys.specs.Turns.{values}
use Rattle.node.specs.Graphs.{record_at}
use Rattle.round_nodes.specs.Members.{Answers}
use Rattle.round.proofs.Pausing.{last_one}
use Rattle.round.proofs.turns.last_answers.Goals as goal

pub returns : goal.returns
returns c = λ passed group q.
    subst (λ gs. Answers (record_at c.args.graph.now) gs (option_map (λ v. values v.items) c.in_ok-found.found))
    (last_one c.args.groups.now passed group c.saturating_sub-last.result q c.saturating_sub-last.ensures) c.in_ok-found.ensures
