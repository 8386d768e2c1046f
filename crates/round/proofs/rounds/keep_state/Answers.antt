use Rattle.std.proofs.Common.{Option, Some, subst, sym, ◌∙◌}
use Rattle.indexmap.specs.IndexMap.{Updates}
use Rattle.keys.specs.Jobs.{Waits}
use Rattle.keys.specs.Keys.{key_eq}
use Rattle.keys.specs.declared.key.Key.{Key}
use Rattle.round.specs.NodeStates.{PutsState}
use Rattle.round.proofs.rounds.keep_state.Goals as goal

pub returns-in_ok-_before : goal.returns-in_ok-_before
returns-in_ok-_before g c = λ key same.
    let of_key = rw c.in-Some.is at same in
    subst (λ (o : Option Waits). PutsState c.args.kept.now c.insert.new.self key o) (sym c.in-Some.is)
    (subst (λ (k : Key). Updates key_eq c.args.kept.now c.insert.new.self k (Some c.in-Some.waiting)) (c.in_ok-key.ensures ∙ c.key.ensures ∙ of_key) c.in_ok-_before.ensures.updates)
