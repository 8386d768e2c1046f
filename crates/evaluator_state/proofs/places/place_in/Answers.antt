use Rattle.evaluator_state.proofs.places.place_in.Goals as goal

pub returns-in_default : goal.returns-in_default
returns-in_default c = c.search-found.ensures
