use Rattle.std.proofs.Common.{rules, ◌≡◌, ◌<◌, true, length, get_or, ap, sym, subst, ◌∙◌}
use Rattle.evaluator_semantics.specs.Names.{bind_in}
use Rattle.evaluator_state.specs.declared.state.Block as m
use Rattle.evaluator_state.specs.View.{block_view}
use Rattle.evaluator_state.specs.Places.{has_slot}
use Rattle.evaluator_state.proofs.Searches.{among_there, bind_among_there}
use Rattle.evaluator_state.proofs.blocks.bind_innermost.Goals as goal

pub returns-in-Some-clause-had : goal.returns-in-Some-clause-had
returns-in-Some-clause-had c = λ e.
    let items = c.args.blocks.now.items in
    let x = c.args.x.now in
    let b = c.in-Some.block.now in
    let lt : 0 < length items = search rules in
    let here : b ≡ get_or items 0 b = c.in-Some.ensures.value in
    let has : has_slot x (get_or items 0 b) ≡ true = subst (λ (v : m.Block). has_slot x v ≡ true) here (c.bind_there.ensures.had e) in
    among_there x items 0 b lt tt has

pub returns-in-Some-clause-bound : goal.returns-in-Some-clause-bound
returns-in-Some-clause-bound c = λ e.
    let items = c.args.blocks.now.items in
    let x = c.args.x.now in
    let b = c.in-Some.block.now in
    let lt : 0 < length items = search rules in
    let here : b ≡ get_or items 0 b = c.in-Some.ensures.value in
    let has : has_slot x (get_or items 0 b) ≡ true = subst (λ (v : m.Block). has_slot x v ≡ true) here (c.bind_there.ensures.had e) in
    sym (bind_among_there x c.args.value items 0 b c.bind_there.new.block lt tt has (c.bind_there.ensures.bound e ∙ ap (λ (v : m.Block). bind_in x c.args.value (block_view v)) here))
