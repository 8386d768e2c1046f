use Rattle.std.proofs.Common.{rules, ◌≡◌, ◌<◌, ◌≤◌, true, false, List, length, get_or, is_some, map, ap, sym, subst, ◌∙◌}
use Rattle.std.specs.Prelude.{slice_set}
use Rattle.evaluator_semantics.specs.Names.{slot_among, bind_in, bind_among}
use Rattle.evaluator_state.specs.declared.state.Block as m
use Rattle.evaluator_state.specs.View.{block_view}
use Rattle.evaluator_state.specs.Places.{NoneSo, has_slot}
use Rattle.evaluator_state.proofs.Searches.{none_more, among_there, among_none, bind_among_there, bind_among_none, none_of_all}
use Rattle.evaluator_state.proofs.blocks.bind_first.Goals as goal

pub returns-in_ok-bind_in-clause-had : goal.returns-in_ok-bind_in-clause-had
returns-in_ok-bind_in-clause-had c =
    let items = c.loop-i.blocks.items in
    let x = c.args.x.now in
    let i = c.loop-i.i in
    let b = c.index.result.now in
    let same : items ≡ c.args.blocks.now.items = c.loop-i.invariant.0 in
    let lt : i < length items = search rules in
    let here : b ≡ get_or items i b = c.index.ensures in
    let has : has_slot x (get_or items i b) ≡ true = subst (λ (v : m.Block). has_slot x v ≡ true) here (ap (λ o. is_some o) (sym c.slot_in.ensures) ∙ sym c.if-is_some.ensures) in
    subst (λ (l : List m.Block). true ≡ is_some (slot_among x (map block_view l))) same (sym (among_there x items i b lt c.loop-i.invariant.1 has))

pub returns-in_ok-bind_in-clause-bound : goal.returns-in_ok-bind_in-clause-bound
returns-in_ok-bind_in-clause-bound c =
    let items = c.loop-i.blocks.items in
    let x = c.args.x.now in
    let i = c.loop-i.i in
    let b = c.in-Some.block.now in
    let same : items ≡ c.args.blocks.now.items = c.loop-i.invariant.0 in
    let lt : i < length items = search rules in
    let here : b ≡ get_or items i b = c.in-Some.ensures.value in
    let first : c.index.result.now ≡ get_or items i b = search rules in
    let has : has_slot x (get_or items i b) ≡ true = subst (λ (v : m.Block). has_slot x v ≡ true) first (ap (λ o. is_some o) (sym c.slot_in.ensures) ∙ sym c.if-is_some.ensures) in
    let bound = bind_among_there x c.args.value items i b c.bind_in.new.block lt c.loop-i.invariant.1 has (c.in_ok-bind_in.ensures ∙ ap (λ (v : m.Block). bind_in x c.args.value (block_view v)) here) in
    subst (λ (l : List m.Block). map block_view (slice_set items i c.bind_in.new.block) ≡ bind_among x c.args.value (map block_view l)) same (sym bound)

pub loop-i-preserved : goal.loop-i-preserved
loop-i-preserved c =
    let items = c.loop-i.blocks.items in
    let x = c.args.x.now in
    let i = c.loop-i.i in
    let b = c.index.result.now in
    let lt : i < length items = search rules in
    let here : b ≡ get_or items i b = c.index.ensures in
    let none : has_slot x (get_or items i b) ≡ false = subst (λ (v : m.Block). has_slot x v ≡ false) here (ap (λ o. is_some o) (sym c.slot_in.ensures) ∙ sym c.if-is_some.ensures) in
    (c.loop-i.invariant.0, none_more (has_slot x) items i b lt c.loop-i.invariant.1 none)

pub returns-clause-had : goal.returns-clause-had
returns-clause-had c =
    let x = c.args.x.now in
    let same : c.loop-i.blocks.items ≡ c.args.blocks.now.items = c.loop-i.invariant.0 in
    let all : length c.loop-i.blocks.items ≤ c.loop-i.i = search rules in
    let none : NoneSo (has_slot x) c.args.blocks.now.items = subst (λ (l : List m.Block). NoneSo (has_slot x) l) same (none_of_all (has_slot x) c.loop-i.blocks.items c.loop-i.i all c.loop-i.invariant.1) in
    ap (λ o. is_some o) (sym (among_none x c.args.blocks.now.items none))

pub returns-clause-bound : goal.returns-clause-bound
returns-clause-bound c =
    let x = c.args.x.now in
    let same : c.loop-i.blocks.items ≡ c.args.blocks.now.items = c.loop-i.invariant.0 in
    let all : length c.loop-i.blocks.items ≤ c.loop-i.i = search rules in
    let none : NoneSo (has_slot x) c.args.blocks.now.items = subst (λ (l : List m.Block). NoneSo (has_slot x) l) same (none_of_all (has_slot x) c.loop-i.blocks.items c.loop-i.i all c.loop-i.invariant.1) in
    ap (map block_view) same ∙ sym (bind_among_none x c.args.value c.args.blocks.now.items none)

pub returns-clause-kept : goal.returns-clause-kept
returns-clause-kept c = λ _. c.loop-i.invariant.0
