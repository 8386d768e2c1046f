use Rattle.std.proofs.Common.{ℕ, ap, sym, ◌∙◌, subst, arith, drop}
use Rattle.core.specs.Mem.Slots.{slots_items, slots_filled, slots_len, slots_counts}
use Rattle.keys.specs.Jobs.{Outcome, turns_made}
use Rattle.board.specs.Places.{HasRest, count_in}
use Rattle.board.specs.Rule.{total}
use Rattle.pool.proofs.Keeping.{none_left, all_left}
use Rattle.pool.proofs.board_close.close_board.Goals as goal

pub free-requires : goal.free-requires
free-requires g c = let slots = c.close.result.closed.slots in let all = c.close.ensures.all in (c.type_bounds.send-R-State, subst (λ (n : ℕ). HasRest (slots_filled slots) n (slots_len slots)) (sym all.0) all.2)

pub returns-clause-back : goal.returns-clause-back
returns-clause-back g c = let slots = c.close.result.closed.slots in let all = c.close.ensures.all in let counts = slots_counts slots in
    c.free.ensures ∙ (ap (λ (n : ℕ). total count_in (drop n (slots_items slots))) all.0 ∙ all_left c.args.host.seat.me.0 (slots_items slots) (c.requires.places ∙ (sym all.1 ∙ counts.0)) c.close.ensures.left)

pub returns-clause-answers : goal.returns-clause-answers
returns-clause-answers g c = λ none. let slots = c.close.result.closed.slots in let all = c.close.ensures.all in let counts = slots_counts slots in
    let wt : Outcome → ℕ = λ t. turns_made t.ending in let sum = c.close.ensures.answers wt in
    let nothing = none_left wt c.args.host.seat.me.0 (slots_items slots) none (c.requires.places ∙ (sym all.1 ∙ counts.0)) c.close.ensures.left in omega (arith, sum, nothing)
