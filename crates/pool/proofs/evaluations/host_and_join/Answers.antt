use Rattle.std.proofs.Common.{◌≡◌, ◌+◌, ◌++◌, ◌∷◌, [], All, length, length-append, ap, refl, ◌∙◌, arith}
use Rattle.std.specs.Prelude.{vec_capacity}
use Rattle.board.specs.Places.{IsNewHand, IsHandAtRest}
use Rattle.board.specs.Rule.{total}
use Rattle.board.proofs.Looks.{all_before, all_last, all_snoc}
use Rattle.board.proofs.Moves.{total_snoc}
use Rattle.board.specs.declared.view.View.{View}
use Rattle.keys.specs.Jobs.{JobView, Outcome}
use Rattle.pool.specs.Serving.{made_in, jobs_out}
use Rattle.round_nodes.specs.Invariants.{IsNext}
use Rattle.pool.proofs.Ends.{memory_is_not_budget, if_ok, on_ok, all_rest, none_made, own_hands}
use Rattle.pool.proofs.Keeping.{rep_long}
use Rattle.pool.proofs.evaluations.host_and_join.Goals as goal

pub returns-in-Err : goal.returns-in-Err
returns-in-Err g c = let s = c.requires.seats in let host = s.host in let board = c.args.context.now.board.now in record {
  ended = record {
    law = tt;
    within = tt;
    stopped = λ past h.
        let met = g.met.R.Rules g.world.𝓛 g.world.𝓜 g.world.𝓡 ((λ s x. x), (λ x. x), (λ x. x), λ x. x) in
        let laws : IsNext g.R.Rules.next = record { groups_differ = met.groups_differ; ends_plain = met.ends_plain } in
        (c.requires.evaluation.truth laws past h).1.after;
    open_root = λ e. absurd (memory_is_not_budget e);
    spent = λ e. absurd (memory_is_not_budget e);
  };
  made_all = λ e. absurd (memory_is_not_budget e);
  host_rests = (host.0, (ap (λ m. m.0.using) host.1, ap (λ m. m.1) host.1));
  hands_rest = all_rest board.table.shared.table_id c.args.seats.hands.items s.hands;
  staffed = (s.paired, ap (λ m. m.0.hands) host.1, refl);
  sized = (ap (λ m. length m.0.out) host.1 ∙ rep_long board.capacity _, ap (λ m. m.0.answers) host.1);
  done = tt;
  made = tt;
}

pub returns : goal.returns
returns g c = let e = c.host_loop-ended.ensures in let seats = c.requires.seats in let host = seats.host in let shut = c.shut.ensures.shut in let joined = c.join_all-rules.ensures in let parts = c.divide-state.ensures in
    let board = c.args.context.now.board.now in let id = board.table.shared.table_id in let begun = c.divide-state.result in let own = begun.own in let others = begun.crew.rules in let seats_left = begun.crew.hands in let last = c.host_loop-ended.new.state.own in
    let none = none_made id c.args.seats.hands.items seats.hands in let none' = ap (total (λ h. made_in h.seat.me.0.answers)) parts.hands.0 in let none'' = total_snoc (λ h. made_in h.seat.me.0.answers) seats_left.items own.hand in
    let no_worker_yet : begun.crew.workers.items ≡ [] = rw parts.workers c.in-Ok.ensures.0 in
    let many = joined.as_many.0 in let same = joined.as_many.1 in let sized = e.state.kept.sized in let no_worker = ap length no_worker_yet in
    let given = ap length parts.rules.0 in let given' = length-append others.items (own.rules ∷ []) in
    let rules = c.push_reserved.ensures.items in let hands = c.push_reserved-2.ensures.items in
    let rules_long = ap length rules in let rules_long' = length-append c.join_all-rules.result.0.items (last.rules ∷ []) in
    let hands_long = ap length hands in let hands_long' = length-append c.join_all-rules.result.1.items (last.hand ∷ []) in
    let turned = joined.turns in let counted = e.state.kept.counted in
    let no_turn = ap (total (λ w. g.R.Rules.turns w.promise.given.value)) no_worker_yet in
    let before = ap (total g.R.Rules.turns) parts.rules.0 in let before' = total_snoc g.R.Rules.turns others.items own.rules in
    let after = ap (total g.R.Rules.turns) rules in let after' = total_snoc g.R.Rules.turns c.join_all-rules.result.0.items last.rules in
    let answers = ap (total (λ h. made_in h.seat.me.0.answers)) hands in let answers' = total_snoc (λ h. made_in h.seat.me.0.answers) c.join_all-rules.result.1.items last.hand in
    let first = parts.made in
    record {
      ended = e.ended;
      made_all = λ x. let m = e.counted.spent x in (ap (λ (v : View JobView Outcome). jobs_out v) shut ∙ m.0, ap (λ (v : View JobView Outcome). last.made + made_in v.collected) shut ∙ m.1);
      host_rests = c.shut.ensures.host;
      hands_rest = rw hands (all_snoc (λ h. IsHandAtRest id h.seat) c.join_all-rules.result.1.items last.hand joined.hands e.state.hand);
      staffed = (
        omega (arith, many, same, sized, no_worker, given, given', hands_long, hands_long'),
        ap (λ (v : View JobView Outcome). v.hands) shut ∙ (e.state.host.1.1 ∙ (ap (λ h. h.seat.me.0.hands) parts.host ∙ ap (λ m. m.0.hands) host.1)),
        omega (arith, many, sized, no_worker, given, given', rules_long, rules_long'),
      );
      sized = (
        ap (λ (v : View JobView Outcome). length v.out) shut ∙ (e.state.host.1.0 ∙ (ap (λ h. length h.seat.me.0.out) parts.host ∙ (ap (λ m. length m.0.out) host.1 ∙ rep_long board.capacity _))),
        ap (λ (v : View JobView Outcome). v.answers) shut ∙ (e.state.host.1.2 ∙ (ap (λ h. h.seat.me.0.answers) parts.host ∙ ap (λ m. m.0.answers) host.1)),
      );
      done = if_ok c.host_loop-ended.result (λ runs b. (ap (λ (v : View JobView Outcome). jobs_out v) shut ∙ b.0, ap (λ (v : View JobView Outcome). last.made + made_in v.collected) shut ∙ b.1)) e.counted.done;
      made = on_ok c.host_loop-ended.result (λ mine. omega (arith, turned, counted, mine, no_turn, before, before', after, after', answers, answers', none, none', none'', first)) e.own;
    }

pub host_loop-ended-requires-clause-state : goal.host_loop-ended-requires-clause-state
host_loop-ended-requires-clause-state g c κs within = let given = c.requires.seats in let parts = c.divide-state.ensures in let begun = c.divide-state.result in let own = begun.own in let others = begun.crew.rules in let seats_left = begun.crew.hands in
    let board = c.args.context.now.board.now in let id = board.table.shared.table_id in
    let no_worker_yet : begun.crew.workers.items ≡ [] = rw parts.workers c.in-Ok.ensures.0 in
    let none = ap length no_worker_yet in let room = c.in-Ok.ensures.1 in let many = c.len.ensures in
    let rules = ap length parts.rules.0 in let rules' = length-append others.items (own.rules ∷ []) in let hands = ap length parts.hands.0 in let hands' = length-append seats_left.items (own.hand ∷ []) in
    let paired = given.paired in let fits = c.args.seats.rules.ok in let fits' = c.args.seats.hands.ok in let cap = parts.rules.1 in let cap' = parts.hands.1 in let cap'' = ap vec_capacity parts.workers in
    let rest = all_rest id c.args.seats.hands.items given.hands in
    let at_rest : All (λ h. IsHandAtRest id h.seat) (seats_left.items ++ own.hand ∷ []) = rw (← parts.hands.0) rest in
    let new : All (λ h. IsNewHand id h.seat) (seats_left.items ++ own.hand ∷ []) = rw (← parts.hands.0) given.hands in record {
      host = rw parts.host (own_hands id c.args.seats.host board.capacity (length c.args.seats.rules.items) given.host);
      places = given.places;
      crew = record {
        paired = omega (arith, rules, rules', hands, hands', paired);
        here = λ k d l. absurd (omega (arith, l, none));
        seats = all_before (λ h. IsHandAtRest id h.seat) seats_left.items own.hand at_rest;
        rules_fit = omega (arith, none, fits, cap, rules, rules');
        hands_fit = omega (arith, none, fits', cap', paired, rules, rules', hands, hands');
        workers_fit = omega (arith, none, room, many, rules, rules', cap'');
      };
      new = all_before (λ h. IsNewHand id h.seat) seats_left.items own.hand new;
      none = none;
      hand = all_last (λ h. IsHandAtRest id h.seat) seats_left.items own.hand at_rest;
      made = parts.made;
    }
