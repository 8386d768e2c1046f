use denote.Exit.{no}
use mir.Syntax.{named}
use denote.Param.Send.{param_send, arg_send, sendable}
use denote.Param.{param}
use denote.Plain.{UInt}
use Rattle.std.proofs.Common.{w64, arith, ap, ◌∙◌, ◌≡◌, ◌++◌, ◌∷◌, [], All, length, length-append}
use Rattle.board.specs.Places.{IsNewHand, IsHandAtRest}
use Rattle.board.specs.Rule.{total}
use Rattle.board.proofs.Looks.{all_before, all_last, all_snoc}
use Rattle.board.proofs.Moves.{total_snoc}
use Rattle.pool.specs.Serving.{made_in}
use Rattle.pool.proofs.Crossing.{taken_send, back_send}
use Rattle.pool.proofs.workers.spawn_worker.Goals as goal

pub spawn_with-hired-requires-send-F : goal.spawn_with-hired-requires-send-F
spawn_with-hired-requires-send-F g c κs within =
    param_send 2 _ (arg_send _ no _ (taken_send (param 1 g.row.R) (param 3 g.row.R-State) g.R.Rules c.type_bounds.send-R-State g.row.T (UInt w64) _
    (record { mir = named 6; lft = κs.1.1.1.1.1.1.0 }) (record { mir = named 7; lft = κs.1.1.1.1.1.1.1.0 }) (record { mir = named 8; lft = κs.1.1.1.1.1.1.1.1.0 }) c.type_bounds.sync-T c.type_bounds.send-R (search sendable)))

pub spawn_with-hired-requires-send-T : goal.spawn_with-hired-requires-send-T
spawn_with-hired-requires-send-T g c κs within =
    param_send 3 _ (arg_send _ no _ (back_send (param 1 g.row.R) (param 3 g.row.R-State) g.R.Rules c.type_bounds.send-R-State c.type_bounds.send-R))

pub returns-in-Ok-clause-new : goal.returns-in-Ok-clause-new
returns-in-Ok-clause-new g c = let hand = c.in-Some-pop.ensures.items in
    all_before (λ h. IsNewHand c.args.context.now.board.now.table.shared.table_id h.seat) c.pop-2.new.self.items c.in-Some-pop.hand (rw (← hand) c.requires.new)

pub returns-in-Ok-clause-crew : goal.returns-in-Ok-clause-crew
returns-in-Ok-clause-crew g c = let i = c.requires.crew in let own = c.in-Some.ensures.items in let hand = c.in-Some-pop.ensures.items in let worker = c.push_reserved.ensures.items in
    let promise = c.in-Ok.ensures.ok in
    let a = ap length own in let b = ap length hand in let d = ap length worker in
    let a' = length-append c.pop.new.self.items (c.in-Some.own ∷ []) in let b' = length-append c.pop-2.new.self.items (c.in-Some-pop.hand ∷ []) in let d' = length-append c.args.crew.now.workers.items (c.in-Ok.worker ∷ []) in
    let i1 = i.paired in let i3 = i.rules_fit in let i4 = i.hands_fit in let i5 = i.workers_fit in
    let t = ap (total g.R.Rules.turns) own in let t' = total_snoc g.R.Rules.turns c.pop.new.self.items c.in-Some.own in
    let u = ap (total (λ w. g.R.Rules.turns w.promise.given.value)) worker in let u' = total_snoc (λ w. g.R.Rules.turns w.promise.given.value) c.args.crew.now.workers.items c.in-Ok.worker in
    let v = ap (total (λ h. made_in h.seat.me.0.answers)) hand in let v' = total_snoc (λ h. made_in h.seat.me.0.answers) c.pop-2.new.self.items c.in-Some-pop.hand in
    let given : g.R.Rules.turns c.in-Ok.worker.promise.given.value ≡ g.R.Rules.turns c.in-Some.own = ap (λ p. g.R.Rules.turns p.given.value) promise ∙ ap g.R.Rules.turns c.of.ensures in
    let all_new : All (λ h. IsNewHand c.args.context.now.board.now.table.shared.table_id h.seat) (c.pop-2.new.self.items ++ c.in-Some-pop.hand ∷ []) = rw (← hand) c.requires.new in
    let last_new = all_last (λ h. IsNewHand c.args.context.now.board.now.table.shared.table_id h.seat) c.pop-2.new.self.items c.in-Some-pop.hand all_new in
    let none : made_in c.in-Some-pop.hand.seat.me.0.answers ≡ 0 = ap (λ m. made_in m.0.answers) last_new.1 in
    let seats : All (λ h. IsHandAtRest c.args.context.now.board.now.table.shared.table_id h.seat) (c.pop-2.new.self.items ++ c.in-Some-pop.hand ∷ []) = rw (← hand) i.seats in
    let cap_rules = c.in-Some.ensures.capacity in let cap_hands = c.in-Some-pop.ensures.capacity in let cap_workers = c.push_reserved.ensures.capacity in (
      record {
        paired = omega (arith, a, a', b, b', i1);
        here = rw worker (all_snoc (λ w. w.promise.board.now.table.shared.table_id ≡ c.args.context.now.board.now.table.shared.table_id) c.args.crew.now.workers.items c.in-Ok.worker i.here (ap (λ p. p.board.now.table.shared.table_id) promise));
        seats = all_before (λ h. IsHandAtRest c.args.context.now.board.now.table.shared.table_id h.seat) c.pop-2.new.self.items c.in-Some-pop.hand seats;
        rules_fit = omega (arith, a, a', d, d', i3, cap_rules);
        hands_fit = omega (arith, a, a', d, d', i4, cap_hands);
        workers_fit = omega (arith, a, a', d, d', i5, cap_workers);
      },
      record { sized = omega (arith, a, a', d, d'); counted = omega (arith, t, t', u, u', v, v', given, none) },
    )

pub returns-in-Err-clause-crew : goal.returns-in-Err-clause-crew
returns-in-Err-clause-crew g c = let i = c.requires.crew in let own = c.in-Some.ensures.items in let hand = c.in-Some-pop.ensures.items in
    let rules = c.push_reserved-in-Err.ensures.items in let hands = c.push_reserved-in-Err-2.ensures.items in let seat = c.spawn_with-rules.ensures.seat in let counted = c.spawn_with-rules.ensures.counted in
    let same_board = ap (λ f. f.1.now.table.shared.table_id) c.in-Err.ensures.err in let same_rules = ap (λ f. g.R.Rules.turns f.4) c.in-Err.ensures.err in
    let t = ap (total g.R.Rules.turns) own in let t' = total_snoc g.R.Rules.turns c.pop.new.self.items c.in-Some.own in
    let u = ap (total g.R.Rules.turns) rules in let u' = total_snoc g.R.Rules.turns c.pop.new.self.items c.spawn_with-rules.result.rules in
    let v = ap (total (λ h. made_in h.seat.me.0.answers)) hand in let v' = total_snoc (λ h. made_in h.seat.me.0.answers) c.pop-2.new.self.items c.in-Some-pop.hand in
    let x = ap (total (λ h. made_in h.seat.me.0.answers)) hands in let x' = total_snoc (λ h. made_in h.seat.me.0.answers) c.pop-2.new.self.items c.spawn_with-rules.result.hand in
    let all_new : All (λ h. IsNewHand c.args.context.now.board.now.table.shared.table_id h.seat) (c.pop-2.new.self.items ++ c.in-Some-pop.hand ∷ []) = rw (← hand) c.requires.new in
    let last_new = all_last (λ h. IsNewHand c.args.context.now.board.now.table.shared.table_id h.seat) c.pop-2.new.self.items c.in-Some-pop.hand all_new in
    let none : made_in c.in-Some-pop.hand.seat.me.0.answers ≡ 0 = ap (λ m. made_in m.0.answers) last_new.1 in
    let a = ap length own in let b = ap length hand in let d = ap length rules in let e = ap length hands in
    let a' = length-append c.pop.new.self.items (c.in-Some.own ∷ []) in let b' = length-append c.pop-2.new.self.items (c.in-Some-pop.hand ∷ []) in
    let d' = length-append c.pop.new.self.items (c.spawn_with-rules.result.rules ∷ []) in let e' = length-append c.pop-2.new.self.items (c.spawn_with-rules.result.hand ∷ []) in
    let i1 = i.paired in let i3 = i.rules_fit in let i4 = i.hands_fit in let i5 = i.workers_fit in
    let cap_rules = c.in-Some.ensures.capacity in let cap_hands = c.in-Some-pop.ensures.capacity in let cap_rules2 = c.push_reserved-in-Err.ensures.capacity in let cap_hands2 = c.push_reserved-in-Err-2.ensures.capacity in
    let seats : All (λ h. IsHandAtRest c.args.context.now.board.now.table.shared.table_id h.seat) (c.pop-2.new.self.items ++ c.in-Some-pop.hand ∷ []) = rw (← hand) i.seats in
    let before = all_before (λ h. IsHandAtRest c.args.context.now.board.now.table.shared.table_id h.seat) c.pop-2.new.self.items c.in-Some-pop.hand seats in (
      record {
        paired = omega (arith, a, a', b, b', d, d', e, e', i1);
        here = i.here;
        seats = rw hands (all_snoc (λ h. IsHandAtRest c.args.context.now.board.now.table.shared.table_id h.seat) c.pop-2.new.self.items c.spawn_with-rules.result.hand before ((seat.0.0 ∙ same_board, seat.0.1, seat.0.2), seat.1));
        rules_fit = omega (arith, a, a', d, d', i3, cap_rules, cap_rules2);
        hands_fit = omega (arith, a, a', d, d', i4, cap_hands, cap_hands2);
        workers_fit = omega (arith, a, a', d, d', i5);
      },
      record { sized = omega (arith, a, a', d, d'); counted = omega (arith, t, t', u, u', v, v', x, x', none, counted, same_rules) },
    )
