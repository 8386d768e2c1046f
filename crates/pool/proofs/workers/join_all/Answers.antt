use Rattle.std.proofs.Common.{arith, ap, ◌∙◌, ◌≡◌, ◌++◌, ◌∷◌, [], All, length, length-append}
use Rattle.board.specs.Places.{IsHandAtRest}
use Rattle.board.specs.Rule.{total}
use Rattle.board.proofs.Looks.{all_before, all_last, all_snoc}
use Rattle.board.proofs.Moves.{total_snoc}
use Rattle.pool.specs.Serving.{made_in}
use Rattle.pool.proofs.workers.join_all.Goals as goal

pub loop-worker-preserved : goal.loop-worker-preserved
loop-worker-preserved g c = let i = c.loop-worker.invariant in let worker = c.in-Some.ensures.items in let rules = c.push_reserved.ensures.items in let hands = c.push_reserved-in-Some.ensures.items in
    let kept = c.join-own.ensures in let own = c.join-own.result.rules in let hand = c.join-own.result.hand in
    let a = ap length worker in let b = ap length rules in let d = ap length hands in
    let a' = length-append c.pop.new.self.items (c.in-Some.worker ∷ []) in let b' = length-append c.loop-worker.rules.items (own ∷ []) in let d' = length-append c.loop-worker.hands.items (hand ∷ []) in
    let i1 = i.rules_long in let i2 = i.hands_long in let i3 = i.rules_fit in let i4 = i.hands_fit in let i6 = i.counted in let k2 = kept.1 in
    let t = ap (total g.R.Rules.turns) rules in let t' = total_snoc g.R.Rules.turns c.loop-worker.rules.items own in
    let u = ap (total (λ w. g.R.Rules.turns w.promise.given.value)) worker in let u' = total_snoc (λ w. g.R.Rules.turns w.promise.given.value) c.pop.new.self.items c.in-Some.worker in
    let v = ap (total (λ h. made_in h.seat.me.0.answers)) hands in let v' = total_snoc (λ h. made_in h.seat.me.0.answers) c.loop-worker.hands.items hand in
    let workers : All (λ w. w.promise.board.now.table.shared.table_id ≡ c.args.board.now.table.shared.table_id) (c.pop.new.self.items ++ c.in-Some.worker ∷ []) = rw (← worker) i.here in
    let here = all_last (λ w. w.promise.board.now.table.shared.table_id ≡ c.args.board.now.table.shared.table_id) c.pop.new.self.items c.in-Some.worker workers in
    let cap_rules = c.push_reserved.ensures.capacity in let cap_hands = c.push_reserved-in-Some.ensures.capacity in record {
      here = all_before (λ w. w.promise.board.now.table.shared.table_id ≡ c.args.board.now.table.shared.table_id) c.pop.new.self.items c.in-Some.worker workers;
      rules_long = omega (arith, a, a', b, b', i1);
      hands_long = omega (arith, b, b', d, d', i2);
      rules_fit = omega (arith, cap_rules, i3);
      hands_fit = omega (arith, cap_hands, i4);
      seats = rw hands (all_snoc (λ h. IsHandAtRest c.args.board.now.table.shared.table_id h.seat) c.loop-worker.hands.items hand i.seats ((kept.0.0.0 ∙ here, kept.0.0.1, kept.0.0.2), kept.0.1));
      counted = omega (arith, t, t', u, u', v, v', i6, k2);
    }
