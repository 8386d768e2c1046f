use Rattle.std.proofs.Common.{List, ◌∷◌, [], Ok, Err, length, length-append, refl, ◌∙◌, sym, ap, subst, arith}
use Rattle.board.specs.Rule.{total}
use Rattle.board.proofs.Moves.{total_snoc}
use Rattle.keys.specs.declared.key.Key.{Key}
use Rattle.keys.specs.Leaves as leaves
use Rattle.node.proofs.Lists.{on_err}
use Rattle.round_nodes.specs.Invariants.{IsNext}
use Rattle.round.specs.Call.{Calls, HasOpenRoot, HasTurnToMake}
use Rattle.round.specs.Since.{IsTrueSinceSome}
use Rattle.pool.proofs.Ends.{if_ok, if_err, moved}
use Rattle.pool.proofs.evaluations.evaluate.Goals as goal

pub returns-in_err-first-clause-stopped : goal.returns-in_err-first-clause-stopped
returns-in_err-first-clause-stopped g c =
    let met = g.met.R.Rules g.world.𝓛 g.world.𝓜 g.world.𝓡 ((λ s x. x), (λ x. x), (λ x. x), λ x. x) in
    let laws : IsNext g.R.Rules.next = record { groups_differ = met.groups_differ; ends_plain = met.ends_plain } in
    let opened = subst (λ (rs : List Key). IsTrueSinceSome g.R.Rules.next (leaves.read c.args.tree.now) rs c.args.graph.now c.open.new.graph c.in_ok-round.round.table) c.in_ok-shared.ensures
    (λ laws past h. ([], c.in_ok-round.ensures.truth g.R.Rules.next laws past h)) in
    on_err c.from_residual-in_err-first.result (λ past h. c.in_err-first.ensures.stopped c.args.roots.now c.args.graph.now opened laws past h)

pub evaluate_with_workers-requires-clause-evaluation : goal.evaluate_with_workers-requires-clause-evaluation
evaluate_with_workers-requires-clause-evaluation g c κs within = let rests = c.in_ok-first.ensures.rests in record {
  rests = record { beside = rests.beside; none_out = rests.none_out; same_roots = refl; made = rests.made };
  within = c.in_ok-first.ensures.within;
  truth = moved (λ rs entry. IsTrueSinceSome g.R.Rules.next (leaves.read c.args.tree.now) rs entry c.make_first_turns.new.graph c.make_first_turns.new.round.table)
      c.make_first_turns.new.round.roots.items c.in_ok-shared.shared.items c.of-entry.result.value c.args.graph.now (sym (c.in_ok-first.ensures.rests.same_roots ∙ c.in_ok-round.ensures.begins.0)) (sym c.of-entry.ensures)
      (c.in_ok-first.ensures.truth c.in_ok-shared.shared.items c.args.graph.now (λ laws past h. ([], c.in_ok-round.ensures.truth g.R.Rules.next laws past h)));
}

pub returns-then-has_ready-clause-law : goal.returns-then-has_ready-clause-law
returns-then-has_ready-clause-law g c = if_ok c.evaluate_with_workers.result
    (λ done. moved (λ rs entry. Calls g.R.Rules.next (leaves.read c.args.tree.now) rs entry c.evaluate_with_workers.new.graph (Ok done.1.items)) c.args.roots.now c.make_first_turns.new.round.roots.items c.args.graph.now c.of-entry.result.value
    (c.in_ok-first.ensures.rests.same_roots ∙ c.in_ok-round.ensures.begins.0 ∙ c.in_ok-shared.ensures) c.of-entry.ensures) c.evaluate_with_workers.ensures.ended.law

pub returns-then-has_ready-clause-stopped : goal.returns-then-has_ready-clause-stopped
returns-then-has_ready-clause-stopped g c = if_err c.evaluate_with_workers.result
    (λ e. moved (λ rs entry. Calls g.R.Rules.next (leaves.read c.args.tree.now) rs entry c.evaluate_with_workers.new.graph (Err e)) c.args.roots.now c.make_first_turns.new.round.roots.items c.args.graph.now c.of-entry.result.value
    (c.in_ok-first.ensures.rests.same_roots ∙ c.in_ok-round.ensures.begins.0 ∙ c.in_ok-shared.ensures) c.of-entry.ensures) c.evaluate_with_workers.ensures.ended.stopped

pub returns-then-has_ready-clause-turns : goal.returns-then-has_ready-clause-turns
returns-then-has_ready-clause-turns g c =
    let before = ap (total g.R.Rules.turns) c.in-Some.ensures.items in let before' = total_snoc g.R.Rules.turns c.pop.new.self.items c.in-Some.own in
    let after = ap (total g.R.Rules.turns) c.push_reserved.ensures.items in let after' = total_snoc g.R.Rules.turns c.pop.new.self.items c.make_first_turns.new.rules in
    let counted = c.in_ok-first.ensures.counted in
    if_ok c.evaluate_with_workers.result (λ done turns. omega (arith, before, before', after, after', counted, turns)) c.evaluate_with_workers.ensures.turns

pub returns-then-has_ready-clause-hands : goal.returns-then-has_ready-clause-hands
returns-then-has_ready-clause-hands g c =
    let before = ap length c.in-Some.ensures.items in let before' = length-append c.pop.new.self.items (c.in-Some.own ∷ []) in
    let after = ap length c.push_reserved.ensures.items in let after' = length-append c.pop.new.self.items (c.make_first_turns.new.rules ∷ []) in
    if_ok c.evaluate_with_workers.result (λ done many. omega (arith, before, before', after, after', many)) c.evaluate_with_workers.ensures.hands

pub returns-then-has_ready-clause-budget : goal.returns-then-has_ready-clause-budget
returns-then-has_ready-clause-budget g c = λ e. moved (λ rs entry. HasOpenRoot g.R.Rules.next (leaves.read c.args.tree.now) rs entry c.evaluate_with_workers.new.graph)
    c.args.roots.now c.make_first_turns.new.round.roots.items c.args.graph.now c.of-entry.result.value (c.in_ok-first.ensures.rests.same_roots ∙ c.in_ok-round.ensures.begins.0 ∙ c.in_ok-shared.ensures) c.of-entry.ensures
    (c.evaluate_with_workers.ensures.ended.open_root e)

pub returns-then-has_ready-clause-spent : goal.returns-then-has_ready-clause-spent
returns-then-has_ready-clause-spent g c = λ e. moved (λ rs entry. HasTurnToMake g.R.Rules.next (leaves.read c.args.tree.now) rs entry c.evaluate_with_workers.new.graph)
    c.args.roots.now c.make_first_turns.new.round.roots.items c.args.graph.now c.of-entry.result.value (c.in_ok-first.ensures.rests.same_roots ∙ c.in_ok-round.ensures.begins.0 ∙ c.in_ok-shared.ensures) c.of-entry.ensures
    (c.evaluate_with_workers.ensures.ended.spent e)

pub returns-in_err-runs-clause-stopped : goal.returns-in_err-runs-clause-stopped
returns-in_err-runs-clause-stopped g c =
    let met = g.met.R.Rules g.world.𝓛 g.world.𝓜 g.world.𝓡 ((λ s x. x), (λ x. x), (λ x. x), λ x. x) in
    let laws : IsNext g.R.Rules.next = record { groups_differ = met.groups_differ; ends_plain = met.ends_plain } in
    let opened = subst (λ (rs : List Key). IsTrueSinceSome g.R.Rules.next (leaves.read c.args.tree.now) rs c.args.graph.now c.open.new.graph c.in_ok-round.round.table) c.in_ok-shared.ensures
    (λ laws past h. ([], c.in_ok-round.ensures.truth g.R.Rules.next laws past h)) in
    on_err c.from_residual-in_err-runs.result
    (λ past h. let t = c.in_ok-first.ensures.truth c.args.roots.now c.args.graph.now opened laws past h in c.in_err-runs.ensures.stopped (leaves.read c.args.tree.now) g.R.Rules.next laws past t.0 t.1)

pub returns-clause-law : goal.returns-clause-law
returns-clause-law g c = λ past h.
    let met = g.met.R.Rules g.world.𝓛 g.world.𝓜 g.world.𝓡 ((λ s x. x), (λ x. x), (λ x. x), λ x. x) in
    let laws : IsNext g.R.Rules.next = record { groups_differ = met.groups_differ; ends_plain = met.ends_plain } in
    let opened = subst (λ (rs : List Key). IsTrueSinceSome g.R.Rules.next (leaves.read c.args.tree.now) rs c.args.graph.now c.open.new.graph c.in_ok-round.round.table) c.in_ok-shared.ensures
    (λ laws past h. ([], c.in_ok-round.ensures.truth g.R.Rules.next laws past h)) in
    let t = c.in_ok-first.ensures.truth c.args.roots.now c.args.graph.now opened laws past h in
    c.in_ok-runs.ensures.law (leaves.read c.args.tree.now) g.R.Rules.next laws past t.0 (h.of_roots ∙ sym (c.in_ok-first.ensures.rests.same_roots ∙ c.in_ok-round.ensures.begins.0 ∙ c.in_ok-shared.ensures)) t.1

pub returns-clause-turns : goal.returns-clause-turns
returns-clause-turns g c =
    let before = ap (total g.R.Rules.turns) c.in-Some.ensures.items in let before' = total_snoc g.R.Rules.turns c.pop.new.self.items c.in-Some.own in
    let after = ap (total g.R.Rules.turns) c.push_reserved.ensures.items in let after' = total_snoc g.R.Rules.turns c.pop.new.self.items c.make_first_turns.new.rules in
    let counted = c.in_ok-first.ensures.counted in let made = c.in_ok-runs.ensures.made c.in_ok-first.first c.in_ok-first.ensures.rests.made in omega (arith, before, before', after, after', counted, made)

pub returns-clause-within : goal.returns-clause-within
returns-clause-within g c = let made = c.in_ok-runs.ensures.made c.in_ok-first.first c.in_ok-first.ensures.rests.made in let within = c.in_ok-first.ensures.within in omega (arith, made, within)
