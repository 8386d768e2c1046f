use Rattle.round.proofs.Pausing.{none_paused}
use Rattle.round.proofs.Following.{follows_none}
use Rattle.std.proofs.Common.{[], sym, subst}
use Rattle.keys.specs.Leaves as leaves
use Rattle.engine_semantics.specs.Value.{In}
use Rattle.node.proofs.Lists.{on_err}
use Rattle.round.specs.Since.{IsFresh}
use Rattle.round.proofs.Resting.{fresh_whole, fresh_out, fresh_made, fresh_true, roots_reached}
use Rattle.round.proofs.Rounding.{is_fresh}
use Rattle.round.proofs.rounds.Round.open.Goals as goal

pub returns-in_err-open_all-clause-stopped : goal.returns-in_err-open_all-clause-stopped
returns-in_err-open_all-clause-stopped g c =
    let n = c.new-table.ensures in
    let f : IsFresh c.new-table.result = is_fresh c.new-table.result n.nodes n.ready n.work n.runs in
    on_err c.from_residual.result (λ next laws past h. c.in_err-open_all.ensures.truth next laws past []
    (λ k i. roots_reached next (leaves.read c.args.tree.now) c.args.roots.items past c.args.graph.now h k (subst (In k) c.as_slice.ensures.value i))
    (fresh_true c.args.graph.now c.new-table.result f next (leaves.read c.args.tree.now) c.args.roots.items past h))

pub visit_all-requires : goal.visit_all-requires
visit_all-requires g c =
    let n = c.new-table.ensures in
    let f : IsFresh c.new-table.result = is_fresh c.new-table.result n.nodes n.ready n.work n.runs in
    record { whole = c.in_ok-open_all.ensures.wants.whole [] (fresh_whole c.args.graph.now c.new-table.result f) }

pub returns-in_err-visit_all-clause-stopped : goal.returns-in_err-visit_all-clause-stopped
returns-in_err-visit_all-clause-stopped g c =
    let n = c.new-table.ensures in
    let f : IsFresh c.new-table.result = is_fresh c.new-table.result n.nodes n.ready n.work n.runs in
    on_err c.from_residual-in_err-visit_all.result (λ next laws past h. c.in_err-visit_all.ensures.truth next laws past [] (c.in_ok-open_all.ensures.truth next laws past []
    (λ k i. roots_reached next (leaves.read c.args.tree.now) c.args.roots.items past c.args.graph.now h k (subst (In k) c.as_slice.ensures.value i))
    (fresh_true c.args.graph.now c.new-table.result f next (leaves.read c.args.tree.now) c.args.roots.items past h)))

pub returns-clause-beside : goal.returns-clause-beside
returns-clause-beside g c =
    let n = c.new-table.ensures in
    let f : IsFresh c.new-table.result = is_fresh c.new-table.result n.nodes n.ready n.work n.runs in
    let w = c.in_ok-open_all.ensures in
    let l = c.in_ok-visit_all.ensures in (
      record {
        whole = l.whole;
        none_pending = l.none;
        only_out = l.out c.new.result (w.wants.out c.new.result (fresh_out c.args.graph.now c.new-table.result f c.new.result));
        all_out = λ k i. elim (subst (In k) c.new.ensures i) [ ];
        wanted = λ k i. l.keeps k (w.wanted k (subst (In k) (sym c.as_slice.ensures.value) i));
      },
      none_paused c.visit_all.new.graph c.visit_all.new.table c.new-2.result c.new-2.ensures.empty,
    )

pub returns-clause-made : goal.returns-clause-made
returns-clause-made g c =
    let n = c.new-table.ensures in
    let f : IsFresh c.new-table.result = is_fresh c.new-table.result n.nodes n.ready n.work n.runs in
    c.in_ok-visit_all.ensures.turns 0 (c.in_ok-open_all.ensures.wants.turns 0 (fresh_made c.args.graph.now c.new-table.result f))

pub returns-clause-truth : goal.returns-clause-truth
returns-clause-truth g c = λ next laws past h.
    let n = c.new-table.ensures in
    let f : IsFresh c.new-table.result = is_fresh c.new-table.result n.nodes n.ready n.work n.runs in
    c.in_ok-visit_all.ensures.truth next laws past [] (c.in_ok-open_all.ensures.truth next laws past []
    (λ k i. roots_reached next (leaves.read c.args.tree.now) c.args.roots.items past c.args.graph.now h k (subst (In k) c.as_slice.ensures.value i))
    (fresh_true c.args.graph.now c.new-table.result f next (leaves.read c.args.tree.now) c.args.roots.items past h))

pub returns-clause-follows : goal.returns-clause-follows
returns-clause-follows g c = follows_none (record { roots = c.args.roots.items; table = c.visit_all.new.table; out = c.new.result }) c.new-2.result c.new-2.ensures.empty c.new.ensures
