use Rattle.std.proofs.Common.{[], ◌∷◌, ◌∙◌, ◌+◌, refl, ap, subst, IfSome}
use Rattle.engine_semantics.specs.Choices.{Back}
use Rattle.keys.specs.Leaves as leaves
use Rattle.node.specs.Edges.{IsRemoved}
use Rattle.round_nodes.specs.Nodes.{node_at}
use Rattle.round.specs.NodeStates.{IsPaused}
use Rattle.round.proofs.Framing.{frame_on_but}
use Rattle.round.proofs.JobsOut.{taken_out}
use Rattle.round.proofs.Pausing.{paused_on, are_paused_on, kept_paused, keeps_of, jobs_stay, of_key}
use Rattle.round.proofs.Wanting.{leads_err}
use Rattle.round.specs.Rounds.{round_view}
use Rattle.round.proofs.Following.{follows_back}
use Rattle.round.proofs.Rounding.{out_removed, out_still}
use Rattle.round.proofs.rounds.Round.take_known.Goals as goal

pub returns-in_err-paused-clause-truth : goal.returns-in_err-paused-clause-truth
returns-in_err-paused-clause-truth g c =
    leads_err (Back c.args.turned.asked.key ∷ []) g.R.Rules.next (leaves.read c.args.tree.now) c.args.graph.now c.accept_turn.new.graph c.args.self.now.table c.accept_turn.new.table c.from_residual.result c.from_residual.ensures.0
    (λ laws past cs t. c.in_err-paused.ensures.truth (leaves.read c.args.tree.now) laws past cs t)

pub returns-in_err-visit_all-clause-truth : goal.returns-in_err-visit_all-clause-truth
returns-in_err-visit_all-clause-truth g c =
    leads_err (Back c.args.turned.asked.key ∷ []) g.R.Rules.next (leaves.read c.args.tree.now) c.args.graph.now c.visit_all.new.graph c.args.self.now.table c.visit_all.new.table c.from_residual-in_err-visit_all.result c.from_residual-in_err-visit_all.ensures.0
    (λ laws past cs t. c.in_err-visit_all.ensures.truth g.R.Rules.next laws past (Back c.args.turned.asked.key ∷ cs) (c.in_ok-paused.ensures.truth (leaves.read c.args.tree.now) laws past cs t))

pub returns-in_err-keep_state-clause-truth : goal.returns-in_err-keep_state-clause-truth
returns-in_err-keep_state-clause-truth g c =
    leads_err (Back c.args.turned.asked.key ∷ []) g.R.Rules.next (leaves.read c.args.tree.now) c.args.graph.now c.visit_all.new.graph c.args.self.now.table c.visit_all.new.table c.from_residual-in_err-keep_state.result c.from_residual-in_err-keep_state.ensures.0
    (λ laws past cs t. (c.in_ok-visit_all.ensures.truth g.R.Rules.next laws past (Back c.args.turned.asked.key ∷ cs) (c.in_ok-paused.ensures.truth (leaves.read c.args.tree.now) laws past cs t)).after)

pub remove-requires : goal.remove-requires
remove-requires g c = let o = c.requires.out in c.requires.beside.0.only_out c.key.result.now o.node (ap (node_at c.args.self.now.table.nodes) c.key.ensures ∙ o.there) o.out

pub returns-clause-beside : goal.returns-clause-beside
returns-clause-beside g c =
    let l = c.in_ok-visit_all.ensures in
    let t = c.in_ok-paused.ensures in
    let b = c.requires.beside.0 in
    let removed : IsRemoved c.args.self.now.out c.remove.new.self c.args.turned.asked.key = taken_out c.args.self.now.out c.remove.new.self c.key.result.now c.args.turned.asked.key c.key.ensures c.remove.ensures in
    let f = frame_on_but c.args.turned.asked.key c.args.graph.now c.accept_turn.new.graph c.visit_all.new.graph c.args.self.now.table c.accept_turn.new.table c.visit_all.new.table t.frame l.frame in (
      record {
        whole = l.whole;
        none_pending = l.none;
        only_out = l.out c.remove.new.self (t.back.0 c.remove.new.self
            (out_removed c.args.self.now.table.nodes c.args.self.now.out c.remove.new.self c.args.turned.asked.key c.args.turned.asked.key refl removed b.only_out));
        all_out = out_still c.args.self.now.table c.visit_all.new.table c.args.turned.asked.key c.args.self.now.out c.remove.new.self f.2 removed b.all_out;
        wanted = λ k i. l.keeps k (t.keeps k (b.wanted k i));
      },
      kept_paused c.visit_all.new.graph c.visit_all.new.table c.args.self.now.kept c.keep_state.new.kept c.args.turned.asked.key c.in_ok-paused.paused
          (keeps_of c.args.self.now.kept c.keep_state.new.kept c.args.turned.asked.key c.in_ok-paused.paused (c.in_ok-keep_state.ensures c.args.turned.asked.key (of_key c.accept_turn.new.graph c.accept_turn.new.table c.args.turned.asked.key c.in_ok-paused.paused t.paused)))
          (are_paused_on c.args.graph.now c.visit_all.new.graph c.args.self.now.table c.visit_all.new.table c.args.self.now.kept
          (f.0, f.1) c.requires.beside.1)
          (λ w e. paused_on c.accept_turn.new.graph c.visit_all.new.graph c.accept_turn.new.table c.visit_all.new.table (l.frame.0, l.frame.1) c.args.turned.asked.key w
          (subst (λ o. IfSome o (λ x. IsPaused c.accept_turn.new.graph c.accept_turn.new.table c.args.turned.asked.key x)) e t.paused)),
    )

pub returns-clause-truth : goal.returns-clause-truth
returns-clause-truth g c = λ laws past cs t.
    c.in_ok-visit_all.ensures.truth g.R.Rules.next laws past (Back c.args.turned.asked.key ∷ cs) (c.in_ok-paused.ensures.truth (leaves.read c.args.tree.now) laws past cs t)

pub returns-clause-others : goal.returns-clause-others
returns-clause-others g c = λ job other o.
    let l = c.in_ok-visit_all.ensures in
    let t = c.in_ok-paused.ensures in
    let f = frame_on_but c.args.turned.asked.key c.args.graph.now c.accept_turn.new.graph c.visit_all.new.graph c.args.self.now.table c.accept_turn.new.table c.visit_all.new.table t.frame l.frame in
    jobs_stay c.args.turned.asked.key c.args.graph.now c.visit_all.new.graph c.args.self.now.table c.visit_all.new.table f job.key job.answers other o

pub returns-clause-back : goal.returns-clause-back
returns-clause-back g c =
    let l = c.in_ok-visit_all.ensures in
    let t = c.in_ok-paused.ensures in
    (refl, taken_out c.args.self.now.out c.remove.new.self c.key.result.now c.args.turned.asked.key c.key.ensures c.remove.ensures, λ made h. l.turns (made + 1) (t.back.1 made h))

pub returns-clause-follows : goal.returns-clause-follows
returns-clause-follows g c = λ read next laws past cs roots t f.
    let l = c.in_ok-visit_all.ensures in
    let p = c.in_ok-paused.ensures in
    let fr = frame_on_but c.args.turned.asked.key c.args.graph.now c.accept_turn.new.graph c.visit_all.new.graph c.args.self.now.table c.accept_turn.new.table c.visit_all.new.table p.frame l.frame in
    follows_back next read laws past cs c.args.graph.now c.visit_all.new.graph (round_view c.args.self.now) (record { roots = c.args.self.now.roots.items; table = c.visit_all.new.table; out = c.remove.new.self }) c.args.turned.asked.key fr.0
    l.whole t c.args.self.now.kept c.keep_state.new.kept c.in_ok-paused.paused (c.in_ok-keep_state.ensures c.args.turned.asked.key (of_key c.accept_turn.new.graph c.accept_turn.new.table c.args.turned.asked.key c.in_ok-paused.paused p.paused))
    (λ e. let d = rw e at p.ended in (d.0, l.frame.0 c.args.turned.asked.key d.0 d.1 d.2, d.2))
    (taken_out c.args.self.now.out c.remove.new.self c.key.result.now c.args.turned.asked.key c.key.ensures c.remove.ensures) f
