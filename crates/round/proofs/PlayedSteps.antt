-- One choice of a played round.
use Rattle.std.proofs.Common.{◌≡◌, ◌≢◌, List, Option, None, sym, ◌∙◌, ap}
use Rattle.engine_semantics.specs.Reply.{Reply}
use Rattle.engine_semantics.specs.Value.{In}
use Rattle.engine_semantics.specs.Choices.{Choice, IsOut}
use Rattle.keys.specs.Jobs.{JobView, Outcome}
use Rattle.keys.specs.declared.key.Key.{Key}
use Rattle.keys.specs.declared.value.Value.{Value}
use Rattle.node.specs.Graphs.{GraphView}
use Rattle.node.proofs.Lists.{some_is}
use Rattle.round_nodes.proofs.Settlings.{in_map}
use Rattle.round_nodes.specs.Nodes.{node_at}
use Rattle.round_nodes.specs.Invariants.{IsNext, Past}
use Rattle.round_nodes.specs.declared.table.Node.{Node}
use Rattle.round_nodes.specs.declared.table.Phase.TheVariants as phase
use Rattle.round.specs.Playing.{HasPlace, AreOutTurns, HasCome}
use Rattle.round.specs.Rounds.{round_view, AgreesWith, IsOfJobOut}
use Rattle.round.specs.declared.rounds.Round.{Round}
use Rattle.round.proofs.Choosing.{out_at, at_out}

-- a ready key has no job out
pub ready_apart : {R S : Type 0} (graph : GraphView) (round : Round R S) (k : Key) → AgreesWith graph round → In k (round_view round).table.ready.keys → (job : JobView) → IsOfJobOut graph (round_view round) job → job.key ≢ k
ready_apart graph round k b i job o q =
    let y = b.0.whole.ready_now k i in
    no (sym y.2 ∙ ap (λ (n : Node). n.phase) (some_is (sym y.1 ∙ ap (node_at round.table.nodes) (sym q) ∙ o.there)) ∙ o.out)
  where
    no : phase.Running ≡ phase.Out → ⊥
    no e = cc

module _ {R S : Type 0} (next : Key → List Value → Reply Key Value) (read : Key → Option Value) (laws : IsNext next) (past : Past read) (cs : List (Choice Key)) (graph : GraphView) (round : Round R S)
    (b : AgreesWith graph round) (h : HasCome next read past cs graph round) where
  -- what is not among the turns that did not come back is not out
  pub not_out : (turns : List Outcome) (k : Key) → AreOutTurns graph (round_view round) turns → HasPlace turns k None → IsOut k cs → ⊥
  not_out turns k a p o =
      let n = out_at next read laws past cs graph (round_view round) b.0 h.roots h.truth k o in
      let x = in_map (λ (t : Outcome). t.asked.key) turns (a.all k (b.0.only_out k n.0 n.1 n.2)) in
      p x.0 x.1 x.2

  pub is_out : (job : JobView) → IsOfJobOut graph (round_view round) job → IsOut job.key cs
  is_out job o = at_out next read laws past cs graph (round_view round) b.0 h.roots h.truth job.key o.node o.there o.out
