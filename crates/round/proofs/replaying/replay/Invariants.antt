use Rattle.std.proofs.Common.{◌≡◌, ◌+◌, ◌<◌, ℕ, take}
use Rattle.keys.specs.Leaves as leaves
use Rattle.round_nodes.specs.Invariants.{IsNext, Past}
use Rattle.round.specs.Call.{IsHistory}
use Rattle.round.specs.Playing.{IsPlaying, HasCome, HasHanded}
use Rattle.round.specs.Replays.{AreLegal, LacksRoot, newest, hands}
use Rattle.round.proofs.replaying.replay.Given as goal

abbrev pub invariant-loop-n : goal.invariant-loop-n
invariant-loop-n g l = record {
  playing : IsPlaying l.graph l.play.round l.play.turns.items;
  came : (laws : IsNext g.R.Rules.next) (past : Past (leaves.read l.tree)) → IsHistory g.R.Rules.next (leaves.read l.tree) past l.fn.roots.items l.fn.graph
      → HasCome g.R.Rules.next (leaves.read l.tree) past (newest (take l.n l.choices)) l.graph l.play.round × AreLegal g.R.Rules.next (leaves.read l.tree) past (take l.n l.choices);
  not_sooner : (laws : IsNext g.R.Rules.next) (past : Past (leaves.read l.tree)) → IsHistory g.R.Rules.next (leaves.read l.tree) past l.fn.roots.items l.fn.graph
      → (m : ℕ) → m < l.n → LacksRoot g.R.Rules.next (leaves.read l.tree) past (take m l.choices);
  handed : HasHanded l.play.round l.play.turns.items (hands (take l.n l.choices));
  counted : g.R.Rules.turns l.rules ≡ g.R.Rules.turns l.fn.rules + hands (take l.n l.choices);
  spent : l.left + hands (take l.n l.choices) ≡ l.fn.budget;
}
