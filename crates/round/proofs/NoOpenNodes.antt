-- Where no node is open, none is taken.
use Rattle.std.proofs.Common.{◌≡◌, ℕ, ◌+◌, List, [], ◌∷◌, refl, sym, ◌∙◌}
use Rattle.keys.specs.declared.key.Key.{Key}
use Rattle.round_nodes.specs.TurnCounts.{asked_by, asked_at, turns_of, HasMade}
use Rattle.round_nodes.specs.Nodes.{Nodes, Records, node_at}
use Rattle.round_nodes.specs.declared.table.OpenNodes.{OpenNodes}
use Rattle.round.specs.Closing.{HasTaken}
use Rattle.round.specs.declared.closing.Stall.{Stall}

module _ (old new : Nodes) (same : (k : Key) → node_at new k ≡ node_at old k) where
  asked_same : (keys : List Key) → asked_at new keys ≡ asked_at old keys
  asked_same [] = refl
  asked_same (k ∷ keys) = λ i. asked_by (same k i) + asked_same keys i

-- the same nodes are open, and the same runs were made
pub taken_same : (records : Records) (version : ℕ) (start old new : OpenNodes) (stall : Stall) → ((k : Key) → node_at new.nodes k ≡ node_at old.nodes k) → new.runs.items ≡ old.runs.items
    → HasTaken records version start old stall → HasTaken records version start new stall
taken_same records version start old new stall same runs h = record {
  closed = h.closed;
  gone = λ k i. same k ∙ h.gone k i;
  stays = λ k n. (same k ∙ (h.stays k n).0, (h.stays k n).1);
  differ = h.differ;
  added = h.added;
  runs = runs ∙ h.runs;
  added_each = h.added_each;
  added_all = h.added_all;
  added_differ = h.added_differ;
  ascending = h.ascending;
  below = λ x i k o. h.below x i k (o.0, sym (same k) ∙ o.1);
  made = λ made was. let is : HasMade old made = h.made made was in record {
    keys = is.keys;
    differ = is.differ;
    each = λ k o. is.each k (o.0, sym (same k) ∙ o.1);
    sum = is.sum ∙ (λ i. turns_of (sym runs i) + sym (asked_same old.nodes new.nodes same is.keys) i);
  };
}
