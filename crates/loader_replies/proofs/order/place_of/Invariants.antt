use Rattle.std.proofs.Common.{◌≡◌, ◌≤◌, ◌-◌, length, take}
use Rattle.serde_json.specs.Data.{Data, Members, put}
use Rattle.loader_replies.specs.Order.{onto}
use Rattle.loader_replies.proofs.order.place_of.Given as goal

abbrev pub invariant-loop-at : goal.invariant-loop-at
invariant-loop-at l = record {
  within : l.at ≤ length l.rows;
  below : (d : Data) (ms : Members) → put l.name d (onto (take l.at l.rows) ms) ≡ onto (take l.at l.rows) (put l.name d ms);
}

abbrev pub decreases-loop-at : goal.decreases-loop-at
decreases-loop-at l = length l.rows - l.at
