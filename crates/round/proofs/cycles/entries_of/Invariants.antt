use Rattle.std.proofs.Common.{◌≡◌, vec_len, Some}
use Rattle.engine_semantics.specs.Value.{In, AllDiffer}
use Rattle.keys.specs.declared.key.Key.{Key}
use Rattle.node.specs.Graphs.{record_at}
use Rattle.round.specs.Closing.{stop_at, closing_keys}
use Rattle.round.specs.Showing.{IsStall, IsShowing}
use Rattle.round.specs.declared.closing.Closing.{Closing}
use Rattle.round.proofs.Walking.{IsListing}
use Rattle.round.proofs.cycles.entries_of.Given as goal

abbrev pub invariant-loop-item : goal.invariant-loop-item
invariant-loop-item l = IsStall (stop_at l.fn.stall.stops) (record_at l.graph) → ((c : Closing) → In c l.fn.stall.closing.items → (j : Key) × (stop_at l.fn.stall.stops c.key ≡ Some j)) → AllDiffer (closing_keys l.fn.stall.closing.items)
    → IsShowing (stop_at l.fn.stall.stops) (record_at l.graph) l.stops l.shown × IsListing (stop_at l.fn.stall.stops) (record_at l.graph) l.fn.stall.closing.items l.closing.items l.entries.items

abbrev pub decreases-loop-item : goal.decreases-loop-item
decreases-loop-item l = vec_len l.closing
