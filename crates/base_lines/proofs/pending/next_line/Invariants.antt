use Rattle.std.proofs.Common.{◌≡◌, ℕ, ◌+◌, ◌≤◌, List, ◌++◌, length}
use Rattle.base_lines.specs.Lines.{HoldsLine, IsOneLine}
use Rattle.base_lines.proofs.pending.next_line.Given as goal

abbrev pub invariant-loop-pending : goal.invariant-loop-pending
invariant-loop-pending g l = let told = g.R.Input.told in let left = g.R.Input.left in let failures = g.R.Input.failures in
    record {
      so_far : (part : List ℕ) × (fresh : List ℕ) × IsOneLine part × (told l.input ≡ told l.fn.input ++ fresh)
          × (l.fn.pending ++ fresh ≡ part ++ l.pending) × HoldsLine l.line.bytes.items l.line.too_long part;
      left : left l.input + length l.pending ≤ left l.fn.input + length l.fn.pending;
      counted : failures l.fn.input ≤ failures l.input;
      ends : g.R.Input.ends l.fn.input ≤ g.R.Input.ends l.input;
      device : g.R.Input.at_first l.input ≡ g.R.Input.at_first l.fn.input;
    }

abbrev pub decreases-loop-pending : goal.decreases-loop-pending
decreases-loop-pending g l = g.R.Input.left l.input
