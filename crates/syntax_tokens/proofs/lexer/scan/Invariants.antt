use Rattle.std.proofs.Common.{◌≡◌, ◌+◌, ◌≤◌, length}
use Rattle.std.specs.Str.{IsAscii}
use Rattle.syntax_tokens.specs.Lines.{before, scan, start}
use Rattle.syntax_tokens.specs.View.{state_of, said_by}
use Rattle.syntax_tokens.proofs.lexer.scan.Given as goal

abbrev pub invariant-pieces : goal.invariant-pieces
invariant-pieces l = record {
  exact : before (said_by l.scanner) (scan (state_of l.scanner) 0 l.left) ≡ scan start 0 l.text;
  ascii : IsAscii l.left;
  lines : l.scanner.line + length l.left ≤ length l.text + 1;
  spaces : l.scanner.spaces + length l.left ≤ length l.text;
}

abbrev pub decreases-pieces : goal.decreases-pieces
decreases-pieces l = length l.left
