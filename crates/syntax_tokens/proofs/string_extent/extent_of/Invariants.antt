use Rattle.std.proofs.Common.{◌≡◌, ◌≤◌, ◌+◌, false, length}
use Rattle.syntax_tokens.specs.Strings.{extent, farther}
use Rattle.syntax_tokens.proofs.string_extent.extent_of.Given as goal

abbrev pub invariant-text : goal.invariant-text
invariant-text l = record {
  exact : farther l.len l.line_ends (extent l.long l.quote l.escaped l.left) ≡ extent l.long l.quote false l.bytes;
  place : l.len + length l.left ≡ length l.bytes;
  few : l.line_ends ≤ l.len;
}

abbrev pub decreases-text : goal.decreases-text
decreases-text l = length l.left
