use Rattle.std.proofs.Common.{◌≡◌, ◌+◌, ◌≤◌, drop, map}
use Rattle.syntax_tokens.specs.Counts.{nesting_of, IsOrdered}
use Rattle.syntax_tokens.specs.Nesting.{outermost, too_deep}
use Rattle.syntax_tokens.specs.Token.{lex_of}
use Rattle.syntax_tokens.proofs.nesting.too_deep.Given as goal

abbrev pub invariant-loop-t : goal.invariant-loop-t
invariant-loop-t l = record {
  exact : too_deep (nesting_of l.depth) (map lex_of (drop l.t-index l.tokens)) ≡ too_deep outermost (map lex_of l.tokens);
  ordered : IsOrdered l.depth;
  few : l.depth.indents + l.depth.total ≤ 64;
}
