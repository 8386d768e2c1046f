use Rattle.std.proofs.Common.{ap, ◌∙◌, arith}
use Rattle.syntax_tokens.specs.Nesting.{with_role}
use Rattle.syntax_tokens.specs.Counts.{nesting_of}
use Rattle.syntax_tokens.proofs.Depths.{stays_shallow, gets_deep, all_shallow}
use Rattle.syntax_tokens.proofs.nesting.too_deep.Goals as goal

pub returns-then-depth-gt64 : goal.returns-then-depth-gt64
returns-then-depth-gt64 c = gets_deep c.loop-t.t-index c.args.tokens.now c.t-item.result c.loop-t.depth c.add.new.self _ (omega arith) c.t-item.is (c.in_ok-add.ensures.counts ∙ ap (λ r. with_role r (nesting_of c.loop-t.depth)) c.token_role.ensures) c.in_ok-add.ensures.ordered (omega arith) c.loop-t.invariant.exact

pub loop-t-preserved : goal.loop-t-preserved
loop-t-preserved c = record {
  exact = stays_shallow c.loop-t.t-index c.args.tokens.now c.t-item.result c.loop-t.depth c.add.new.self _ (omega arith) c.t-item.is (c.in_ok-add.ensures.counts ∙ ap (λ r. with_role r (nesting_of c.loop-t.depth)) c.token_role.ensures) c.in_ok-add.ensures.ordered (omega arith) c.loop-t.invariant.exact;
  ordered = c.in_ok-add.ensures.ordered;
  few = omega arith;
}

pub returns : goal.returns
returns c = all_shallow c.loop-t.t-index c.args.tokens.now _ _ (omega arith) c.loop-t.invariant.exact
