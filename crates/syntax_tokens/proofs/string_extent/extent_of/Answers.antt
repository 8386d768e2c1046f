use Rattle.std.proofs.Common.{◌∙◌, sym, arith}
use Rattle.syntax_tokens.proofs.Strings.{goes_farther, bad_farther, over_farther, no_farther}
use Rattle.syntax_tokens.proofs.string_extent.extent_of.Goals as goal

pub returns-then-is_over-clause-exact : goal.returns-then-is_over-clause-exact
returns-then-is_over-clause-exact c =
    over_farther c.args.long c.args.quote c.text.escaped _ _ c.text.left.now c.text.len c.text.line_ends _ c.in-Some.ensures.cases.0 (sym c.is_over.ensures ∙ c.if-is_over.true) c.text.invariant.exact

pub returns-in_err-next-clause-exact : goal.returns-in_err-next-clause-exact
returns-in_err-next-clause-exact c =
    c.from_residual.ensures ∙ bad_farther c.args.long c.args.quote c.text.escaped c.in-Some.b.now c.in-Some.rest.now c.text.left.now c.text.len c.text.line_ends _ c.in-Some.ensures.cases.0 (sym c.is_over.ensures ∙ c.if-is_over.false) (sym c.goes_on.ensures.exact ∙ c.in_err-next.was) c.text.invariant.exact

pub text-preserved : goal.text-preserved
text-preserved c = record {
  exact = goes_farther c.args.long c.args.quote c.text.escaped c.in-Some.b.now c.in-Some.rest.now c.text.left.now c.in_ok-next.next c.text.len c.text.line_ends _ c.in-Some.ensures.cases.0 (sym c.is_over.ensures ∙ c.if-is_over.false) (sym c.in_ok-next.ensures.exact) c.text.invariant.exact;
  place = omega (arith, c.in-Some.ensures.cases.1);
  few = omega (arith, c.in_ok-next.ensures.few);
}

pub returns-clause-exact : goal.returns-clause-exact
returns-clause-exact c =
    no_farther c.args.long c.args.quote c.text.escaped c.text.left.now c.text.len c.text.line_ends _ c.in_default.ensures.cases c.text.invariant.exact
