use Rattle.std.proofs.Common.{map, ap, sym, ◌∙◌, arith, refl}
use Rattle.std.proofs.lemmas.Bool.Decides.{nat_tests}
use Rattle.values_methods.specs.Texts.{exchanged}
use Rattle.values_methods.proofs.Replacing.{by_exchange, exchange_sized}
use Rattle.values_methods.proofs.splitting.exchange_bytes.Goals as goal

pub returns-then-whole-gt-MAX_LENGTH : goal.returns-then-whole-gt-MAX_LENGTH
returns-then-whole-gt-MAX_LENGTH c = (refl, exchange_sized c.args.old c.args.new c.args.whole.now ∙ grind (arith, nat_tests, c.if-whole-gt-MAX_LENGTH.true))

pub returns : goal.returns
returns c = (
  c.exchange_each.ensures ∙ (ap (map (exchanged c.args.old c.args.new)) c.in_ok-all.ensures.items ∙ sym (by_exchange c.args.old c.args.new c.args.whole.now)),
  exchange_sized c.args.old c.args.new c.args.whole.now ∙ grind (arith, nat_tests, c.if-whole-gt-MAX_LENGTH.false),
)
