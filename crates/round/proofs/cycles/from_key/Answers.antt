use Rattle.std.proofs.Common.{subst, sym}
use Rattle.engine_semantics.specs.Value.{In}
use Rattle.keys.proofs.KeyLaws.{exact_key_eq}
use Rattle.node.proofs.Lists.{true_false}
use Rattle.round.specs.Showing.{IsFrom}
use Rattle.round.proofs.Confirming.{take_whole}
use Rattle.round.proofs.Walking.{rest_taken, found_from, not_before}
use Rattle.round.proofs.cycles.from_key.Goals as goal

pub loop-place-init : goal.loop-place-init
loop-place-init c = λ m. elim m [ ]

pub returns-then-eq : goal.returns-then-eq
returns-then-eq c = subst (IsFrom c.args.path.now c.args.key.now) (sym (rest_taken c.args.path.now c.loop-place.place))
    (found_from c.args.path.now c.loop-place.place c.index-path-place.result c.args.key.now c.index-path-place.is c.loop-place-test.true ((exact_key_eq c.index-path-place.result c.args.key.now).0 (sym c.if-eq.ensures)))

pub loop-place-preserved : goal.loop-place-preserved
loop-place-preserved c = not_before c.args.path.now c.loop-place.place c.index-path-place.result c.args.key.now c.index-path-place.is c.loop-place-test.true
    (λ q. true_false ((exact_key_eq c.index-path-place.result c.args.key.now).1 q) (sym c.if-eq.ensures)) c.loop-place.invariant

pub returns : goal.returns
returns c = λ m. absurd (c.loop-place.invariant (subst (In c.args.key.now) (sym (take_whole c.args.path.now c.loop-place.place c.loop-place-test.false)) m))
