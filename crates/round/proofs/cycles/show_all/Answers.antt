use Rattle.std.proofs.Common.{subst, sym, take, Some}
use Rattle.std.specs.BTreeMap.{Updates}
use Rattle.keys.specs.Keys.{key_cmp}
use Rattle.std.specs.Arc.{arc_value}
use Rattle.round.specs.Showing.{ShowsAll}
use Rattle.round.proofs.Confirming.{take_whole}
use Rattle.round_nodes.proofs.Grouping.{taken_next}
use Rattle.round.proofs.Walking.{shows_none, shows_snoc}
use Rattle.round.proofs.cycles.show_all.Goals as goal

pub loop-key-init : goal.loop-key-init
loop-key-init c = shows_none c.args.shown.now (arc_value c.args.value.now)

pub loop-key-preserved : goal.loop-key-preserved
loop-key-preserved c = subst (λ path. ShowsAll c.args.shown.now c.insert.new.self path (arc_value c.args.value.now)) (sym (taken_next c.args.path.now c.loop-key.key-index c.key-item.result c.key-item.is c.loop-key-test.true))
    (shows_snoc c.args.shown.now c.loop-key.shown c.insert.new.self (take c.loop-key.key-index c.args.path.now) c.key-item.result c.in_ok-try_clone.field-0 (arc_value c.args.value.now) c.in_ok-try_clone.ensures c.loop-key.invariant
    (subst (λ k. Updates key_cmp c.loop-key.shown c.insert.new.self k (Some c.in_ok-try_clone.field-0)) c.in_ok-share.ensures c.in_ok-insert.ensures.updates))

pub returns : goal.returns
returns c = subst (λ path. ShowsAll c.args.shown.now c.loop-key.shown path (arc_value c.args.value.now)) (take_whole c.args.path.now c.loop-key.key-index c.loop-key-test.false) c.loop-key.invariant
