use Rattle.std.proofs.Common.{◌∙◌, sym, subst, Some}
use Rattle.std.specs.BTreeMap.{Updates}
use Rattle.keys.specs.Keys.{key_cmp}
use Rattle.functions_directories.proofs.NamesInOrder.{drop_item}
use Rattle.functions.proofs.PlaceSteps.{place_stays, place_set}
use Rattle.functions.proofs.once.first_places.Goals as goal

pub loop-i-preserved-then-has_place : goal.loop-i-preserved-then-has_place
loop-i-preserved-then-has_place c =
    let k = c.index-group-i.result in
    place_stays c.loop-i.i c.loop-i.places c.args.group.now k (drop_item c.args.group.now c.loop-i.i k c.loop-i-test.true c.index-group-i.is) c.loop-i.invariant (sym c.has_place.ensures ∙ c.if-has_place.true)

pub loop-i-preserved : goal.loop-i-preserved
loop-i-preserved c =
    let k = c.index-group-i.result in
    place_set c.loop-i.i c.loop-i.places c.args.group.now k (drop_item c.args.group.now c.loop-i.i k c.loop-i-test.true c.index-group-i.is) c.loop-i.invariant c.set_place.new.places (sym c.has_place.ensures ∙ c.if-has_place.false)
    (subst (λ x. Updates key_cmp c.loop-i.places c.set_place.new.places x (Some c.loop-i.i)) c.in_ok-share.ensures c.in_ok-set_place.ensures)
