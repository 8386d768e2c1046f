use Rattle.std.proofs.Common.{◌∙◌, ap, refl, sym}
use Rattle.std.specs.Option.{option_map}
use Rattle.indexmap.specs.IndexMap.{get}
use Rattle.keys.specs.Keys.{key_eq}
use Rattle.keys.specs.Turns.{values}
use Rattle.node.specs.Records.{items_of}
use Rattle.node.proofs.Lists.{true_false}
use Rattle.round.specs.NodeStates.{kept_answers}
use Rattle.round.proofs.Handing.{needs_all}
use Rattle.round.proofs.Pausing.{needs_kept, no_answers_yet}
use Rattle.round.proofs.Rounding.{is_one}
use Rattle.round.proofs.Wanting.{none_there}
use Rattle.round.proofs.turns.values_needed.Goals as goal

pub returns-then-not-contains : goal.returns-then-not-contains
returns-then-not-contains g c = λ i. true_false (c.if-not-contains.ensures.1 i) refl

pub returns-then-groups-lt2 : goal.returns-then-groups-lt2
returns-then-groups-lt2 g c =
    needs_all c.args.graph.now c.args.table.now c.args.table.now c.args.key.now c.requires.whole (c.if-not-contains.ensures.0 refl) c.args.kept.now
    (no_answers_yet c.args.graph.now c.args.table.now c.args.kept.now c.args.key.now c.requires.paused c.asked_groups-groups.result.now c.asked_groups-groups.ensures c.if-groups-lt2.true)
    (items_of c.asked_groups-groups.result.now) c.asked_groups-groups.ensures
    (option_map (λ v. values v.items) c.in_ok-answers_to.field-0) c.in_ok-answers_to.ensures

pub returns-then-contains_key : goal.returns-then-contains_key
returns-then-contains_key g c =
    let w = is_one (get key_eq c.args.kept.now c.args.key.now) c.if-contains_key.ensures in
    let p = c.requires.paused c.args.key.now w.0 w.1 in
    needs_kept c.args.graph.now c.args.table.now c.args.key.now w.0 p c.requires.whole (c.if-not-contains.ensures.0 refl) c.args.kept.now w.1
    (option_map (λ v. values v.items) c.in_ok-last_answers.field-0) (c.in_ok-last_answers.ensures p.passed p.group (c.asked_groups-groups.ensures p.node p.there ∙ p.split))

pub returns : goal.returns
returns g c =
    needs_all c.args.graph.now c.args.table.now c.args.table.now c.args.key.now c.requires.whole (c.if-not-contains.ensures.0 refl) c.args.kept.now
    (ap kept_answers (none_there (get key_eq c.args.kept.now c.args.key.now) (sym c.if-contains_key.ensures))) (items_of c.asked_groups-groups.result.now) c.asked_groups-groups.ensures
    (option_map (λ v. values v.items) c.in_ok-answers_to-2.field-0) c.in_ok-answers_to-2.ensures
