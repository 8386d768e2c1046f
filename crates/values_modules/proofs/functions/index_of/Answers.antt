use Rattle.std.proofs.Common.{ap, sym, ◌∙◌}
use Rattle.std.specs.HashMap.{get}
use Rattle.std.specs.Prelude.{is_some}
use Rattle.values_semantics.specs.Comparing.{same_text}
use Rattle.syntax_tree.specs.Tree.{Fn}
use Rattle.syntax_tree.specs.declared.def.Def.{Def}
use Rattle.values_modules.proofs.FunctionPlaces.{none_there, one_more_known, one_place_more, same_places}
use Rattle.values_modules.proofs.functions.index_of.Goals as goal

pub loop-i-preserved : goal.loop-i-preserved
loop-i-preserved c =
    let fs = c.args.functions.now in
    let i = c.loop-i.i in
    let f = c.index-functions-i.result in
    let name = c.of_text-name.result in
    let places = c.loop-i.places in
    let named = c.of_text-name.ensures ∙ c.in_ok-share.ensures ∙ ap (λ (d : Def). d.name) c.deref.ensures ∙ ap (λ (g : Fn). g.name) (c.def.ensures ∙ c.index-functions-i.is) in
    let absent = none_there (get same_text places name) (sym c.contains_key.ensures ∙ c.if-contains_key.false) in
    record {
      places = one_place_more fs i f name (get same_text places) (get same_text c.insert.new.self) c.loop-i-test.true named absent c.in_ok-insert.ensures.updates.0 c.loop-i.invariant.places;
      known = one_more_known fs i f name (get same_text places) (get same_text c.insert.new.self) c.loop-i-test.true named c.in_ok-insert.ensures.updates.0 c.loop-i.invariant.known;
    }

pub loop-i-preserved-then-contains_key : goal.loop-i-preserved-then-contains_key
loop-i-preserved-then-contains_key c =
    let fs = c.args.functions.now in
    let i = c.loop-i.i in
    let f = c.index-functions-i.result in
    let name = c.of_text-name.result in
    let places = c.loop-i.places in
    let invariant = c.loop-i.invariant in
    let named = c.of_text-name.ensures ∙ c.in_ok-share.ensures ∙ ap (λ (d : Def). d.name) c.deref.ensures ∙ ap (λ (g : Fn). g.name) (c.def.ensures ∙ c.index-functions-i.is) in
    let there = sym c.contains_key.ensures ∙ c.if-contains_key.true in
    let same = same_places fs i f name (get same_text places) c.loop-i-test.true named there invariant.known in
    record {
      places = λ x. invariant.places x ∙ same x;
      known = λ x. invariant.known x ∙ ap is_some (same x);
    }
