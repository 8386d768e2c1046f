use Rattle.std.proofs.Common.{◌≡◌, ◌-◌, [], ap, get_or, sym, ◌∙◌, cond, is_some, drop, Some, arith}
use Rattle.std.specs.Prelude.{zip}
use Rattle.std.specs.HashMap.{get}
use Rattle.std.specs.Map.{lookup}
use Rattle.values_semantics.specs.declared.val.Val.TheVariants as v
use Rattle.values_semantics.specs.Comparing.{same_text}
use Rattle.values_semantics.specs.Functions.{is_twice}
use Rattle.evaluator_semantics.specs.Arguments.{value_named}
use Rattle.evaluator_calls.proofs.NamedTables.{none_behind, item_again, again, still_once, finds_more}
use Rattle.evaluator_calls.proofs.named_arguments.table_of.Goals as goal

pub loop-i-init : goal.loop-i-init
loop-i-init c =
    let ns = zip c.args.names.now c.args.values.now in
    let none : drop c.min-i.result ns ≡ [] = ap (λ n. drop n ns) c.min-i.ensures ∙ none_behind c.args.names.now c.args.values.now in
    record {
      within = omega (arith, c.min-i.ensures);
      finds = λ x. ap (lookup (same_text x)) c.new-all.ensures.empty ∙ sym (ap (value_named x) none);
      once = ap is_twice none;
    }

pub returns-then-contains_key : goal.returns-then-contains_key
returns-then-contains_key c =
    let name = c.index-names-i.result in
    let x = get_or c.args.values.now (c.loop-i.i - 1) v.Nothing in
    let is = item_again c.args.values.now (c.loop-i.i - 1) v.Nothing in
    again c.args.names.now c.args.values.now c.loop-i.i name x (omega arith) c.loop-i.invariant.within c.index-names-i.is is
    (sym (ap (λ o. is_some o) (c.loop-i.invariant.finds name)) ∙ sym c.contains_key.ensures ∙ c.if-contains_key.true)

pub loop-i-preserved : goal.loop-i-preserved
loop-i-preserved c =
    let name = c.index-names-i.result in
    let x = get_or c.args.values.now (c.loop-i.i - 1) v.Nothing in
    let is = item_again c.args.values.now (c.loop-i.i - 1) v.Nothing in
    let not_there = sym (ap (λ o. is_some o) (c.loop-i.invariant.finds name)) ∙ sym c.contains_key.ensures ∙ c.if-contains_key.false in
    record {
      within = omega arith;
      finds = finds_more c.args.names.now c.args.values.now c.loop-i.i name x (omega arith) c.loop-i.invariant.within c.index-names-i.is is (get same_text c.insert.new.self) (get same_text c.loop-i.all)
          (λ q. c.in_ok-insert.ensures.updates.0 q ∙ ap (λ n. cond (same_text n q) (Some x) (get same_text c.loop-i.all q)) c.in_ok-share.ensures) c.loop-i.invariant.finds;
      once = still_once c.args.names.now c.args.values.now c.loop-i.i name x (omega arith) c.loop-i.invariant.within c.index-names-i.is is not_there c.loop-i.invariant.once;
    }

pub returns : goal.returns
returns c =
    let ns = zip c.args.names.now c.args.values.now in
    let none_left : c.loop-i.i ≡ 0 = omega (arith, c.loop-i-test.false) in
    (ap (λ n. is_twice (drop n ns)) (sym none_left) ∙ c.loop-i.invariant.once, λ x. c.loop-i.invariant.finds x ∙ ap (λ n. value_named x (drop n ns)) none_left)
