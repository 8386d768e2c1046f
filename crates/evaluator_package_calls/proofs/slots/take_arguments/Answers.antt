use Rattle.std.proofs.Common.{Some, drop, sym, ap, ◌∙◌, arith}
use Rattle.std.specs.Prelude.{zip}
use Rattle.values_semantics.specs.Functions.{KeywordArguments, is_twice}
use Rattle.evaluator_semantics.specs.Arguments.{value_named}
use Rattle.evaluator_semantics.specs.Rules.{are_attributes, not_none}
use Rattle.evaluator_package_calls.specs.Fields.{field_name, shapes}
use Rattle.evaluator_package_calls.proofs.RuleSlots.{none_behind, refused, taken_more, once_more, has_more}
use Rattle.evaluator_package_calls.proofs.slots.take_arguments.Goals as goal

pub loop-i-init : goal.loop-i-init
loop-i-init c =
    let none = none_behind c.args.names.now c.args.values.now c.min-i.result c.min-i.ensures in
    record {
      within = omega arith;
      values = λ x. c.requires x ∙ ap (λ (l : KeywordArguments). Some (value_named (field_name x) l)) (sym none);
      known = ap (λ (l : KeywordArguments). are_attributes (not_none l) (shapes c.args.fields.now)) none;
      once = λ e. ap is_twice none;
    }

pub loop-i-preserved-in-Known : goal.loop-i-preserved-in-Known
loop-i-preserved-in-Known c =
    let names = c.args.names.now in
    let values = c.args.values.now in
    let i = c.loop-i.i in
    let inv = c.loop-i.invariant in
    let takes = rw c.in-Known.is at (c.take_argument.ensures (drop i (zip names values)) inv.values) in
    let named = c.as_str.ensures ∙ c.index-names-i.is in
    record {
      within = omega arith;
      values = has_more names values i c.as_str.result.now c.index-names-i.result (shapes c.args.fields.now) (omega arith) inv.within named c.take_argument.new.slots takes.2;
      known = taken_more names values i c.as_str.result.now c.index-names-i.result (shapes c.args.fields.now) (omega arith) inv.within named takes.1 inv.known;
      once = λ e. once_more names values i c.as_str.result.now c.index-names-i.result (shapes c.args.fields.now) (omega arith) inv.within named takes.0 (inv.once e);
    }

pub loop-i-preserved : goal.loop-i-preserved
loop-i-preserved c =
    let names = c.args.names.now in
    let values = c.args.values.now in
    let i = c.loop-i.i in
    let inv = c.loop-i.invariant in
    let takes = rw c.in-Unknown.is at (c.take_argument.ensures (drop i (zip names values)) inv.values) in
    let named = c.as_str.ensures ∙ c.index-names-i.is in
    record {
      within = omega arith;
      values = has_more names values i c.as_str.result.now c.index-names-i.result (shapes c.args.fields.now) (omega arith) inv.within named c.take_argument.new.slots takes.1;
      known = taken_more names values i c.as_str.result.now c.index-names-i.result (shapes c.args.fields.now) (omega arith) inv.within named takes.0 inv.known;
      once = λ e. absurd cc;
    }

pub returns-in-Refused-clause-taken : goal.returns-in-Refused-clause-taken
returns-in-Refused-clause-taken c =
    let names = c.args.names.now in
    let values = c.args.values.now in
    let i = c.loop-i.i in
    let inv = c.loop-i.invariant in
    let takes = rw c.in-Refused.is at (c.take_argument.ensures (drop i (zip names values)) inv.values) in
    refused names values i c.as_str.result.now c.index-names-i.result (shapes c.args.fields.now) (omega arith) inv.within (c.as_str.ensures ∙ c.index-names-i.is) takes
