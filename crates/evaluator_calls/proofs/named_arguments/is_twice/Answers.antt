use Rattle.std.proofs.Common.{◌∙◌, ◌+◌, ◌-◌, ap, sym, take, drop, length, is_some, arith}
use Rattle.std.specs.Prelude.{zip}
use Rattle.values_semantics.specs.Functions.{is_twice}
use Rattle.evaluator_semantics.specs.Arguments.{value_named}
use Rattle.evaluator_calls.proofs.Accepts.{zip_at, zip_over, twice_here, twice_behind, rest_all}
use Rattle.evaluator_calls.proofs.named_arguments.is_twice.Goals as goal

pub returns-then-is_some : goal.returns-then-is_some
returns-then-is_some c = sym (twice_here c.index-names-i.result _ _ _ (zip_at c.loop-i.i c.args.names.now c.args.values.now c.index-names-i.result (omega arith) c.index-names-i.is) (ap (λ o. is_some o) (sym (c.value_named.ensures ∙ ap (λ l. value_named c.index-names-i.result (zip l (take (length c.args.values.now - (c.loop-i.i + 1)) (drop (c.loop-i.i + 1) c.args.values.now)))) (rest_all (c.loop-i.i + 1) c.args.names.now) ∙ ap (λ l. value_named c.index-names-i.result (zip (drop (c.loop-i.i + 1) c.args.names.now) l)) (rest_all (c.loop-i.i + 1) c.args.values.now))) ∙ sym c.if-is_some.ensures)) ∙ c.loop-i.invariant

pub loop-i-preserved : goal.loop-i-preserved
loop-i-preserved c = twice_behind c.index-names-i.result _ _ _ (zip_at c.loop-i.i c.args.names.now c.args.values.now c.index-names-i.result (omega arith) c.index-names-i.is) (ap (λ o. is_some o) (sym (c.value_named.ensures ∙ ap (λ l. value_named c.index-names-i.result (zip l (take (length c.args.values.now - (c.loop-i.i + 1)) (drop (c.loop-i.i + 1) c.args.values.now)))) (rest_all (c.loop-i.i + 1) c.args.names.now) ∙ ap (λ l. value_named c.index-names-i.result (zip (drop (c.loop-i.i + 1) c.args.names.now) l)) (rest_all (c.loop-i.i + 1) c.args.values.now))) ∙ sym c.if-is_some.ensures) ∙ c.loop-i.invariant

pub returns : goal.returns
returns c = ap is_twice (sym (zip_over c.loop-i.i c.args.names.now c.args.values.now (omega arith))) ∙ c.loop-i.invariant
