use Rattle.std.proofs.Common.{ℕ, List, Bor, sym, subst}
use Rattle.values_heap.specs.View.{store_of}
use Rattle.values_semantics.specs.Outcome.{ValueOrFault}
use Rattle.values_modules.specs.Values.{Target}
use Rattle.evaluator_state.specs.View.{target_of}
use Rattle.evaluator_package_calls.specs.View.{ChecksAs}
use Rattle.evaluator_package_calls.proofs.RuleReads.{name_halts, type_halts, read_at_once}
use Rattle.evaluator_package_calls.proofs.rules.target_from.Goals as goal

pub returns-in-Err : goal.returns-in-Err
returns-in-Err c = name_halts c.args.f c.args.package_name.now c.args.fields.now c.args.slots.now (store_of c.args.heap.now) (λ (b : Bor (List ℕ)). b.now) target_of c.in-Err.halt c.in-Err.ensures

pub returns-in-Err-are_typed : goal.returns-in-Err-are_typed
returns-in-Err-are_typed c = type_halts c.args.f c.args.package_name.now c.args.fields.now c.args.slots.now (store_of c.args.heap.now) c.in-Ok.name.now c.in-Ok.ensures target_of c.in-Err-are_typed.halt c.in-Err-are_typed.ensures

pub returns-in-Ok-are_typed : goal.returns-in-Ok-are_typed
returns-in-Ok-are_typed c =
    subst (λ (o : ValueOrFault Target). ChecksAs target_of o c.make_target.result)
    (sym (read_at_once c.args.f c.args.package_name.now c.args.fields.now c.args.slots.now (store_of c.args.heap.now) c.in-Ok.name.now c.in-Ok.ensures c.in-Ok-are_typed.ensures)) c.make_target.ensures
