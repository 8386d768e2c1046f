use Rattle.std.proofs.Common.{map, ap, sym, subst, ◌∙◌, ◌∷◌, [], Err}
use Rattle.std.specs.Prelude.{zip}
use Rattle.std.proofs.lemmas.List.{map-append}
use Rattle.values_semantics.specs.declared.val.Val.TheVariants as v
use Rattle.values_semantics.specs.Heap.{Store}
use Rattle.evaluator_semantics.specs.World.{ended}
use Rattle.evaluator_semantics.specs.Rules as rules
use Rattle.evaluator_state.specs.View.{target_of, world_of}
use Rattle.evaluator_package_calls.specs.View.{ChecksAs}
use Rattle.evaluator_package_calls.proofs.RuleCalls.{no_target, used, made, used_name, is_new, is_old}
use Rattle.evaluator_package_calls.proofs.rules.rule.Goals as goal

pub returns-in-Err-clause-says : goal.returns-in-Err-clause-says
returns-in-Err-clause-says c = λ here.
    no_target c.args.f c.args.package_name.now c.args.xs.now (zip c.args.names.now c.args.values.now) here (world_of c.args.state.now) c.in-Err.halt _
    (subst (λ (s : Store). ChecksAs target_of (rules.target_of c.args.f c.args.package_name.now c.args.xs.now (zip c.args.names.now c.args.values.now) s) (Err c.in-Err.halt)) c.in_ok-charge_arguments.ensures.same c.in-Err.ensures)

pub returns-then-not-branch-clause-says : goal.returns-then-not-branch-clause-says
returns-then-not-branch-clause-says c = λ here.
    let t = target_of c.in-Ok.target in
    let ns = zip c.args.names.now c.args.values.now in
    used c.args.f c.args.package_name.now c.args.xs.now ns here (world_of c.args.state.now) t
    (ap (λ (s : Store). rules.target_of c.args.f c.args.package_name.now c.args.xs.now ns s) (sym c.in_ok-charge_arguments.ensures.same) ∙ c.in-Ok.ensures)
    (used_name t.name c.args.state.now.targets ∙ is_old _ _ c.in_ok-add.ensures.added c.if-not-branch.true)

pub returns-clause-says : goal.returns-clause-says
returns-clause-says c = λ here.
    let t = target_of c.in-Ok.target in
    let ns = zip c.args.names.now c.args.values.now in
    let same = c.in_ok-charge_arguments.ensures.same in
    made c.args.f c.args.package_name.now c.args.xs.now ns here (world_of c.args.state.now) t
    (ap (λ (s : Store). rules.target_of c.args.f c.args.package_name.now c.args.xs.now ns s) (sym same) ∙ c.in-Ok.ensures) _
    (used_name t.name c.args.state.now.targets ∙ is_new _ _ c.in_ok-add.ensures.added c.if-not-branch.false)
    (ap (map target_of) (rw c.if-not-branch.false at c.in_ok-add.ensures.last) ∙ map-append target_of c.args.state.now.targets (c.in-Ok.target ∷ []))
    ∙ ap (λ (s : Store). ended v.Nothing (record (world_of c.args.state.now) { store = s; targets = map target_of c.add.new.self })) (sym same)
