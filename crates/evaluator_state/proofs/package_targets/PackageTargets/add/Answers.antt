use Rattle.std.proofs.Common.{◌++◌, ◌∷◌, [], List, ap, subst, sym, ◌∙◌}
use Rattle.evaluator_state.specs.declared.state.Target.{Target}
use Rattle.evaluator_state.specs.TargetNames.{HasNames}
use Rattle.evaluator_state.proofs.Adding.{names_more}
use Rattle.evaluator_state.proofs.package_targets.PackageTargets.add.Goals as goal

pub invariant_of-self-2 : goal.invariant_of-self-2
invariant_of-self-2 c = subst (λ (targets : List Target). HasNames targets c.insert.new.self) (sym (c.push_reserved.ensures.items ∙ ap (λ (l : List Target). l ++ c.args.target ∷ []) c.in_ok-reserve.ensures.items))
    (names_more c.self.inside.items.items c.args.target c.in_ok-name.name c.self.inside.names c.insert.new.self c.in_ok-name.ensures c.self.invariant c.in_ok-insert.ensures.updates)
