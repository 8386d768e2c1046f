use Rattle.std.proofs.Common.{◌≡◌, ◌++◌, ◌∷◌, [], ◌∙◌, sym, ap, refl, subst}
use Rattle.std.specs.Prelude.{IsSome}
use Rattle.round_nodes.specs.Nodes.{groups_of}
use Rattle.round_nodes.specs.declared.table.Node.{Node}
use Rattle.round_nodes.specs.declared.table.Phase.TheVariants as phase
use Rattle.round_nodes.proofs.Wholes.{asked_groups}
use Rattle.round_nodes.proofs.steps.add_group.Goals as goal

pub returns-in_ok-push : goal.returns-in_ok-push
returns-in_ok-push c = λ m e.
    let same : c.in-Some.node.now ≡ m = cc (c.in-Some.ensures.value, e) in
    let w : Node = record { groups = c.push.new.self; waiters = c.in-Some.node.now.waiters; phase = phase.Running } in (
      w,
      (c.get_mut.follows.holds w).3 (subst (λ o. IsSome o) (sym e) refl),
      asked_groups c.in-Some.node.now.groups c.push.new.self c.args.group c.in_ok-push.ensures.items ∙ ap (λ (x : Node). groups_of x ++ c.args.group.items ∷ []) same,
      refl,
      ap (λ (x : Node). x.waiters.items) same,
    )
