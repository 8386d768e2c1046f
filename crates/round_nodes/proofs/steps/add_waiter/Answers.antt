use Rattle.std.proofs.Common.{◌≡◌, ◌++◌, ◌∷◌, [], ◌∙◌, sym, ap, refl, subst}
use Rattle.std.specs.Prelude.{IsSome}
use Rattle.round_nodes.specs.declared.table.Node.{Node}
use Rattle.round_nodes.proofs.steps.add_waiter.Goals as goal

pub returns-in_ok-push : goal.returns-in_ok-push
returns-in_ok-push c = λ m e.
    let same : c.in-Some.node.now ≡ m = cc (c.in-Some.ensures.value, e) in
    let w : Node = record { groups = c.in-Some.node.now.groups; waiters = c.push.new.self; phase = c.in-Some.node.now.phase } in (
      w,
      (c.get_mut.follows.holds w).3 (subst (λ o. IsSome o) (sym e) refl),
      ap (λ (x : Node). x.groups.items) same,
      ap (λ (x : Node). x.phase) same,
      c.in_ok-push.ensures.items ∙ ap (λ (x : Node). x.waiters.items ++ c.args.key ∷ []) same,
    )
