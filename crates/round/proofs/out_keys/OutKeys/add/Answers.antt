use Rattle.std.proofs.Common.{◌≡◌, ap, subst, ◌∙◌, ◌∷◌, List, length, arith}
use Rattle.engine_semantics.specs.Value.{In}
use Rattle.keys.specs.declared.key.Key.{Key}
use Rattle.round.specs.JobsOut.{keys_after}
use Rattle.round.proofs.JobsOut.{came_in}
use Rattle.round.proofs.out_keys.OutKeys.add.Goals as goal

pub invariant_of-self : goal.invariant_of-self
invariant_of-self c =
    let came = came_in c.self.inside.changes.items c.args.key.now (λ i. c.requires (subst (In c.args.key.now) c.self.view_is i)) in
    let longer = ap length (ap keys_after c.and-self-inside.ensures ∙ came) in
    let was : c.self.inside.count ≡ length (keys_after c.self.inside.changes.items) = c.self.invariant in
    let counted = c.in-Ok.ensures in omega (arith, longer, was, counted.1)

pub returns-clause-added : goal.returns-clause-added
returns-clause-added c =
    ap keys_after c.and-self-inside.ensures
    ∙ came_in c.self.inside.changes.items c.args.key.now (λ i. c.requires (subst (In c.args.key.now) c.self.view_is i))
    ∙ ap (λ (keys : List Key). c.args.key.now ∷ keys) c.self.view_is
