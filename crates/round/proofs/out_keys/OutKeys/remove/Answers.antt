use Rattle.std.proofs.Common.{◌≡◌, ap, sym, subst, ◌∙◌, length, arith}
use Rattle.engine_semantics.specs.Value.{In}
use Rattle.round.specs.JobsOut.{keys_after}
use Rattle.round.proofs.JobsOut.{went_out, one_less}
use Rattle.round.proofs.out_keys.OutKeys.remove.Goals as goal

pub invariant_of-self : goal.invariant_of-self
invariant_of-self c =
    let went = ap keys_after c.and-self-inside.ensures ∙ went_out c.self.inside.changes.items c.args.key.now in
    let shorter = ap length went in
    let less = one_less c.self.inside.changes.items c.args.key.now (subst (In c.args.key.now) (sym c.self.view_is) c.requires) in
    let was : c.self.inside.count ≡ length (keys_after c.self.inside.changes.items) = c.self.invariant in omega (arith, shorter, less, was)
