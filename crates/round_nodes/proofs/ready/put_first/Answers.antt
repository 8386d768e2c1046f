use Rattle.std.proofs.Common.{◌∙◌, inl, inr, Option, Some, sym, subst, ap}
use Rattle.engine_semantics.specs.Value.{In}
use Rattle.keys.specs.declared.key.Key.{Key}
use Rattle.node.specs.Edges.{IsAdded}
use Rattle.node.proofs.Joining.{set_added}
use Rattle.round_nodes.specs.Ready.{keys_of, IsBelow}
use Rattle.round_nodes.proofs.Least.{added_first, first_added, first_below}
use Rattle.round_nodes.proofs.ready.put_first.Goals as goal

pub returns-in_err-insert-clause-below : goal.returns-in_err-insert-clause-below
returns-in_err-insert-clause-below c =
    let old = c.args.rest.now.keys in
    let new = c.insert.new.self.keys in
    subst (λ (o : Option Key). IsBelow o new) (sym c.replace.ensures.after)
    (first_below c.args.key c.args.next.now old new c.requires.least (λ k i. inl (subst (In k) c.in_err-insert.ensures.err i)))

pub returns-in_ok-insert-clause-added : goal.returns-in_ok-insert-clause-added
returns-in_ok-insert-clause-added c =
    let old = c.args.rest.now.keys in
    let new = c.insert.new.self.keys in
    let second = c.in-Some.second in
    subst (λ (o : Option Key). IsAdded (keys_of c.args.next.now old) (keys_of o new) c.args.key) (sym c.replace.ensures.after)
    (first_added c.args.key c.args.next.now second old new (sym c.replace.ensures.value ∙ c.in-Some.is) (set_added c.args.rest.now c.insert.new.self second c.in_ok-insert.ensures.updates))

pub returns-in_ok-insert-clause-below : goal.returns-in_ok-insert-clause-below
returns-in_ok-insert-clause-below c =
    let old = c.args.rest.now.keys in
    let new = c.insert.new.self.keys in
    let second = c.in-Some.second in
    let next = sym c.replace.ensures.value ∙ c.in-Some.is in
    let added = set_added c.args.rest.now c.insert.new.self second c.in_ok-insert.ensures.updates in
    subst (λ (o : Option Key). IsBelow o new) (sym c.replace.ensures.after)
    (first_below c.args.key c.args.next.now old new c.requires.least (λ k i. elim (added.from k i) [ inl o ↦ inl o | inr q ↦ inr (next ∙ ap Some q) ]))

pub returns-in_default-clause-added : goal.returns-in_default-clause-added
returns-in_default-clause-added c =
    let old = c.args.rest.now.keys in
    subst (λ (o : Option Key). IsAdded (keys_of c.args.next.now old) (keys_of o old) c.args.key) (sym c.replace.ensures.after)
    (subst (λ (o : Option Key). IsAdded (keys_of o old) (keys_of (Some c.args.key) old) c.args.key) (sym (sym c.replace.ensures.value ∙ c.in_default.is)) (added_first c.args.key old))

pub returns-in_default-clause-below : goal.returns-in_default-clause-below
returns-in_default-clause-below c =
    let old = c.args.rest.now.keys in
    subst (λ (o : Option Key). IsBelow o old) (sym c.replace.ensures.after)
    (first_below c.args.key c.args.next.now old old c.requires.least (λ k i. inl i))
