use Rattle.std.proofs.Common.{◌∙◌, ◌∷◌, Option, IfSome, ◌≡◌, sym, subst}
use Rattle.std.specs.declared.cmp.Ordering.TheVariants.{Less}
use Rattle.engine_semantics.specs.Value.{In, first}
use Rattle.keys.specs.Keys.{key_cmp}
use Rattle.keys.specs.declared.key.Key.{Key}
use Rattle.keys.proofs.KeyLaws.{exact_keys}
use Rattle.node.proofs.Joining.{in_has}
use Rattle.round_nodes.specs.Ready.{keys_of, IsBelow, IsBelowAll}
use Rattle.round_nodes.proofs.Least.{above, below_all_first, below_all_least}
use Rattle.round_nodes.proofs.ready.compare_least.Goals as goal

pub returns-in-Some-clause-less : goal.returns-in-Some-clause-less
returns-in-Some-clause-less c = λ q.
    let rest = c.args.rest.now.keys in
    let key = c.args.key.now in
    subst (λ (o : Option Key). IsBelowAll key (keys_of o rest)) (sym c.in-Some.is)
    (below_all_first key c.in-Some.least rest (subst (λ (o : Option Key). IsBelow o rest) c.in-Some.is c.requires.below) (sym c.cmp.ensures ∙ q))

pub returns-in-Some-clause-equal : goal.returns-in-Some-clause-equal
returns-in-Some-clause-equal c = λ q.
    let rest = c.args.rest.now.keys in
    let key = c.args.key.now in
    subst (λ (o : Option Key). In key (keys_of o rest)) (sym c.in-Some.is)
    (subst (λ x. In x (c.in-Some.least ∷ rest)) (sym (exact_keys key c.in-Some.least (sym c.cmp.ensures ∙ q))) first)

pub returns-in-Some-clause-greater : goal.returns-in-Some-clause-greater
returns-in-Some-clause-greater c = λ q.
    let key = c.args.key.now in
    subst (λ (o : Option Key). IfSome o (λ n. key_cmp n key ≡ Less)) (sym c.in-Some.is) (above key c.in-Some.least (sym c.cmp.ensures ∙ q))

pub returns-in-Some-first-clause-less : goal.returns-in-Some-first-clause-less
returns-in-Some-first-clause-less c = λ q.
    let rest = c.args.rest.now.keys in
    let key = c.args.key.now in
    subst (λ (o : Option Key). IsBelowAll key (keys_of o rest)) (sym c.in-None.is)
    (below_all_least key c.in-Some-first.least.now rest c.in-Some-first.ensures.all_from (sym c.cmp-in-Some-first.ensures ∙ q))

pub returns-in-Some-first-clause-equal : goal.returns-in-Some-first-clause-equal
returns-in-Some-first-clause-equal c = λ q.
    let rest = c.args.rest.now.keys in
    let key = c.args.key.now in
    let least = c.in-Some-first.least.now in
    subst (λ (o : Option Key). In key (keys_of o rest)) (sym c.in-None.is)
    (subst (λ x. In x rest) (sym (exact_keys key least (sym c.cmp-in-Some-first.ensures ∙ q))) (in_has c.args.rest.now least c.in-Some-first.ensures.member))
