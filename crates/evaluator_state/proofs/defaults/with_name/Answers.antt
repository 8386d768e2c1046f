use Rattle.std.proofs.Common.{◌≡◌, ◌++◌, ◌∷◌, [], false, sym, ap, subst, ◌∙◌}
use Rattle.std.specs.Prelude.{nat_eq, IsSomeAnd}
use Rattle.std.specs.List.{list_any}
use Rattle.std.specs.Cmp.Lexicographic.{pointwise}
use Rattle.indexmap.specs.IndexSet.{insert_key}
use Rattle.evaluator_semantics.specs.Names.{has_name}
use Rattle.evaluator_state.proofs.Distinct.{not_listed, added}
use Rattle.evaluator_state.proofs.defaults.with_name.Goals as goal

pub returns : goal.returns
returns c =
    let name = c.args.name.now in
    let keys = c.in-Some.names.keys in
    let now = c.insert.new.self.keys in
    let absent : list_any (pointwise nat_eq name) keys ≡ false = sym c.contains.ensures ∙ c.if-contains.false in
    let more : now ≡ keys ++ name ∷ [] = c.in_ok-insert.ensures.keys ∙ ap (λ y. insert_key (pointwise nat_eq) keys y) c.in_ok-share.ensures ∙ added name keys absent in
    subst (λ o. IsSomeAnd o (λ s. (has_name name s.keys ≡ false) × (now ≡ s.keys ++ name ∷ []))) (sym c.in-Some.is) (not_listed name keys absent, more)
