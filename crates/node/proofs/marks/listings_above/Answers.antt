use Rattle.std.proofs.Common.{◌≡◌, ◌∙◌, ap, sym, rules, ℕ, List, [], ◌∷◌, ◌++◌, reverse, map}
use Rattle.labels.specs.Labels.{ancestors}
use Rattle.labels.proofs.Cuts.{no_slash}
use Rattle.labels.proofs.Ancestors.{ancestors_by_last, no_ancestors}
use Rattle.keys.specs.declared.key.Key.TheVariants as key
use Rattle.node.proofs.Touching.{one_above}
use Rattle.node.proofs.marks.listings_above.Goals as goal

pub loop-directory-preserved : goal.loop-directory-preserved
loop-directory-preserved c =
    let h = c.in-Some.ensures.cases in
    let split : ancestors c.loop-directory.rest.now ≡ ancestors c.in-Some.directory.now ++ c.in-Some.directory.now ∷ [] =
    ancestors_by_last c.loop-directory.rest.now h.0 h.1 h.2 ∙ ap (λ d. ancestors d ++ d ∷ []) (sym h.3) in
    (search rules, one_above c.loop-directory.rest.now c.in-Some.directory.now c.in_ok-new.field-0 c.loop-directory.listings.items c.push.new.self.items split c.in_ok-push.ensures.items c.in_ok-new.ensures ∙ c.loop-directory.invariant.1)

pub returns : goal.returns
returns c =
    let none : ancestors c.loop-directory.rest.now ≡ [] = no_ancestors c.loop-directory.rest.now (no_slash c.loop-directory.rest.now c.in_default.ensures.cases) in
    ap (λ (a : List (List ℕ)). map key.Listing a ++ reverse c.loop-directory.listings.items) (sym none) ∙ c.loop-directory.invariant.1
