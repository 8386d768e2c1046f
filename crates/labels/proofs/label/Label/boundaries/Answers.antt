use Rattle.std.proofs.Common.{◌≡◌, ◌∙◌, ap, sym, rules, ℕ, List, [], ◌∷◌, ◌++◌, reverse, map as each}
use Rattle.std.proofs.lemmas.List.{reverse-append, map-append, append_assoc}
use Rattle.labels.specs.Labels.{ancestors, boundaries, joined}
use Rattle.labels.proofs.Cuts.{no_slash}
use Rattle.labels.proofs.Ancestors.{ancestors_by_last, no_ancestors}
use Rattle.labels.proofs.label.Label.boundaries.Goals as goal

one_more : (J : List ℕ → List ℕ) (rest d x : List ℕ) (names new : List (List ℕ)) → ancestors rest ≡ ancestors d ++ d ∷ [] → new ≡ names ++ x ∷ [] → x ≡ J d
    → each J (ancestors d) ++ reverse new ≡ each J (ancestors rest) ++ reverse names
one_more J rest d x names new split pushed is =
    ap (λ n. each J (ancestors d) ++ reverse n) pushed
    ∙ ap (λ r. each J (ancestors d) ++ r) (reverse-append names (x ∷ []))
    ∙ ap (λ y. each J (ancestors d) ++ (y ∷ reverse names)) is
    ∙ sym (append_assoc (each J (ancestors d)) (J d ∷ []) (reverse names))
    ∙ ap (λ a. a ++ reverse names) (sym (map-append J (ancestors d) (d ∷ [])))
    ∙ ap (λ a. each J a ++ reverse names) (sym split)

pub loop-directory-preserved : goal.loop-directory-preserved
loop-directory-preserved c =
    let h = c.in-Some.ensures.cases in
    let split : ancestors c.loop-directory.rest.now ≡ ancestors c.in-Some.directory.now ++ c.in-Some.directory.now ∷ [] =
    ancestors_by_last c.loop-directory.rest.now h.0 h.1 h.2 ∙ ap (λ d. ancestors d ++ d ∷ []) (sym h.3) in
    let is : c.in_ok-join_parts.field-0 ≡ joined c.self.inside.package_name c.in-Some.directory.now =
    c.in_ok-join_parts.ensures ∙ ap (λ p. joined p c.in-Some.directory.now) c.as_str.ensures in
    (search rules, one_more (joined c.self.inside.package_name) c.loop-directory.rest.now c.in-Some.directory.now c.in_ok-join_parts.field-0 c.loop-directory.names.items c.push.new.self.items split c.in_ok-push.ensures.items is ∙ c.loop-directory.invariant.1)

pub returns : goal.returns
returns c =
    let none : ancestors c.loop-directory.rest.now ≡ [] = no_ancestors c.loop-directory.rest.now (no_slash c.loop-directory.rest.now c.in_default.ensures.cases) in
    c.reverse.ensures.items ∙ ap (λ a. each (joined c.self.inside.package_name) a ++ reverse c.loop-directory.names.items) (sym none) ∙ c.loop-directory.invariant.1 ∙ ap boundaries c.self.view_is
