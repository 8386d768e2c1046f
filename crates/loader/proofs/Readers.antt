-- What readers find of what was published.
use Rattle.std.proofs.Common.{◌≡◌, inl, inr, ℕ, Bool, true, false, cond, List, [], ◌∷◌, None, Some, refl, ap, sym, subst, ◌∙◌}
use Rattle.std.specs.Prelude.{Option}
use Rattle.engine_semantics.specs.Value.{In, first, after}
use Rattle.shelf.specs.declared.publish.Publish.{Publish}
use Rattle.shelf.specs.Lists.{same_text, or_else, last_text, entry, then_published}
use Rattle.shelf.proofs.Texts.{each_name_has_its_text}
use Rattle.loader_answers.specs.Answers.{IsPackageShown, Tells}
use Rattle.loader_answers.specs.Publishing.{has_name}
use Rattle.loader.specs.PublishingLaws.{PublishIsFound, PublishTellsTheFiles, FoundTellsTheFiles}
use Rattle.loader_answers.proofs.Naming.{one_text, name_in, has_in, in_left, in_more}
use Rattle.loader.proofs.Telling.{from_map}

lacks : (name : List ℕ) (names : List (List ℕ)) → ¬ In name names → has_name name names ≡ false
lacks name names absent = go (has_name name names) (λ e. absent (name_in name names e))
  where
    go : (b : Bool) → (b ≡ true → ⊥) → b ≡ false
    go true f = absurd (f refl)
    go false f = refl

pub publish_is_found : PublishIsFound
publish_is_found files version names old new (entries, (each, text, are, tells, texts), is) =
    let found : (name : List ℕ) → entry new name ≡ cond (has_name name each) (Some (version, text name)) (entry old name) =
    λ name. ap (λ l. entry l name) is ∙ ap (λ es. entry (then_published old version es) name) texts ∙ each_name_has_its_text old version text each name in (
      (λ name i. (text name, tells name i, found name ∙ ap (λ b. cond b (Some (version, text name)) (entry old name)) (has_in name each (are.asked name i)))),
      (λ name absent. found name ∙ ap (λ b. cond b (Some (version, text name)) (entry old name)) (lacks name each (λ i. absent (are.no_other name i)))),
    )

pub publish_tells : PublishTellsTheFiles
publish_tells files version names old new before (entries, (each, text, are, tells, texts), is) p i =
    elim (in_more p (record { version = version; entries = entries }) old (subst (In p) is i)) [
      | inl earlier ↦ before p earlier
      | inr this ↦ (λ e j. subst (λ (q : Publish). Tells (IsPackageShown (files q.version) e.0) e.1) (sym this)
          (let from = from_map (λ (name : List ℕ). (name, text name)) each e (subst (In e) (ap (λ (q : Publish). q.entries) this ∙ texts) j) in
          subst (λ (d : List ℕ × List ℕ). Tells (IsPackageShown (files version) d.0) d.1) from.2 (tells from.0 (are.no_other from.0 from.1))))
    ]

-- what a publish has for a name is one of its entries
entry_of : (version : ℕ) (entries : List (List ℕ × List ℕ)) (name : List ℕ) (v : ℕ) (text : List ℕ) → last_text version entries name ≡ Some (v, text)
    → (v ≡ version) × In (name, text) entries
entry_of version [] name v text e = absurd (cc e)
entry_of version (x ∷ xs) name v text e = go (last_text version xs name) (λ f. entry_of version xs name v text f) (same_text x.0 name) refl e
  where
    go : (o : Option (ℕ × List ℕ)) → (o ≡ Some (v, text) → (v ≡ version) × In (name, text) xs) → (b : Bool) → same_text x.0 name ≡ b
        → or_else o (cond b (Some (version, x.1)) None) ≡ Some (v, text) → (v ≡ version) × In (name, text) (x ∷ xs)
    go (Some y) later b same e = let r = later e in (r.0, after r.1)
    go None later true same e =
        let one : x.0 ≡ name = one_text x.0 name same in
        let found : (version, x.1) ≡ (v, text) = cc in
        let is : x ≡ (name, text) = λ k. (one k, ap (λ (p : ℕ × List ℕ). p.1) found k) in
        (sym (ap (λ (p : ℕ × List ℕ). p.0) found), subst (λ (d : List ℕ × List ℕ). In d (x ∷ xs)) is first)
    go None later false same e = absurd (cc e)

-- what a list has for a name is an entry of one of its publishes
found_in : (list : List Publish) (name : List ℕ) (v : ℕ) (text : List ℕ) → entry list name ≡ Some (v, text)
    → (p : Publish) × In p list × (v ≡ p.version) × In (name, text) p.entries
found_in [] name v text e = absurd (cc e)
found_in (p ∷ ps) name v text e = go (entry ps name) (λ f. found_in ps name v text f) e
  where
    go : (o : Option (ℕ × List ℕ)) → (o ≡ Some (v, text) → (q : Publish) × In q ps × (v ≡ q.version) × In (name, text) q.entries)
        → or_else o (last_text p.version p.entries name) ≡ Some (v, text) → (q : Publish) × In q (p ∷ ps) × (v ≡ q.version) × In (name, text) q.entries
    go (Some y) later e = let r = later e in (r.0, after r.1, r.2, r.3)
    go None later e = let r = entry_of p.version p.entries name v text e in (p, first, r.0, r.1)

pub found_tells : FoundTellsTheFiles
found_tells files list known name version text tells begins e =
    let r = found_in known name version text e in
    subst (λ v. Tells (IsPackageShown (files v) name) text) (sym r.2) (tells r.0 (subst (In r.0) begins.1 (in_left r.0 known begins.0 r.1)) (name, text) r.3)
