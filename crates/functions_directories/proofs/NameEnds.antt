-- A name that a segment matches ends with the bytes after the segment's last `*`.
use Rattle.std.proofs.Common.{◌≡◌, ◌∙◌, ap, sym, subst, refl, arith, ◌≤◌, ◌⊎◌, inl, inr, ℕ, suc, ◌-◌, Bool, true, false, cond, not, ◌&&◌, ◌||◌, ◌==◌, nat_eq, List, [], ◌∷◌, length, drop}
use Rattle.std.specs.Prelude.{bytes_eq, filter}
use Rattle.std.specs.List.{list_any, ends_with}
use Rattle.std.proofs.lemmas.Bool.{and_parts, and_from, false≢true}
use Rattle.std.proofs.lemmas.Slice.Eq.{bytes_eq-Decides}
use Rattle.pattern.specs.Patterns.{is_star, segment_matches}
use Rattle.pattern.specs.Starless.{is_starless}
use Rattle.pattern.specs.Wild.{some_end}
use Rattle.functions_directories.specs.Ends.{end_of}
use Rattle.functions_directories.specs.Globs.{first_segment, other_segments, ends_here, takes}
use Rattle.functions_directories.proofs.PossibleNames.{plain_segment}

-- some end of a list, for a test that holds of an end of each list for which another holds
end_within : (p q : List ℕ → Bool) → ((x : List ℕ) → p x ≡ true → some_end q x ≡ true) → (x : List ℕ) → some_end p x ≡ true → some_end q x ≡ true
end_within p q h [] e = h [] e
end_within p q h (c ∷ x) e =
    elim (p (c ∷ x)) as (λ t. p (c ∷ x) ≡ t → t || some_end p x ≡ true → q (c ∷ x) || some_end q x ≡ true) [
      | true ↦ λ o e. h (c ∷ x) o
      | false ↦ λ o e. or_right (q (c ∷ x)) (some_end q x) (end_within p q h x e)
    ] refl e
  where
    or_right : (a b : Bool) → b ≡ true → a || b ≡ true
    or_right true b h = refl
    or_right false b h = h

later : (q : List ℕ → Bool) (c : ℕ) (x : List ℕ) → some_end q x ≡ true → some_end q (c ∷ x) ≡ true
later q c x h = by (q (c ∷ x))
  where
    by : (a : Bool) → a || some_end q x ≡ true
    by true = refl
    by false = h

whole : (q : List ℕ → Bool) (x : List ℕ) → q x ≡ true → some_end q x ≡ true
whole q [] h = h
whole q (c ∷ x) h = ap (λ a. a || some_end q x) h

starless : (f : List ℕ) → list_any is_star f ≡ false → is_starless f ≡ true
starless [] h = refl
starless (b ∷ f) h =
    elim (is_star b) as (λ t. t || list_any is_star f ≡ false → not t && is_starless f ≡ true) [
      | true ↦ λ h. absurd (false≢true (sym h))
      | false ↦ λ h. starless f h
    ] h

-- where the first byte is no star, the rest of the segment matches the rest of the name
matched_rest : (b : ℕ) (f x : List ℕ) (q : List ℕ → Bool) → is_star b ≡ false → ((y : List ℕ) → segment_matches f y ≡ true → some_end q y ≡ true) → segment_matches (b ∷ f) x ≡ true → some_end q x ≡ true
matched_rest b f [] q s h m = absurd (false≢true (sym (ap (λ t. cond t (some_end (segment_matches f) []) false) s) ∙ m))
matched_rest b f (c ∷ x) q s h m =
    let fit : (b == c) && segment_matches f x ≡ true = sym (ap (λ t. cond t (some_end (segment_matches f) (c ∷ x)) ((b == c) && segment_matches f x)) s) ∙ m in
    later q c x (h x (and_parts (b == c) (segment_matches f x) fit).1)

pub star_first : (b : ℕ) (f x : List ℕ) → is_star b ≡ true → segment_matches (b ∷ f) x ≡ some_end (segment_matches f) x
star_first b f [] s = ap (λ t. cond t (some_end (segment_matches f) []) false) s
star_first b f (c ∷ x) s = ap (λ t. cond t (some_end (segment_matches f) (c ∷ x)) ((b == c) && segment_matches f x)) s

ends : (f x : List ℕ) → segment_matches f x ≡ true → some_end (bytes_eq (end_of f)) x ≡ true
ends [] [] h = refl
ends [] (c ∷ x) h = absurd (false≢true h)
ends (b ∷ f) x h = by (list_any is_star f) (is_star b) refl refl (λ y k. ends f y k)
  where
    by : (more star : Bool) → list_any is_star f ≡ more → is_star b ≡ star → ((y : List ℕ) → segment_matches f y ≡ true → some_end (bytes_eq (end_of f)) y ≡ true) → some_end (bytes_eq (cond more (end_of f) (cond star f (b ∷ f)))) x ≡ true
    by true true m s rest = end_within (segment_matches f) (bytes_eq (end_of f)) rest x (sym (star_first b f x s) ∙ h)
    by true false m s rest = matched_rest b f x (bytes_eq (end_of f)) s rest h
    by false true m s rest = end_within (segment_matches f) (bytes_eq f) (λ y k. whole (bytes_eq f) y (sym (plain_segment f y (starless f m)) ∙ k)) x (sym (star_first b f x s) ∙ h)
    by false false m s rest = whole (bytes_eq (b ∷ f)) x (sym (plain_segment (b ∷ f) x (and_from (not (is_star b)) (is_starless f) (ap not s) (starless f m))) ∙ h)

-- ---- a list of which an end is the same as another list

equal : (e x : List ℕ) → bytes_eq e x ≡ true → e ≡ x
equal e x h = (bytes_eq-Decides e x).0 h

end_or_later : (e : List ℕ) (c : ℕ) (x : List ℕ) → some_end (bytes_eq e) (c ∷ x) ≡ true → (e ≡ c ∷ x) ⊎ (some_end (bytes_eq e) x ≡ true)
end_or_later e c x h =
    elim (bytes_eq e (c ∷ x)) as (λ t. bytes_eq e (c ∷ x) ≡ t → t || some_end (bytes_eq e) x ≡ true → (e ≡ c ∷ x) ⊎ (some_end (bytes_eq e) x ≡ true)) [
      | true ↦ λ o h. inl (equal e (c ∷ x) o)
      | false ↦ λ o h. inr h
    ] refl h

no_longer : (e x : List ℕ) → some_end (bytes_eq e) x ≡ true → length e ≤ length x
no_longer e [] h = let same = ap (λ (l : List ℕ). length l) (equal e [] h) in omega (arith, same)
no_longer e (c ∷ x) h =
    elim (end_or_later e c x h) [
      | inl same ↦ let long = ap (λ (l : List ℕ). length l) same in omega (arith, long)
      | inr more ↦ let rest = no_longer e x more in omega (arith, rest)
    ]

itself : (e : List ℕ) → bytes_eq e e ≡ true
itself e = (bytes_eq-Decides e e).1 refl

same_ends : (e x : List ℕ) → some_end (bytes_eq e) x ≡ true → ends_with nat_eq x e ≡ true
same_ends e [] h = subst (λ (l : List ℕ). bytes_eq l (drop (0 - length l) []) ≡ true) (sym (equal e [] h)) refl
same_ends e (c ∷ x) h =
    elim (end_or_later e c x h) [
      | inl same ↦
          let none : length (c ∷ x) - length (c ∷ x) ≡ 0 = omega arith in
          subst (λ (l : List ℕ). ends_with nat_eq (c ∷ x) l ≡ true) (sym same) (ap (λ n. bytes_eq (c ∷ x) (drop n (c ∷ x))) none ∙ itself (c ∷ x))
      | inr more ↦
          let short = no_longer e x more in
          let next : length (c ∷ x) - length e ≡ suc (length x - length e) = omega (arith, short) in
          ap (λ n. bytes_eq e (drop n (c ∷ x))) next ∙ same_ends e x more
    ]

pub ends_alike : (f x : List ℕ) → segment_matches f x ≡ true → ends_with nat_eq x (end_of f) ≡ true
ends_alike f x h = same_ends (end_of f) x (ends f x h)

-- a name with another end is not matched
pub other_end : (f x : List ℕ) → ends_with nat_eq x (end_of f) ≡ false → segment_matches f x ≡ false
other_end f x h = by (segment_matches f x) refl
  where
    by : (b : Bool) → segment_matches f x ≡ b → b ≡ false
    by true o = absurd (false≢true (sym h ∙ ends_alike f x o))
    by false o = refl

-- no name is taken by a pattern that goes on
pub none_taken : (pattern : List ℕ) (names : List (List ℕ)) → ends_here (other_segments pattern) ≡ false → filter (takes pattern) names ≡ []
none_taken pattern [] h = refl
none_taken pattern (x ∷ xs) h = ap (λ t. cond (t && segment_matches (first_segment pattern) x) (x ∷ filter (takes pattern) xs) (filter (takes pattern) xs)) h ∙ none_taken pattern xs h

-- a segment without a star is its own end
pub end_or_whole : (f : List ℕ) → end_of f ≡ cond (list_any is_star f) (end_of f) f
end_or_whole [] = refl
end_or_whole (b ∷ f) = by (list_any is_star f) (is_star b)
  where
    by : (more star : Bool) → cond more (end_of f) (cond star f (b ∷ f)) ≡ cond (star || more) (cond more (end_of f) (cond star f (b ∷ f))) (b ∷ f)
    by true true = refl
    by true false = refl
    by false true = refl
    by false false = refl
