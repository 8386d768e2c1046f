-- A part of a pattern without stars and slashes is a part of each path that the pattern matches.
use Rattle.std.proofs.Common.{◌≡◌, ◌∙◌, ap, sym, refl, ℕ, Bool, true, false, cond, not, ◌&&◌, ◌||◌, ◌==◌, List, [], ◌∷◌, nat_eq}
use Rattle.std.specs.Prelude.{bytes_eq}
use Rattle.std.specs.List.{list_any, onto_first}
use Rattle.std.proofs.lemmas.Bool.{and_parts, and_from, eqb-true, false≢true, not-true}
use Rattle.labels.specs.Paths.{segments}
use Rattle.pattern.specs.Patterns.{is_star, is_double_star, segment_matches, path_matches}
use Rattle.pattern.specs.Wild.{some_end}
use Rattle.pattern.proofs.Paths.{some_segment}
use Rattle.pattern_tables.specs.Parts.{begins, has_part, is_plain}

-- ---- truth

pub or_right : (a b : Bool) → b ≡ true → a || b ≡ true
or_right true b h = refl
or_right false b h = h

pub or_left : (a b : Bool) → a ≡ true → a || b ≡ true
or_left a b h = ap (λ x. x || b) h

or_assoc : (a b c : Bool) → a || (b || c) ≡ (a || b) || c
or_assoc true b c = refl
or_assoc false b c = refl

-- a plain byte is neither a star nor a slash
no_star : (q : ℕ) (k : List ℕ) → is_plain (q ∷ k) ≡ true → is_star q ≡ false
no_star q k h = not-true (is_star q) (and_parts (not (is_star q)) (not (q == 47)) (and_parts (not (is_star q) && not (q == 47)) (is_plain k) h).0).0

no_slash : (q : ℕ) (k : List ℕ) → is_plain (q ∷ k) ≡ true → (q == 47) ≡ false
no_slash q k h = not-true (q == 47) (and_parts (not (is_star q)) (not (q == 47)) (and_parts (not (is_star q) && not (q == 47)) (is_plain k) h).0).1

rest_plain : (q : ℕ) (k : List ℕ) → is_plain (q ∷ k) ≡ true → is_plain k ≡ true
rest_plain q k h = (and_parts (not (is_star q) && not (q == 47)) (is_plain k) h).1

-- two bytes of which one passes a test and the other does not are not equal
apart : (b q c : ℕ) → (b == c) ≡ true → (q == c) ≡ false → nat_eq q b ≡ false
apart b q c one other = elim (nat_eq q b) as (λ t. nat_eq q b ≡ t → t ≡ false) [
  | true ↦ λ e. absurd (false≢true (sym other ∙ ap (λ x. x == c) (eqb-true q b e) ∙ one))
  | false ↦ λ e. refl
] refl

-- ---- a part of a segment

-- where an end of a text passes a test that no text passes without the part, the text has the part
end_has : (test : List ℕ → Bool) (k x : List ℕ) → ((y : List ℕ) → test y ≡ true → has_part k y ≡ true) → some_end test x ≡ true → has_part k x ≡ true
end_has test k [] h e = h [] e
end_has test k (c ∷ x) h e =
    elim (test (c ∷ x)) as (λ t. test (c ∷ x) ≡ t → t || some_end test x ≡ true → has_part k (c ∷ x) ≡ true) [
      | true ↦ λ g e. h (c ∷ x) g
      | false ↦ λ g e. or_right (begins k (c ∷ x)) (has_part k x) (end_has test k x h e)
    ] refl e

-- a segment that begins with the part matches names that begin with it
begins_match : (k f x : List ℕ) → is_plain k ≡ true → begins k f ≡ true → segment_matches f x ≡ true → begins k x ≡ true
begins_match [] f x plain b m = refl
begins_match (q ∷ k) [] x plain b m = absurd (false≢true b)
begins_match (q ∷ k) (b ∷ f) [] plain begun m =
    let same = (and_parts (nat_eq q b) (begins k f) begun).0 in
    let star : is_star b ≡ false = ap is_star (sym (eqb-true q b same)) ∙ no_star q k plain in
    absurd (false≢true (sym (ap (λ t. cond t (some_end (segment_matches f) []) false) star) ∙ m))
begins_match (q ∷ k) (b ∷ f) (c ∷ x) plain begun m =
    let front = and_parts (nat_eq q b) (begins k f) begun in
    let star : is_star b ≡ false = ap is_star (sym (eqb-true q b front.0)) ∙ no_star q k plain in
    let both = and_parts (b == c) (segment_matches f x) (sym (ap (λ t. cond t (some_end (segment_matches f) (c ∷ x)) ((b == c) && segment_matches f x)) star) ∙ m) in
    and_from (nat_eq q c) (begins k x) (ap (λ y. nat_eq y c) (eqb-true q b front.0) ∙ both.0) (begins_match k f x (rest_plain q k plain) front.1 both.1)

segment_part : (q : ℕ) (k f x : List ℕ) → is_plain (q ∷ k) ≡ true → segment_matches f x ≡ true → has_part (q ∷ k) f ≡ true → has_part (q ∷ k) x ≡ true
segment_part q k [] x plain m h = absurd (false≢true h)
segment_part q k (b ∷ f) [] plain m h =
    elim (is_star b) as (λ t. is_star b ≡ t → cond t (some_end (segment_matches f) []) false ≡ true → has_part (q ∷ k) [] ≡ true) [
      | true ↦ λ star m.
          let later : has_part (q ∷ k) f ≡ true = sym (ap (λ t. (t && begins k f) || has_part (q ∷ k) f) (apart b q 42 star (no_star q k plain))) ∙ h in
          end_has (segment_matches f) (q ∷ k) [] (λ y n. segment_part q k f y plain n later) m
      | false ↦ λ star m. absurd (false≢true m)
    ] refl m
segment_part q k (b ∷ f) (c ∷ x) plain m h =
    elim (is_star b) as (λ t. is_star b ≡ t → cond t (some_end (segment_matches f) (c ∷ x)) ((b == c) && segment_matches f x) ≡ true → has_part (q ∷ k) (c ∷ x) ≡ true) [
      | true ↦ λ star m.
          let later : has_part (q ∷ k) f ≡ true = sym (ap (λ t. (t && begins k f) || has_part (q ∷ k) f) (apart b q 42 star (no_star q k plain))) ∙ h in
          end_has (segment_matches f) (q ∷ k) (c ∷ x) (λ y n. segment_part q k f y plain n later) m
      | false ↦ λ star n.
          elim (begins (q ∷ k) (b ∷ f)) as (λ t. begins (q ∷ k) (b ∷ f) ≡ t → t || has_part (q ∷ k) f ≡ true → has_part (q ∷ k) (c ∷ x) ≡ true) [
            | true ↦ λ begun h. or_left (begins (q ∷ k) (c ∷ x)) (has_part (q ∷ k) x) (begins_match (q ∷ k) (b ∷ f) (c ∷ x) plain begun m)
            | false ↦ λ begun h. or_right (begins (q ∷ k) (c ∷ x)) (has_part (q ∷ k) x) (segment_part q k f x plain (and_parts (b == c) (segment_matches f x) n).1 h)
          ] refl h
    ] refl m

-- ---- a part of a path

-- the first segment of a text begins as the text does
first_begins : (k y s : List ℕ) (rest : List (List ℕ)) → is_plain k ≡ true → segments y ≡ s ∷ rest → begins k s ≡ begins k y
first_begins [] y s rest plain e = refl
first_begins (q ∷ k) [] s rest plain e =
    let is : [] ≡ s = cc in
    ap (begins (q ∷ k)) (sym is)
first_begins (q ∷ k) (b ∷ y) s rest plain e =
    let more = some_segment y in
    elim (b == 47) as (λ t. (b == 47) ≡ t → cond t ([] ∷ segments y) (onto_first b (segments y)) ≡ s ∷ rest → begins (q ∷ k) s ≡ begins (q ∷ k) (b ∷ y)) [
      | true ↦ λ slash g. let is : [] ≡ s = cc in
          ap (begins (q ∷ k)) (sym is) ∙ sym (ap (λ t. t && begins k y) (apart b q 47 slash (no_slash q k plain)))
      | false ↦ λ slash g.
          let joined : (b ∷ more.0) ∷ more.1 ≡ s ∷ rest = ap (onto_first b) (sym more.2) ∙ g in
          let is : b ∷ more.0 ≡ s = cc in
          ap (begins (q ∷ k)) (sym is) ∙ ap (λ t. nat_eq q b && t) (first_begins k y more.0 more.1 (rest_plain q k plain) more.2)
    ] refl e

-- a text has a part where one of its segments has it
segments_part : (q : ℕ) (k y : List ℕ) → is_plain (q ∷ k) ≡ true → list_any (has_part (q ∷ k)) (segments y) ≡ has_part (q ∷ k) y
segments_part q k [] plain = refl
segments_part q k (b ∷ y) plain =
    let more = some_segment y in
    elim (b == 47) as (λ t. (b == 47) ≡ t → list_any (has_part (q ∷ k)) (cond t ([] ∷ segments y) (onto_first b (segments y))) ≡ has_part (q ∷ k) (b ∷ y)) [
      | true ↦ λ slash.
          segments_part q k y plain ∙ sym (ap (λ t. (t && begins k y) || has_part (q ∷ k) y) (apart b q 47 slash (no_slash q k plain)))
      | false ↦ λ slash.
          ap (λ s. list_any (has_part (q ∷ k)) (onto_first b s)) more.2
          ∙ sym (or_assoc (begins (q ∷ k) (b ∷ more.0)) (has_part (q ∷ k) more.0) (list_any (has_part (q ∷ k)) more.1))
          ∙ ap (λ t. begins (q ∷ k) (b ∷ more.0) || t) (ap (list_any (has_part (q ∷ k))) (sym more.2) ∙ segments_part q k y plain)
          ∙ ap (λ t. (nat_eq q b && t) || has_part (q ∷ k) y) (first_begins k y more.0 more.1 (rest_plain q k plain) more.2)
    ] refl

end_any : (test : List (List ℕ) → Bool) (p : List ℕ → Bool) (xs : List (List ℕ)) → ((ys : List (List ℕ)) → test ys ≡ true → list_any p ys ≡ true) → some_end test xs ≡ true → list_any p xs ≡ true
end_any test p [] h e = h [] e
end_any test p (x ∷ xs) h e =
    elim (test (x ∷ xs)) as (λ t. test (x ∷ xs) ≡ t → t || some_end test xs ≡ true → list_any p (x ∷ xs) ≡ true) [
      | true ↦ λ g e. h (x ∷ xs) g
      | false ↦ λ g e. or_right (p x) (list_any p xs) (end_any test p xs h e)
    ] refl e

-- `**` has no plain part
double_star_has_none : (q : ℕ) (k f : List ℕ) → is_plain (q ∷ k) ≡ true → is_double_star f ≡ true → has_part (q ∷ k) f ≡ false
double_star_has_none q k [] plain d = refl
double_star_has_none q k (a ∷ []) plain d = absurd (false≢true (sym (never (a == 42)) ∙ d))
  where
    never : (t : Bool) → t && false ≡ false
    never true = refl
    never false = refl
double_star_has_none q k (a ∷ b ∷ []) plain d =
    let both = and_parts (a == 42) (bytes_eq (b ∷ []) (42 ∷ [])) d in
    let next = and_parts (b == 42) true both.1 in
    ap (λ t. (t && begins k (b ∷ [])) || has_part (q ∷ k) (b ∷ [])) (apart a q 42 both.0 (no_star q k plain))
    ∙ ap (λ t. (t && begins k []) || false) (apart b q 42 next.0 (no_star q k plain))
double_star_has_none q k (a ∷ b ∷ c ∷ f) plain d =
    let both = and_parts (a == 42) (bytes_eq (b ∷ c ∷ f) (42 ∷ [])) d in
    absurd (false≢true (sym (never (b == 42)) ∙ both.1))
  where
    never : (t : Bool) → t && false ≡ false
    never true = refl
    never false = refl

path_part : (q : ℕ) (k : List ℕ) (fs xs : List (List ℕ)) → is_plain (q ∷ k) ≡ true → path_matches fs xs ≡ true → list_any (has_part (q ∷ k)) fs ≡ true → list_any (has_part (q ∷ k)) xs ≡ true
path_part q k [] xs plain m h = absurd (false≢true h)
path_part q k (f ∷ fs) [] plain m h =
    elim (is_double_star f) as (λ t. is_double_star f ≡ t → cond t (some_end (path_matches fs) []) false ≡ true → list_any (has_part (q ∷ k)) [] ≡ true) [
      | true ↦ λ double m.
          let later : list_any (has_part (q ∷ k)) fs ≡ true = sym (ap (λ t. t || list_any (has_part (q ∷ k)) fs) (double_star_has_none q k f plain double)) ∙ h in
          end_any (path_matches fs) (has_part (q ∷ k)) [] (λ ys n. path_part q k fs ys plain n later) m
      | false ↦ λ double m. absurd (false≢true m)
    ] refl m
path_part q k (f ∷ fs) (x ∷ xs) plain m h =
    elim (is_double_star f) as (λ t. is_double_star f ≡ t → cond t (some_end (path_matches fs) (x ∷ xs)) (segment_matches f x && path_matches fs xs) ≡ true → list_any (has_part (q ∷ k)) (x ∷ xs) ≡ true) [
      | true ↦ λ double m.
          let later : list_any (has_part (q ∷ k)) fs ≡ true = sym (ap (λ t. t || list_any (has_part (q ∷ k)) fs) (double_star_has_none q k f plain double)) ∙ h in
          end_any (path_matches fs) (has_part (q ∷ k)) (x ∷ xs) (λ ys n. path_part q k fs ys plain n later) m
      | false ↦ λ double m.
          let both = and_parts (segment_matches f x) (path_matches fs xs) m in
          elim (has_part (q ∷ k) f) as (λ t. has_part (q ∷ k) f ≡ t → t || list_any (has_part (q ∷ k)) fs ≡ true → list_any (has_part (q ∷ k)) (x ∷ xs) ≡ true) [
            | true ↦ λ own h. or_left (has_part (q ∷ k) x) (list_any (has_part (q ∷ k)) xs) (segment_part q k f x plain both.0 own)
            | false ↦ λ own h. or_right (has_part (q ∷ k) x) (list_any (has_part (q ∷ k)) xs) (path_part q k fs xs plain both.1 h)
          ] refl h
    ] refl m

-- a plain part of a pattern, with one byte at least, is a part of the paths that it matches
pub part_of_match : (part p path : List ℕ) → is_plain part ≡ true → has_part part p ≡ true → path_matches (segments p) (segments path) ≡ true → has_part part path ≡ true
part_of_match [] p [] plain h m = refl
part_of_match [] p (c ∷ path) plain h m = refl
part_of_match (q ∷ k) p path plain h m =
    sym (segments_part q k path plain)
    ∙ path_part q k (segments p) (segments path) plain m (segments_part q k p plain ∙ h)
