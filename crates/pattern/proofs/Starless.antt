-- A pattern without a star matches the path that is its text, and no other.
use Rattle.std.proofs.Common.{◌≡◌, ◌∙◌, ap, sym, refl, ℕ, Bool, true, false, cond, not, ◌&&◌, ◌||◌, ◌==◌, List, [], ◌∷◌}
use Rattle.std.specs.Prelude.{bytes_eq}
use Rattle.std.specs.List.{list_all, onto_first}
use Rattle.std.proofs.lemmas.Bool.{and_parts, eqb-true, eq-eqb, false≢true, not-true}
use Rattle.labels.specs.Paths.{segments}
use Rattle.pattern.specs.Patterns.{is_star, is_double_star, segment_matches, path_matches}
use Rattle.pattern.specs.Starless.{is_starless}
use Rattle.pattern.specs.Wild.{some_end, first_fits}
use Rattle.pattern.proofs.Paths.{some_segment}

and_assoc : (a b c : Bool) → a && (b && c) ≡ (a && b) && c
and_assoc true b c = refl
and_assoc false b c = refl

flip : (a b : ℕ) → (b == a) ≡ false → (a == b) ≡ false
flip a b h = elim (a == b) as (λ t. (a == b) ≡ t → t ≡ false) [
  | true ↦ λ e. absurd (false≢true (sym h ∙ eq-eqb b a (sym (eqb-true a b e))))
  | false ↦ λ e. refl
] refl

-- bytes that differ from a third one in one case alone
apart : (b c d : ℕ) → (b == d) ≡ true → (c == d) ≡ false → (b == c) ≡ false
apart b c d one other = ap (λ x. x == c) (eqb-true b d one) ∙ flip d c other

-- a plain segment is no `**`, and a byte of it matches itself
not_double : (f : List ℕ) → is_starless f ≡ true → is_double_star f ≡ false
not_double [] h = refl
not_double (b ∷ f) h = ap (λ x. x && bytes_eq f (42 ∷ [])) (not-true (is_star b) (and_parts (not (is_star b)) (is_starless f) h).0)

byte_first : (b : ℕ) (f x : List ℕ) (c : ℕ) → is_star b ≡ false → segment_matches (b ∷ f) (c ∷ x) ≡ (b == c) && segment_matches f x
byte_first b f x c plain = ap (λ t. cond t (some_end (segment_matches f) (c ∷ x)) ((b == c) && segment_matches f x)) plain

byte_never : (b : ℕ) (f : List ℕ) → is_star b ≡ false → segment_matches (b ∷ f) [] ≡ false
byte_never b f plain = ap (λ t. cond t (some_end (segment_matches f) []) false) plain

-- the first segment of a plain text is plain
first_plain : (p f : List ℕ) (rest : List (List ℕ)) → is_starless p ≡ true → segments p ≡ f ∷ rest → is_starless f ≡ true
first_plain [] f rest h e =
    let is : [] ≡ f = cc in
    ap is_starless (sym is)
first_plain (b ∷ p) f rest h e =
    let both = and_parts (not (is_star b)) (is_starless p) h in
    let more = some_segment p in
    elim (b == 47) as (λ t. cond t ([] ∷ segments p) (onto_first b (segments p)) ≡ f ∷ rest → is_starless f ≡ true) [
      | true ↦ λ g. let is : [] ≡ f = cc in ap is_starless (sym is)
      | false ↦ λ g.
          let joined : (b ∷ more.0) ∷ more.1 ≡ f ∷ rest = ap (onto_first b) (sym more.2) ∙ g in
          let is : b ∷ more.0 ≡ f = cc in
          ap is_starless (sym is) ∙ ap (λ x. x && is_starless more.0) both.0 ∙ first_plain p more.0 more.1 both.1 more.2
    ] e

one_segment_left : (f : List ℕ) (ps : List (List ℕ)) (x : List ℕ) (xs : List (List ℕ)) → is_double_star f ≡ false
    → path_matches (f ∷ ps) (x ∷ xs) ≡ segment_matches f x && path_matches ps xs
one_segment_left f ps x xs plain = ap (λ t. cond t (some_end (path_matches ps) (x ∷ xs)) (segment_matches f x && path_matches ps xs)) plain

none_left : (f : List ℕ) (ps : List (List ℕ)) → is_double_star f ≡ false → path_matches (f ∷ ps) [] ≡ false
none_left f ps plain = ap (λ t. cond t (some_end (path_matches ps) []) false) plain

-- by the first bytes of both, of which either may be a slash
abbrev Says : List ℕ → List ℕ → Type 0
Says p q = path_matches (segments p) (segments q) ≡ bytes_eq p q

cut_segments : (b : ℕ) (p : List ℕ) → (b == 47) ≡ true → segments (b ∷ p) ≡ [] ∷ segments p
cut_segments b p h = ap (λ t. cond t ([] ∷ segments p) (onto_first b (segments p))) h

kept_segments : (b : ℕ) (p f : List ℕ) (rest : List (List ℕ)) → (b == 47) ≡ false → segments p ≡ f ∷ rest → segments (b ∷ p) ≡ (b ∷ f) ∷ rest
kept_segments b p f rest h is = ap (λ t. cond t ([] ∷ segments p) (onto_first b (segments p))) h ∙ ap (onto_first b) is

by_ends : (b : ℕ) (p : List ℕ) → is_starless (b ∷ p) ≡ true → (t : Bool) → (b == 47) ≡ t → Says (b ∷ p) []
by_ends b p h true slash =
    let more = some_segment p in
    let plain = first_plain p more.0 more.1 (and_parts (not (is_star b)) (is_starless p) h).1 more.2 in
    ap (λ s. path_matches s ([] ∷ [])) (cut_segments b p slash ∙ ap (λ s. [] ∷ s) more.2) ∙ none_left more.0 more.1 (not_double more.0 plain)
by_ends b p h false slash =
    let both = and_parts (not (is_star b)) (is_starless p) h in
    let more = some_segment p in
    let plain = first_plain p more.0 more.1 both.1 more.2 in
    let star = not-true (is_star b) both.0 in
    ap (λ s. path_matches s ([] ∷ [])) (kept_segments b p more.0 more.1 slash more.2)
    ∙ one_segment_left (b ∷ more.0) more.1 [] [] (ap (λ x. x && bytes_eq more.0 (42 ∷ [])) star)
    ∙ ap (λ x. x && path_matches more.1 []) (byte_never b more.0 star)

empty_before : (c : ℕ) (q : List ℕ) (t : Bool) → (c == 47) ≡ t → Says [] (c ∷ q)
empty_before c q true slash =
    let more = some_segment q in
    ap (path_matches ([] ∷ [])) (cut_segments c q slash ∙ ap (λ s. [] ∷ s) more.2)
empty_before c q false slash =
    let more = some_segment q in
    ap (path_matches ([] ∷ [])) (kept_segments c q more.0 more.1 slash more.2)

by_bytes : (b : ℕ) (p : List ℕ) (c : ℕ) (q : List ℕ) → is_starless (b ∷ p) ≡ true → Says p q → (t u : Bool) → (b == 47) ≡ t → (c == 47) ≡ u → Says (b ∷ p) (c ∷ q)
by_bytes b p c q h says true true sb sc =
    ap (λ s. path_matches s (segments (c ∷ q))) (cut_segments b p sb) ∙ ap (path_matches ([] ∷ segments p)) (cut_segments c q sc)
    ∙ says ∙ ap (λ x. x && bytes_eq p q) (sym (eq-eqb b c (eqb-true b 47 sb ∙ sym (eqb-true c 47 sc))))
by_bytes b p c q h says true false sb sc =
    let more = some_segment q in
    ap (λ s. path_matches s (segments (c ∷ q))) (cut_segments b p sb) ∙ ap (path_matches ([] ∷ segments p)) (kept_segments c q more.0 more.1 sc more.2)
    ∙ ap (λ x. x && bytes_eq p q) (sym (apart b c 47 sb sc))
by_bytes b p c q h says false true sb sc =
    let both = and_parts (not (is_star b)) (is_starless p) h in
    let more = some_segment p in
    let star = not-true (is_star b) both.0 in
    ap (λ s. path_matches s (segments (c ∷ q))) (kept_segments b p more.0 more.1 sb more.2) ∙ ap (path_matches ((b ∷ more.0) ∷ more.1)) (cut_segments c q sc)
    ∙ one_segment_left (b ∷ more.0) more.1 [] (segments q) (ap (λ x. x && bytes_eq more.0 (42 ∷ [])) star)
    ∙ ap (λ x. x && path_matches more.1 (segments q)) (byte_never b more.0 star)
    ∙ ap (λ x. x && bytes_eq p q) (sym (flip b c (apart c b 47 sc sb)))
by_bytes b p c q h says false false sb sc =
    let both = and_parts (not (is_star b)) (is_starless p) h in
    let one = some_segment p in
    let two = some_segment q in
    let star = not-true (is_star b) both.0 in
    let plain = first_plain p one.0 one.1 both.1 one.2 in
    let inner : segment_matches one.0 two.0 && path_matches one.1 two.1 ≡ bytes_eq p q =
    sym (one_segment_left one.0 one.1 two.0 two.1 (not_double one.0 plain)) ∙ ap (λ s. path_matches s (two.0 ∷ two.1)) (sym one.2) ∙ ap (path_matches (segments p)) (sym two.2) ∙ says in
    ap (λ s. path_matches s (segments (c ∷ q))) (kept_segments b p one.0 one.1 sb one.2) ∙ ap (path_matches ((b ∷ one.0) ∷ one.1)) (kept_segments c q two.0 two.1 sc two.2)
    ∙ one_segment_left (b ∷ one.0) one.1 (c ∷ two.0) two.1 (ap (λ x. x && bytes_eq one.0 (42 ∷ [])) star)
    ∙ ap (λ x. x && path_matches one.1 two.1) (byte_first b one.0 two.0 c star)
    ∙ sym (and_assoc (b == c) (segment_matches one.0 two.0) (path_matches one.1 two.1)) ∙ ap (λ x. (b == c) && x) inner

pub plain_matches_itself : (p path : List ℕ) → is_starless p ≡ true → path_matches (segments p) (segments path) ≡ bytes_eq p path
plain_matches_itself [] [] h = refl
plain_matches_itself [] (c ∷ q) h = empty_before c q (c == 47) refl
plain_matches_itself (b ∷ p) [] h = by_ends b p h (b == 47) refl
plain_matches_itself (b ∷ p) (c ∷ q) h =
    by_bytes b p c q h (plain_matches_itself p q (and_parts (not (is_star b)) (is_starless p) h).1) (b == 47) (c == 47) refl refl
