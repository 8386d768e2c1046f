-- A word is looked for among the words of its length alone.
use Rattle.std.proofs.Common.{◌≡◌, ◌≢◌, ℕ, ◌<◌, ◌⊎◌, nat_le, ◌&&◌, Bool, true, false, List, [], ◌∷◌, length, Some, refl, ap, ◌∙◌, arith}
use Rattle.std.specs.Str.{bytes_eq}
use Rattle.std.proofs.lemmas.Slice.Eq.{bytes_eq-Decides}
use Rattle.std.proofs.lemmas.Bool.Decides.{nat_tests}
use Rattle.syntax_tokens.specs.Token.{name}
use Rattle.syntax_tokens.specs.Words.{Entry, words, of_length, word_by, word_of}

false_unless : (b : Bool) → (b ≡ true → ⊥) → b ≡ false
false_unless true h = absurd (h refl)
false_unless false h = refl

pub differ : (xs ys : List ℕ) → length xs ≢ length ys → bytes_eq xs ys ≡ false
differ xs ys h = false_unless (bytes_eq xs ys) (λ e. h (ap length ((bytes_eq-Decides xs ys).0 e)))

narrowed : (entries : List Entry) (bytes : List ℕ) → word_by entries bytes ≡ word_by (of_length (length bytes) entries) bytes
narrowed [] bytes = refl
narrowed (e ∷ es) bytes = grind (arith, nat_tests, narrowed es bytes, differ bytes e.spelling)

pub by_length : (bytes : List ℕ) (n : ℕ) → length bytes ≡ n → word_of bytes ≡ word_by (of_length n words) bytes
unfolding word_of
by_length bytes n e = narrowed words bytes ∙ ap (λ k. word_by (of_length k words) bytes) e

-- the lengths of the words
abbrev within : List Entry → Bool
within [] = true
within (e ∷ es) = (nat_le 2 (length e.spelling) && nat_le (length e.spelling) 8) && within es

far_differs : (n m : ℕ) → (nat_le 2 m && nat_le m 8) ≡ true → (n < 2) ⊎ (8 < n) → n ≢ m
far_differs n m w h = grind (arith, nat_tests)

both : (a b : Bool) → (a && b) ≡ true → (a ≡ true) × (b ≡ true)
both true b e = (refl, e)
both false b e = absurd (cc)

skipped : (e : Entry) (es : List Entry) (bytes : List ℕ) → bytes_eq bytes e.spelling ≡ false → word_by es bytes ≡ Some (name bytes) → word_by (e ∷ es) bytes ≡ Some (name bytes)
skipped e es bytes d r = rw d r

far : (entries : List Entry) (bytes : List ℕ) → within entries ≡ true → (length bytes < 2) ⊎ (8 < length bytes) → word_by entries bytes ≡ Some (name bytes)
far [] bytes w h = refl
far (e ∷ es) bytes w h =
    let p = both (nat_le 2 (length e.spelling) && nat_le (length e.spelling) 8) (within es) w in
    skipped e es bytes (differ bytes e.spelling (far_differs (length bytes) (length e.spelling) p.0 h)) (far es bytes p.1 h)

pub outside : (bytes : List ℕ) → length bytes ≢ 2 → length bytes ≢ 3 → length bytes ≢ 4 → length bytes ≢ 5 → length bytes ≢ 6 → length bytes ≢ 7 → length bytes ≢ 8 → word_of bytes ≡ Some (name bytes)
unfolding word_of
outside bytes a b c d e f g = far words bytes refl (grind arith)
