-- Texts in one block are read as they were written.
use Rattle.std.proofs.Common.{◌≡◌, ℕ, zero, suc, ◌+◌, ◌-◌, ◌*◌, ◌/◌, ◌%◌, ◌<◌, ◌≤◌, ◌==◌, Bool, false, List, [], ◌∷◌, ◌++◌, length, take, drop, refl, sym, ◌∙◌, ap, arith, length-append, append_assoc, append-nil}
use Rattle.std.specs.Prelude.{replicate}
use Rattle.std.proofs.lemmas.List.{take_at, drop_at}
use Rattle.std.proofs.lemmas.Bool.Decides.{nat_tests}
use Rattle.values_modules.specs.Blocks.{number_bytes, text_bytes, block_bytes, number_in, after_number, texts_within, texts_in}

-- a length of 255 and more
pub number_more : (n : ℕ) → 255 ≤ n → number_bytes n ≡ 255 ∷ number_bytes (n - 255)
number_more n h =
    let q : n / 255 ≡ suc ((n - 255) / 255) = omega arith in
    let r : n % 255 ≡ (n - 255) % 255 = omega arith in
    (λ i. replicate (q i) 255 ++ r i ∷ [])

last_number : (r : ℕ) (rest : List ℕ) → r < 255 → number_in (r ∷ rest) ≡ r
last_number r rest h = grind (arith, nat_tests)

last_after : (r : ℕ) (rest : List ℕ) → r < 255 → after_number (r ∷ rest) ≡ rest
last_after r rest h = grind (arith, nat_tests)

number_full : (q r : ℕ) (rest : List ℕ) → r < 255 → number_in (replicate q 255 ++ r ∷ rest) ≡ q * 255 + r
number_full zero r rest h = last_number r rest h ∙ omega arith
number_full (suc q) r rest h = ap (λ n. 255 + n) (number_full q r rest h) ∙ omega arith

after_full : (q r : ℕ) (rest : List ℕ) → r < 255 → after_number (replicate q 255 ++ r ∷ rest) ≡ rest
after_full zero r rest h = last_after r rest h
after_full (suc q) r rest h = after_full q r rest h

number_back : (n : ℕ) (rest : List ℕ) → number_in (number_bytes n ++ rest) ≡ n
number_back n rest = ap number_in (append_assoc (replicate (n / 255) 255) (n % 255 ∷ []) rest) ∙ number_full (n / 255) (n % 255) rest (omega arith) ∙ omega arith

after_back : (n : ℕ) (rest : List ℕ) → after_number (number_bytes n ++ rest) ≡ rest
after_back n rest = ap after_number (append_assoc (replicate (n / 255) 255) (n % 255 ∷ []) rest) ∙ after_full (n / 255) (n % 255) rest (omega arith)

number_takes : (n : ℕ) → 0 < length (number_bytes n)
number_takes n = omega (arith, length-append (replicate (n / 255) 255) (n % 255 ∷ []))

-- what a block of a text and more begins with
module _ (text : List ℕ) (more : List (List ℕ)) where
  begun : block_bytes (text ∷ more) ≡ number_bytes (length text) ++ (text ++ block_bytes more)
  begun = append_assoc (number_bytes (length text)) text (block_bytes more)

  first_number : number_in (block_bytes (text ∷ more)) ≡ length text
  first_number = ap number_in begun ∙ number_back (length text) (text ++ block_bytes more)

  first_after : after_number (block_bytes (text ∷ more)) ≡ text ++ block_bytes more
  first_after = ap after_number begun ∙ after_back (length text) (text ++ block_bytes more)

  first_text : take (number_in (block_bytes (text ∷ more))) (after_number (block_bytes (text ∷ more))) ≡ text
  first_text = (λ i. take (first_number i) (first_after i)) ∙ take_at text (block_bytes more) (length text) refl

  first_rest : drop (number_in (block_bytes (text ∷ more))) (after_number (block_bytes (text ∷ more))) ≡ block_bytes more
  first_rest = (λ i. drop (first_number i) (first_after i)) ∙ drop_at text (block_bytes more) (length text) refl

  block_longer : length (block_bytes (text ∷ more)) ≡ (length (number_bytes (length text)) + length text) + length (block_bytes more)
  block_longer = length-append (text_bytes text) (block_bytes more) ∙ ap (λ n. n + length (block_bytes more)) (length-append (number_bytes (length text)) text)

-- what is read of bytes
within_more : (n : ℕ) (bytes : List ℕ) → 0 < length bytes → texts_within (suc n) bytes ≡ take (number_in bytes) (after_number bytes) ∷ texts_within n (drop (number_in bytes) (after_number bytes))
within_more n [] h = absurd (omega arith)
within_more n (b ∷ bytes) h = refl

nothing_within : (n : ℕ) → texts_within n [] ≡ []
nothing_within zero = refl
nothing_within (suc n) = refl

within_back : (n : ℕ) (texts : List (List ℕ)) → length texts ≤ n → texts_within n (block_bytes texts) ≡ texts
within_back n [] h = nothing_within n
within_back zero (text ∷ more) h = absurd (omega arith)
within_back (suc n) (text ∷ more) h =
    within_more n (block_bytes (text ∷ more)) (omega (arith, block_longer text more, number_takes (length text)))
    ∙ (λ i. first_text text more i ∷ texts_within n (first_rest text more i))
    ∙ ap (λ texts. text ∷ texts) (within_back n more (omega arith))

block_takes : (texts : List (List ℕ)) → length texts ≤ length (block_bytes texts)
block_takes [] = omega arith
block_takes (text ∷ more) = omega (arith, block_takes more, block_longer text more, number_takes (length text))

pub texts_back : (texts : List (List ℕ)) → texts_in (block_bytes texts) ≡ texts
texts_back texts = within_back (length (block_bytes texts)) texts (block_takes texts)

pub one_block : (a b : List (List ℕ)) → block_bytes a ≡ block_bytes b → a ≡ b
one_block a b e = sym (texts_back a) ∙ ap texts_in e ∙ texts_back b

-- a text more
pub block_push : (texts : List (List ℕ)) (text : List ℕ) → block_bytes (texts ++ text ∷ []) ≡ block_bytes texts ++ text_bytes text
block_push [] text = append-nil (text_bytes text)
block_push (t ∷ texts) text = ap (λ bytes. text_bytes t ++ bytes) (block_push texts text) ∙ sym (append_assoc (text_bytes t) (block_bytes texts) (text_bytes text))

module _ (old new text : List ℕ) (whole : old ≡ block_bytes (texts_in old)) (e : new ≡ old ++ text_bytes text) where
  grown : new ≡ block_bytes (texts_in old ++ text ∷ [])
  grown = e ∙ ap (λ bytes. bytes ++ text_bytes text) whole ∙ sym (block_push (texts_in old) text)

  pub text_added : texts_in new ≡ texts_in old ++ text ∷ []
  text_added = ap texts_in grown ∙ texts_back (texts_in old ++ text ∷ [])

  pub stays_block : new ≡ block_bytes (texts_in new)
  stays_block = grown ∙ ap block_bytes (sym text_added)

-- the first text of a block that is not empty
pub record First (bytes : List ℕ) : Type 0 where
  pub more : List (List ℕ)
  pub fits : number_in bytes ≤ length bytes
  pub within : number_in bytes ≤ length (after_number bytes)
  pub rest : drop (number_in bytes) (after_number bytes) ≡ block_bytes more
  pub is : texts_in bytes ≡ take (number_in bytes) (after_number bytes) ∷ more

pub first_of : (bytes : List ℕ) → bytes ≡ block_bytes (texts_in bytes) → 0 < length bytes → First bytes
first_of bytes whole some = go (texts_in bytes) refl
  where
    go : (texts : List (List ℕ)) → texts_in bytes ≡ texts → First bytes
    go [] e = absurd (omega (arith, ap length (whole ∙ ap block_bytes e)))
    go (text ∷ more) e =
        let same : bytes ≡ block_bytes (text ∷ more) = whole ∙ ap block_bytes e in
        let n : number_in bytes ≡ length text = ap number_in same ∙ first_number text more in
        let a : after_number bytes ≡ text ++ block_bytes more = ap after_number same ∙ first_after text more in
        let l : length bytes ≡ (length (number_bytes (length text)) + length text) + length (block_bytes more) = ap length same ∙ block_longer text more in
        let k : length (after_number bytes) ≡ length text + length (block_bytes more) = ap length a ∙ length-append text (block_bytes more) in
        let t : take (number_in bytes) (after_number bytes) ≡ text = ap (λ b. take (number_in b) (after_number b)) same ∙ first_text text more in
        let r : drop (number_in bytes) (after_number bytes) ≡ block_bytes more = ap (λ b. drop (number_in b) (after_number b)) same ∙ first_rest text more in
        record {
          more = more;
          fits = omega arith;
          within = omega arith;
          rest = r;
          is = e ∙ ap (λ x. x ∷ more) (sym t);
        }

pub not_empty : (bytes : List ℕ) (b : Bool) → b ≡ (length bytes == 0) → b ≡ false → 0 < length bytes
not_empty [] b e h = absurd cc
not_empty (x ∷ bytes) b e h = omega arith

-- one text is read
module _ (bytes : List ℕ) (n : ℕ) (after : List ℕ) (whole : bytes ≡ block_bytes (texts_in bytes)) (some : 0 < length bytes) (p : n ≡ number_in bytes) (q : after ≡ after_number bytes) where
  pub text_fits : n ≤ length after
  text_fits = let f = (first_of bytes whole some).within in let l : length after ≡ length (after_number bytes) = ap length q in omega arith

  module _ (text rest : List ℕ) (t : text ≡ take n after) (r : rest ≡ drop n after) where
    rest_block : rest ≡ block_bytes (first_of bytes whole some).more
    rest_block = r ∙ (λ i. drop (p i) (q i)) ∙ (first_of bytes whole some).rest

    rest_texts : texts_in rest ≡ (first_of bytes whole some).more
    rest_texts = ap texts_in rest_block ∙ texts_back (first_of bytes whole some).more

    pub stays_read : rest ≡ block_bytes (texts_in rest)
    stays_read = rest_block ∙ ap block_bytes (sym rest_texts)

    pub text_read : texts_in bytes ≡ text ∷ texts_in rest
    text_read = (first_of bytes whole some).is ∙ (λ i. take (sym p i) (sym q i) ∷ sym rest_texts i) ∙ ap (λ x. x ∷ texts_in rest) (sym t)
