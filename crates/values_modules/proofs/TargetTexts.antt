-- Attributes and targets are read of their texts as they were written.
use Rattle.std.proofs.Common.{◌≡◌, ℕ, Bool, true, false, ◌&&◌, List, [], ◌∷◌, ◌++◌, refl, sym, ◌∙◌, ap, append_assoc}
use Rattle.std.specs.Str.{is_utf8}
use Rattle.values_modules.specs.Values.{Attribute, single, several, Target}
use Rattle.values_modules.specs.Blocks.{block_bytes, texts_in}
use Rattle.values_modules.specs.Encoding.{form_of, value_of, attribute_texts, target_texts, attribute_in, attributes_in, targets_in, have_text_kinds, BlocksTellTargets}
use Rattle.values_modules.proofs.BlockTexts.{texts_back, one_block}

attribute_back : (a : Attribute) → attribute_in (form_of a) (value_of a) ≡ a
attribute_back (single text) = refl
attribute_back (several texts) = ap several (texts_back texts)

pub attributes_back : (xs : List (List ℕ × Attribute)) → attributes_in (attribute_texts xs) ≡ xs
attributes_back [] = refl
attributes_back (a ∷ more) = (λ i. (a.0, attribute_back a.1 i) ∷ attributes_back more i)

pub targets_back : (ts : List Target) → targets_in (target_texts ts) ≡ ts
targets_back [] = refl
targets_back (t ∷ more) =
    let a : attributes_in (texts_in (block_bytes (attribute_texts t.attributes))) ≡ t.attributes = ap attributes_in (texts_back (attribute_texts t.attributes)) ∙ attributes_back t.attributes in
    (λ i. record { kind = t.kind; name = t.name; attributes = a i } ∷ targets_back more i)

pub blocks_tell_targets : BlocksTellTargets
blocks_tell_targets a b e = sym (targets_back a) ∙ ap targets_in (one_block (target_texts a) (target_texts b) e) ∙ targets_back b

-- three texts more
three : (xs : List (List ℕ)) (x y z : List ℕ) → ((xs ++ x ∷ []) ++ y ∷ []) ++ z ∷ [] ≡ xs ++ x ∷ y ∷ z ∷ []
three xs x y z = ap (λ l. l ++ z ∷ []) (append_assoc xs (x ∷ []) (y ∷ [])) ∙ append_assoc xs (x ∷ y ∷ []) (z ∷ [])

attributes_push : (xs : List (List ℕ × Attribute)) (a : List ℕ × Attribute) → attribute_texts (xs ++ a ∷ []) ≡ attribute_texts xs ++ a.0 ∷ form_of a.1 ∷ value_of a.1 ∷ []
attributes_push [] a = refl
attributes_push (b ∷ xs) a = ap (λ l. b.0 ∷ form_of b.1 ∷ value_of b.1 ∷ l) (attributes_push xs a)

targets_push : (ts : List Target) (t : Target) → target_texts (ts ++ t ∷ []) ≡ target_texts ts ++ t.kind ∷ t.name ∷ block_bytes (attribute_texts t.attributes) ∷ []
targets_push [] t = refl
targets_push (u ∷ ts) t = ap (λ l. u.kind ∷ u.name ∷ block_bytes (attribute_texts u.attributes) ∷ l) (targets_push ts t)

-- an attribute more
module _ (old a b new : List (List ℕ)) (x : List ℕ × Attribute) (whole : old ≡ attribute_texts (attributes_in old))
    (p : a ≡ old ++ x.0 ∷ []) (q : b ≡ a ++ form_of x.1 ∷ []) (r : new ≡ b ++ value_of x.1 ∷ []) where
  attributes_grown : new ≡ attribute_texts (attributes_in old ++ x ∷ [])
  attributes_grown =
      r ∙ ap (λ l. l ++ value_of x.1 ∷ []) (q ∙ ap (λ l. l ++ form_of x.1 ∷ []) p) ∙ three old x.0 (form_of x.1) (value_of x.1)
      ∙ ap (λ l. l ++ x.0 ∷ form_of x.1 ∷ value_of x.1 ∷ []) whole ∙ sym (attributes_push (attributes_in old) x)

  pub attribute_added : attributes_in new ≡ attributes_in old ++ x ∷ []
  attribute_added = ap attributes_in attributes_grown ∙ attributes_back (attributes_in old ++ x ∷ [])

  pub stay_attributes : new ≡ attribute_texts (attributes_in new)
  stay_attributes = attributes_grown ∙ ap attribute_texts (sym attribute_added)

both_true : (p q : Bool) → p ≡ true → q ≡ true → p && q ≡ true
both_true p q h g = ap (λ x. x && q) h ∙ g

first_true : (p q : Bool) → p && q ≡ true → p ≡ true
first_true true q h = refl
first_true false q h = cc

second_true : (p q : Bool) → p && q ≡ true → q ≡ true
second_true true q h = h
second_true false q h = cc

kinds_push : (ts : List Target) (t : Target) → have_text_kinds ts ≡ true → is_utf8 t.kind ≡ true → have_text_kinds (ts ++ t ∷ []) ≡ true
kinds_push [] t h k = both_true (is_utf8 t.kind) true k refl
kinds_push (u ∷ ts) t h k =
    both_true (is_utf8 u.kind) (have_text_kinds (ts ++ t ∷ [])) (first_true (is_utf8 u.kind) (have_text_kinds ts) h) (kinds_push ts t (second_true (is_utf8 u.kind) (have_text_kinds ts) h) k)

-- a target more
module _ (old a b new : List (List ℕ)) (t : Target) (whole : old ≡ target_texts (targets_in old))
    (p : a ≡ old ++ t.kind ∷ []) (q : b ≡ a ++ t.name ∷ []) (r : new ≡ b ++ block_bytes (attribute_texts t.attributes) ∷ []) where
  targets_grown : new ≡ target_texts (targets_in old ++ t ∷ [])
  targets_grown =
      r ∙ ap (λ l. l ++ block_bytes (attribute_texts t.attributes) ∷ []) (q ∙ ap (λ l. l ++ t.name ∷ []) p) ∙ three old t.kind t.name (block_bytes (attribute_texts t.attributes))
      ∙ ap (λ l. l ++ t.kind ∷ t.name ∷ block_bytes (attribute_texts t.attributes) ∷ []) whole ∙ sym (targets_push (targets_in old) t)

  pub target_added : targets_in new ≡ targets_in old ++ t ∷ []
  target_added = ap targets_in targets_grown ∙ targets_back (targets_in old ++ t ∷ [])

  pub stay_targets : new ≡ target_texts (targets_in new)
  stay_targets = targets_grown ∙ ap target_texts (sym target_added)

  pub stay_text_kinds : have_text_kinds (targets_in old) ≡ true → is_utf8 t.kind ≡ true → have_text_kinds (targets_in new) ≡ true
  stay_text_kinds h k = ap have_text_kinds target_added ∙ kinds_push (targets_in old) t h k

-- what is read of the texts of a target and more
module _ (texts two one : List (List ℕ)) (kind name attributes : List ℕ) (rest : List (List ℕ)) (p : texts ≡ kind ∷ two) (q : two ≡ name ∷ one) (r : one ≡ attributes ∷ rest) (whole : texts ≡ target_texts (targets_in texts)) where
  opened : texts ≡ kind ∷ name ∷ attributes ∷ rest
  opened = p ∙ ap (λ l. kind ∷ l) (q ∙ ap (λ l. name ∷ l) r)

  same : kind ∷ name ∷ attributes ∷ rest ≡ target_texts (targets_in (kind ∷ name ∷ attributes ∷ rest))
  same = sym opened ∙ whole ∙ ap (λ l. target_texts (targets_in l)) opened

  written : attributes ≡ block_bytes (attribute_texts (attributes_in (texts_in attributes)))
  written = let e = same in cc

  pub reads_attributes : texts_in attributes ≡ attribute_texts (attributes_in (texts_in attributes))
  reads_attributes = ap texts_in written ∙ texts_back (attribute_texts (attributes_in (texts_in attributes)))

  pub block_of_attributes : attributes ≡ block_bytes (texts_in attributes)
  block_of_attributes = written ∙ ap block_bytes (sym reads_attributes)

  pub kind_is_text : have_text_kinds (targets_in texts) ≡ true → is_utf8 kind ≡ true
  kind_is_text h = first_true (is_utf8 kind) (have_text_kinds (targets_in rest)) (sym (ap (λ l. have_text_kinds (targets_in l)) opened) ∙ h)
