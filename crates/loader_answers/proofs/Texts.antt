-- Entries that have the texts of their names.
use Rattle.std.proofs.Common.{◌≡◌, ℕ, Bool, true, false, cond, List, [], ◌∷◌, ◌++◌, map, refl, ap, sym, ◌∙◌, ◌||◌, None, Some}
use Rattle.std.specs.Prelude.{Result, Ok, Err, OnOk}
use Rattle.std.specs.Map.{lookup}
use Rattle.std.proofs.lemmas.List.{map-append}
use Rattle.shelf.specs.Lists.{same_text}
use Rattle.loader_answers.specs.Publishing.{Entries, has_name, names_in, and_name}
use Rattle.loader_answers.proofs.Naming.{one_text}

module _ (text : List ℕ → List ℕ) where
  abbrev with_texts : List (List ℕ) → Entries
  with_texts = map (λ name. (name, text name))

  head_is : (e : List ℕ × List ℕ) (es : Entries) → e ∷ es ≡ with_texts (names_in (e ∷ es)) → e.1 ≡ text e.0
  head_is e es h = cc

  rest_is : (e : List ℕ × List ℕ) (es : Entries) → e ∷ es ≡ with_texts (names_in (e ∷ es)) → es ≡ with_texts (names_in es)
  rest_is e es h = cc

  pub found_text : (name t : List ℕ) (entries : Entries) → entries ≡ with_texts (names_in entries) → lookup (λ n. same_text n name) entries ≡ Some t → t ≡ text name
  found_text name t [] h e = absurd (cc e)
  found_text name t (x ∷ xs) h e = go (same_text x.0 name) refl (λ later. found_text name t xs (rest_is x xs h) later) e
    where
      go : (b : Bool) → same_text x.0 name ≡ b → (lookup (λ n. same_text n name) xs ≡ Some t → t ≡ text name)
          → cond b (Some x.1) (lookup (λ n. same_text n name) xs) ≡ Some t → t ≡ text name
      go true same later e = let is : x.1 ≡ t = cc in sym is ∙ head_is x xs h ∙ ap text (one_text x.0 name same)
      go false same later e = later e

pub name_found : (name t : List ℕ) (entries : Entries) → lookup (λ n. same_text n name) entries ≡ Some t → has_name name (names_in entries) ≡ true
name_found name t [] e = absurd (cc e)
name_found name t (x ∷ xs) e = go (same_text x.0 name) (λ later. name_found name t xs later) e
  where
    go : (b : Bool) → (lookup (λ n. same_text n name) xs ≡ Some t → has_name name (names_in xs) ≡ true)
        → cond b (Some x.1) (lookup (λ n. same_text n name) xs) ≡ Some t → b || has_name name (names_in xs) ≡ true
    go true later e = refl
    go false later e = later e

pub name_lacks : (name : List ℕ) (entries : Entries) → lookup (λ n. same_text n name) entries ≡ None → has_name name (names_in entries) ≡ false
name_lacks name [] e = refl
name_lacks name (x ∷ xs) e = go (same_text x.0 name) (λ later. name_lacks name xs later) e
  where
    go : (b : Bool) → (lookup (λ n. same_text n name) xs ≡ None → has_name name (names_in xs) ≡ false)
        → cond b (Some x.1) (lookup (λ n. same_text n name) xs) ≡ None → b || has_name name (names_in xs) ≡ false
    go true later e = absurd (cc e)
    go false later e = later e

pub names_stay : (name : List ℕ) (names : List (List ℕ)) → has_name name names ≡ true → and_name names name ≡ names
names_stay name names e = ap (λ b. cond b names (names ++ name ∷ [])) e

pub names_grow : (name : List ℕ) (names : List (List ℕ)) → has_name name names ≡ false → and_name names name ≡ names ++ name ∷ []
names_grow name names e = ap (λ b. cond b names (names ++ name ∷ [])) e

pub names_of_more : (entries : Entries) (e : List ℕ × List ℕ) → names_in (entries ++ e ∷ []) ≡ names_in entries ++ e.0 ∷ []
names_of_more entries e = map-append (λ (e : List ℕ × List ℕ). e.0) entries (e ∷ [])

-- what holds anyway holds where there is a result
pub on_ok : {A E : Type 0} {P : Type 0} (r : Result A E) → P → OnOk r P
on_ok (Ok x) h = h
on_ok (Err e) h = tt
