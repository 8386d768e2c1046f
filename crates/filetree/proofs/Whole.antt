-- The map of all files, from the entries of the first folder.
use Rattle.std.proofs.Common.{◌≡◌, ◌∙◌, ap, sym, refl, ℕ, Bool, true, false, cond, ◌||◌, List, [], ◌∷◌, ◌++◌, Option, Some, None, map as each, inl, inr}
use Rattle.std.specs.Prelude.{is_some, bytes_eq}
use Rattle.std.specs.FinMap as map
use Rattle.std.specs.List.{list_any}
use Rattle.std.specs.Ordering.{nat_cmp, eq_by_cmp}
use Rattle.std.specs.declared.cmp.Ordering.TheVariants.{Equal}
use Rattle.std.specs.Cmp.{eq_by_cmp_equiv}
use Rattle.std.specs.Cmp.Lexicographic.{slice_cmp, nat_list_cmp_total}
use Rattle.std.proofs.lemmas.Bool.{false≢true, or_cases}
use Rattle.std.proofs.lemmas.Map.Text.{is_eq-slice_cmp}
use Rattle.filetree.specs.Files.{is_ancestor, is_directory, is_below_a_file}
use Rattle.filetree.specs.Folders.{Entries, text_at}
use Rattle.filetree.proofs.FilesLemmas.{any_key}
use Rattle.filetree.proofs.Slashes.{same_bytes, ancestor_from, ancestor_of}
use Rattle.filetree.proofs.Above.{first_text}

found_text : (es : Entries) (q : List ℕ) → map.find (slice_cmp nat_cmp) q es ≡ text_at es q
found_text [] q = refl
found_text (e ∷ es) q = ap (cond (eq_by_cmp (slice_cmp nat_cmp) q e.0) (Some e.1)) (found_text es q) ∙ ap (λ b. cond b (Some e.1) (text_at es q)) (is_eq-slice_cmp q e.0)

pub get_text : (es : Entries) (q : List ℕ) → map.get (map.from_entries {R = slice_cmp nat_cmp} es) q ≡ text_at es q
get_text es q = map.get-from_entries nat_list_cmp_total es q ∙ found_text es q

same_key : (k q : List ℕ) → bytes_eq k q ≡ eq_by_cmp (slice_cmp nat_cmp) q k
same_key k q = sym (is_eq-slice_cmp k q) ∙ (eq_by_cmp_equiv nat_list_cmp_total).symm k q

same_text : (x y : List ℕ) → slice_cmp nat_cmp x y ≡ Equal → x ≡ y
same_text = map.slice_cmp-IsAntisymmetric map.nat_cmp-IsAntisymmetric

pub put_entries : (es gs : Entries) (k t : List ℕ) → ((q : List ℕ) → text_at gs q ≡ cond (bytes_eq k q) (Some t) (text_at es q))
    → map.from_entries {R = slice_cmp nat_cmp} gs ≡ map.insert (map.from_entries es) k t
put_entries es gs k t h = map.same_map nat_list_cmp_total same_text _ _ (λ q.
    get_text gs q ∙ h q ∙ ap (λ b. cond b (Some t) (text_at es q)) (same_key k q) ∙ ap (cond (eq_by_cmp (slice_cmp nat_cmp) q k) (Some t)) (sym (get_text es q))
    ∙ sym (map.get-insert nat_list_cmp_total (map.from_entries es) k t q))

pub del_entries : (es gs : Entries) (k : List ℕ) → ((q : List ℕ) → text_at gs q ≡ cond (bytes_eq k q) None (text_at es q))
    → map.from_entries {R = slice_cmp nat_cmp} gs ≡ map.remove (map.from_entries es) k
del_entries es gs k h = map.same_map nat_list_cmp_total same_text _ _ (λ q.
    get_text gs q ∙ h q ∙ ap (λ b. cond b None (text_at es q)) (same_key k q) ∙ ap (cond (eq_by_cmp (slice_cmp nat_cmp) q k) None) (sym (get_text es q))
    ∙ sym (map.get-remove nat_list_cmp_total (map.from_entries es) k q))

or_right : (a b : Bool) → b ≡ true → a || b ≡ true
or_right true b h = refl
or_right false b h = h

pub any_from : (p : List ℕ → Bool) (es : Entries) (q : List ℕ) → p q ≡ true → is_some (text_at es q) ≡ true → list_any p (each (λ e. e.0) es) ≡ true
any_from p [] q pq h = absurd (false≢true h)
any_from p (e ∷ es) q pq h =
    elim (bytes_eq q e.0) as (λ b. bytes_eq q e.0 ≡ b → is_some (cond b (Some e.1) (text_at es q)) ≡ true → p e.0 || list_any p (each (λ e. e.0) es) ≡ true) [
      | true ↦ λ b g. ap (λ x. x || list_any p (each (λ e. e.0) es)) (ap p (sym (same_bytes q e.0 b)) ∙ pq)
      | false ↦ λ b g. or_right (p e.0) (list_any p (each (λ e. e.0) es)) (any_from p es q pq g)
    ] refl h

some_later : (e : List ℕ × List ℕ) (es : Entries) (q : List ℕ) → is_some (text_at es q) ≡ true → is_some (text_at (e ∷ es) q) ≡ true
some_later e es q h = elim (bytes_eq q e.0) as (λ b. is_some (cond b (Some e.1) (text_at es q)) ≡ true) [ true ↦ refl | false ↦ h ]

pub any_to : (p : List ℕ → Bool) (es : Entries) → list_any p (each (λ e. e.0) es) ≡ true → (q : List ℕ) × (p q ≡ true) × (is_some (text_at es q) ≡ true)
any_to p [] h = absurd (false≢true h)
any_to p (e ∷ es) h =
    elim (or_cases (p e.0) (list_any p (each (λ e. e.0) es)) h) [
      | inl here ↦ (e.0, here, first_text e es)
      | inr later ↦ let one = any_to p es later in (one.0, one.1, some_later e es one.0 one.2)
    ]

pub same_bool : (r b : Bool) → (r ≡ true → b ≡ true) → (r ≡ false → b ≡ true → ⊥) → r ≡ b
same_bool true b told not_told = sym (told refl)
same_bool false true told not_told = absurd (not_told refl refl)
same_bool false false told not_told = refl

some_not_none : {X : Type 0} (o : Option X) → is_some o ≡ true → o ≡ None → ⊥
some_not_none o h e = false≢true (sym (ap is_some e) ∙ h)

pub directory_told : (es : Entries) (path : List ℕ) (r : Bool) → (r ≡ true → (rest : List ℕ) × (is_some (text_at es (path ++ 47 ∷ rest)) ≡ true))
    → (r ≡ false → (rest : List ℕ) → text_at es (path ++ 47 ∷ rest) ≡ None) → r ≡ is_directory (map.from_entries es) path
directory_told es path r told not_told =
    same_bool r (list_any (is_ancestor path) (each (λ e. e.0) es))
    (λ h. let one = told h in any_from (is_ancestor path) es (path ++ 47 ∷ one.0) (ancestor_of path one.0) one.1)
    (λ h g. let one = any_to (is_ancestor path) es g in let on = ancestor_from path one.0 one.1 in some_not_none (text_at es one.0) one.2 (ap (text_at es) on.1 ∙ not_told h on.0))
    ∙ sym (any_key (is_ancestor path) es)

pub above_told : (es : Entries) (path : List ℕ) (r : Bool) → (r ≡ true → (front : List ℕ) × (rest : List ℕ) × (path ≡ front ++ 47 ∷ rest) × (is_some (text_at es front) ≡ true))
    → (r ≡ false → (front rest : List ℕ) → path ≡ front ++ 47 ∷ rest → text_at es front ≡ None) → r ≡ is_below_a_file (map.from_entries es) path
above_told es path r told not_told =
    same_bool r (list_any (λ file. is_ancestor file path) (each (λ e. e.0) es))
    (λ h. let one = told h in any_from (λ file. is_ancestor file path) es one.0 (ap (is_ancestor one.0) one.2 ∙ ancestor_of one.0 one.1) one.3)
    (λ h g. let one = any_to (λ file. is_ancestor file path) es g in let on = ancestor_from one.0 path one.1 in some_not_none (text_at es one.0) one.2 (not_told h one.0 on.0 on.1))
    ∙ sym (any_key (λ file. is_ancestor file path) es)
