-- Names that ascend are sorted.
use Rattle.std.proofs.Common.{◌≡◌, ◌∙◌, ap, refl, ℕ, true, ◌&&◌, List, [], ◌∷◌, map as each}
use Rattle.std.specs.FinMap as map
use Rattle.std.specs.FinMap.Entries.{by_order}
use Rattle.std.specs.List.{list_all}
use Rattle.std.specs.Ordering.{nat_cmp, is_lt}
use Rattle.std.specs.declared.cmp.Ordering.{Ordering}
use Rattle.std.specs.Cmp.Lexicographic.{slice_cmp, nat_list_cmp_total}
use Rattle.std.proofs.lemmas.Bool.{and_parts}
use Rattle.filetree.specs.Listings.{alone, sorted_names}
use Rattle.filetree.specs.NameMaps.{is_ascending}
use Rattle.filetree.proofs.FilesLemmas.{no_entries}
use Rattle.filetree.proofs.Order.{below}

-- the names of entries as keys of a map that holds nothing else
abbrev keys_alone : {X : Type 0} → List (List ℕ × X) → List (List ℕ × ℕ)
keys_alone es = each alone (each (λ e. e.0) es)

put_first : {X : Type 0} (k : List ℕ) (es : List (List ℕ × X)) → list_all (λ f. is_lt (slice_cmp nat_cmp k f.0)) es ≡ true → map.put (slice_cmp nat_cmp) k 0 (keys_alone es) ≡ alone k ∷ keys_alone es
put_first k [] h = refl
put_first k (e ∷ es) h =
    let made : Ordering → List (List ℕ × ℕ) = λ o. by_order o (alone k ∷ keys_alone (e ∷ es)) (alone e.0 ∷ keys_alone es) (alone e.0 ∷ map.put (slice_cmp nat_cmp) k 0 (keys_alone es)) in
    ap made (below k e.0 (and_parts (is_lt (slice_cmp nat_cmp k e.0)) (list_all (λ f. is_lt (slice_cmp nat_cmp k f.0)) es) h).0)

entries_stay : {X : Type 0} (es : List (List ℕ × X)) → is_ascending es ≡ true → map.entries (map.from_entries {R = slice_cmp nat_cmp} (keys_alone es)) ≡ keys_alone es
entries_stay [] h = no_entries
entries_stay (e ∷ es) h =
    let both = and_parts (list_all (λ f. is_lt (slice_cmp nat_cmp e.0 f.0)) es) (is_ascending es) h in
    map.entries-insert nat_list_cmp_total (map.from_entries (keys_alone es)) e.0 0
    ∙ ap (map.put (slice_cmp nat_cmp) e.0 0) (entries_stay es both.1) ∙ put_first e.0 es both.0

firsts : (names : List (List ℕ)) → each (λ e. e.0) (each alone names) ≡ names
firsts [] = refl
firsts (n ∷ names) = ap (λ r. n ∷ r) (firsts names)

-- names that ascend are sorted
pub sorted_stay : {X : Type 0} (es : List (List ℕ × X)) → is_ascending es ≡ true → sorted_names (each (λ e. e.0) es) ≡ each (λ e. e.0) es
sorted_stay es h = ap (each (λ e. e.0)) (entries_stay es h) ∙ firsts (each (λ e. e.0) es)
