-- The leaves at two states of the files.
use Rattle.std.proofs.Common.{◌≡◌, ◌≢◌, inl, inr, ℕ, ◌+◌, drop, length, Bool, true, false, cond, ◌||◌, ◌==◌, List, [], ◌∷◌, ◌++◌, map, Some, None, refl, sym, ◌∙◌, ap, subst}
use Rattle.std.specs.Option.{option_map, is_some}
use Rattle.std.specs.List.{list_any}
use Rattle.std.specs.FinMap as map_of
use Rattle.std.specs.Ordering.{nat_cmp, eq_by_cmp}
use Rattle.std.specs.Cmp.{eq_by_cmp_equiv}
use Rattle.std.specs.Cmp.Lexicographic.{slice_cmp, nat_list_cmp_total}
use Rattle.std.proofs.lemmas.Bool.{or_cases, false≢true}
use Rattle.std.proofs.lemmas.Map.Lookups.{exact_bytes}
use Rattle.std.proofs.lemmas.Map.Views.{tells_apart}
use Rattle.engine_semantics.specs.Value.{In, first, after}
use Rattle.labels.specs.Labels.{ancestors}
use Rattle.filetree.specs.Files.{Files, is_ancestor}
use Rattle.filetree.specs.Changes.{Change, put, del, path_of, files_after_change, all_changed}
use Rattle.filetree.specs.Listings.{rest_below, listing}
use Rattle.filetree.proofs.NameLists.{rest_passes, any_rest, names_of_rests}
use Rattle.filetree.proofs.Slashes.{ancestor_from}
use Rattle.filetree.proofs.Whole.{same_bool}
use Rattle.keys.specs.EditLeaves.{leaves_of, touched_leaves, IsTouched}
use Rattle.keys.specs.declared.key.Key.{Key}
use Rattle.keys.specs.declared.key.Key.TheVariants as key
use Rattle.keys.specs.declared.value.Value.{Value}
use Rattle.keys.specs.declared.value.Value.TheVariants as value
use Rattle.keys.specs.Leaves.{read, listed_of}

-- a leaf is a leaf at any state of the files
pub leaf_stays : (files later : Files) (k : Key) (v : Value) → read files k ≡ Some v → (x : Value) × (read later k ≡ Some x)
leaf_stays files later (key.File path) v e = (value.File (map_of.get later path), refl)
leaf_stays files later (key.Listing directory) v e = (value.Listing (option_map listed_of (listing later directory)), refl)
leaf_stays files later (key.Lookup directory) v e = cc
leaf_stays files later (key.Glob directory pattern directories) v e = cc
leaf_stays files later (key.Module label) v e = cc
leaf_stays files later (key.Package name) v e = cc
leaf_stays files later (key.Under directory) v e = cc

-- the same bytes
abbrev same : List ℕ → List ℕ → Bool
same = eq_by_cmp (slice_cmp nat_cmp)

-- some name of the list passes a test
some_passes : (t : List ℕ → Bool) (names : List (List ℕ)) → list_any t names ≡ true → (q : List ℕ) × (t q ≡ true) × (list_any (same q) names ≡ true)
some_passes t [] h = absurd (false≢true h)
some_passes t (n ∷ names) h = elim (or_cases (t n) (list_any t names) h) [
  | inl a ↦ (n, a, ap (λ b. b || list_any (same n) names) ((eq_by_cmp_equiv nat_list_cmp_total).refl n))
  | inr b ↦ let p = some_passes t names b in (p.0, p.1, later (same p.0 n) (list_any (same p.0) names) p.2)
]
  where
    later : (a b : Bool) → b ≡ true → a || b ≡ true
    later true b h = refl
    later false b h = h

passes_some : (t : List ℕ → Bool) (names : List (List ℕ)) (q : List ℕ) → t q ≡ true → list_any (same q) names ≡ true → list_any t names ≡ true
passes_some t [] q p h = absurd (false≢true h)
passes_some t (n ∷ names) q p h = elim (or_cases (same q n) (list_any (same q) names) h) [
  | inl a ↦ ap (λ b. b || list_any t names) (ap t (sym (tells_apart exact_bytes q n a)) ∙ p)
  | inr b ↦ later (t n) (list_any t names) (passes_some t names q p b)
]
  where
    later : (a b : Bool) → b ≡ true → a || b ≡ true
    later true b h = refl
    later false b h = h

-- what is before a slash of a path is among its ancestors
in_each : (b : ℕ) {d : List ℕ} {xs : List (List ℕ)} → In d xs → In (b ∷ d) (map (λ x. b ∷ x) xs)
in_each b first = first
in_each b (after i) = after (in_each b i)

either_way : {d : List ℕ} {xs : List (List ℕ)} (t : Bool) → In d xs → In d (cond t ([] ∷ xs) xs)
either_way true i = after i
either_way false i = i

ancestor_split : (d rest path : List ℕ) → path ≡ d ++ 47 ∷ rest → In d (ancestors path)
ancestor_split [] rest path e = subst (λ p. In [] (ancestors p)) (sym e) first
ancestor_split (b ∷ d) rest path e = subst (λ p. In (b ∷ d) (ancestors p)) (sym e) (either_way (b == 47) (in_each b (ancestor_split d rest (d ++ 47 ∷ rest) refl)))

listing_among : {d : List ℕ} {ds : List (List ℕ)} → In d ds → In (key.Listing d) (map key.Listing ds)
listing_among first = first
listing_among (after i) = after (listing_among i)

-- an edit of the path touches the leaf
abbrev touches : List ℕ → Key → Type 0
touches path k = In k (leaves_of path)

-- a path that touches no listing of a directory has no rest below it
no_rest : (d path : List ℕ) → (touches path (key.Listing d) → ⊥) → rest_below d path ≡ None
no_rest [] path n = absurd (n (after first))
no_rest (b ∷ d) path n = go (is_ancestor (b ∷ d) path) refl
  where
    go : (t : Bool) → is_ancestor (b ∷ d) path ≡ t → rest_below (b ∷ d) path ≡ None
    go true h = let p = ancestor_from (b ∷ d) path h in absurd (n (after (after (listing_among (ancestor_split (b ∷ d) p.0 path p.1)))))
    go false h = ap (λ t. cond t (Some (drop (length (b ∷ d) + 1) path)) None) h

-- two states of the files with the same names but for one path
module _ (files later : Files) (path : List ℕ) (others : (q : List ℕ) → same q path ≡ false → is_some (map_of.get later q) ≡ is_some (map_of.get files q)) where
  apart : (t : List ℕ → Bool) → t path ≡ false → (q : List ℕ) → t q ≡ true → same q path ≡ false
  apart t f q p = go (same q path) refl
    where
      go : (b : Bool) → same q path ≡ b → same q path ≡ false
      go true h = absurd (false≢true (sym f ∙ ap t (sym (tells_apart exact_bytes q path h)) ∙ p))
      go false h = h

  same_keys : (t : List ℕ → Bool) → t path ≡ false → list_any t (map_of.keys later) ≡ list_any t (map_of.keys files)
  same_keys t f = same_bool (list_any t (map_of.keys later)) (list_any t (map_of.keys files))
      (λ h. let p = some_passes t (map_of.keys later) h in
      passes_some t (map_of.keys files) p.0 p.1 (sym (map_of.contains_key-keys files p.0) ∙ sym (others p.0 (apart t f p.0 p.1)) ∙ map_of.contains_key-keys later p.0 ∙ p.2))
      (λ h g. let p = some_passes t (map_of.keys files) g in
      false≢true (sym h ∙ passes_some t (map_of.keys later) p.0 p.1 (sym (map_of.contains_key-keys later p.0) ∙ others p.0 (apart t f p.0 p.1) ∙ map_of.contains_key-keys files p.0 ∙ p.2)))

  -- a directory that the path does not lie below has the same names
  pub listing_stays : (d : List ℕ) → (touches path (key.Listing d) → ⊥) → listing later d ≡ listing files d
  listing_stays d n = names_of_rests d d (map_of.keys later) (map_of.keys files) (λ p.
      any_rest (rest_below d) p (map_of.keys later)
      ∙ same_keys (λ x. rest_passes p (rest_below d x)) (ap (rest_passes p) (no_rest d path n))
      ∙ sym (any_rest (rest_below d) p (map_of.keys files)))

-- another path is not the edited one
other_path : (path q : List ℕ) → key.File path ≢ key.File q → eq_by_cmp (slice_cmp nat_cmp) q path ≡ false
other_path path q n = go (eq_by_cmp (slice_cmp nat_cmp) q path) refl
  where
    go : (b : Bool) → eq_by_cmp (slice_cmp nat_cmp) q path ≡ b → eq_by_cmp (slice_cmp nat_cmp) q path ≡ false
    go true t = let e : q ≡ path = tells_apart exact_bytes q path t in absurd (n (cc))
    go false t = t

-- an edit changes no other leaf
not_file : (path q : List ℕ) → (touches path (key.File q) → ⊥) → key.File path ≢ key.File q
not_file path q n e = n (subst (touches path) e first)

pub put_reads : (files : Files) (path text : List ℕ) (k : Key) → (touches path k → ⊥) → read (map_of.insert files path text) k ≡ read files k
put_reads files path text (key.File q) n =
    ap (λ o. Some (value.File o)) (map_of.get-insert nat_list_cmp_total files path text q ∙ ap (λ b. cond b (Some text) (map_of.get files q)) (other_path path q (not_file path q n)))
put_reads files path text (key.Listing d) n =
    ap (λ o. Some (value.Listing (option_map listed_of o))) (listing_stays files (map_of.insert files path text) path
    (λ q a. ap is_some (map_of.get-insert nat_list_cmp_total files path text q ∙ ap (λ b. cond b (Some text) (map_of.get files q)) a)) d n)
put_reads files path text (key.Lookup directory) n = refl
put_reads files path text (key.Glob below pattern directories) n = refl
put_reads files path text (key.Module label) n = refl
put_reads files path text (key.Package name) n = refl
put_reads files path text (key.Under directory) n = refl

pub del_reads : (files : Files) (path : List ℕ) (k : Key) → (touches path k → ⊥) → read (map_of.remove files path) k ≡ read files k
del_reads files path (key.File q) n =
    ap (λ o. Some (value.File o)) (map_of.get-remove nat_list_cmp_total files path q ∙ ap (λ b. cond b None (map_of.get files q)) (other_path path q (not_file path q n)))
del_reads files path (key.Listing d) n =
    ap (λ o. Some (value.Listing (option_map listed_of o))) (listing_stays files (map_of.remove files path) path
    (λ q a. ap is_some (map_of.get-remove nat_list_cmp_total files path q ∙ ap (λ b. cond b None (map_of.get files q)) a)) d n)
del_reads files path (key.Lookup directory) n = refl
del_reads files path (key.Glob below pattern directories) n = refl
del_reads files path (key.Module label) n = refl
del_reads files path (key.Package name) n = refl
del_reads files path (key.Under directory) n = refl

change_reads : (files : Files) (c : Change) (k : Key) → (touches (path_of c) k → ⊥) → read (files_after_change c files) k ≡ read files k
change_reads files (put path text) k n = put_reads files path text k n
change_reads files (del path) k n = del_reads files path k n

in_front : {k : Key} {xs : List Key} (ys : List Key) → In k xs → In k (xs ++ ys)
in_front ys first = first
in_front ys (after i) = after (in_front ys i)

in_back : {k : Key} (xs : List Key) {ys : List Key} → In k ys → In k (xs ++ ys)
in_back [] i = i
in_back (x ∷ xs) i = after (in_back xs i)

-- changes leave each leaf that they do not touch
pub changes_read : (files : Files) (cs : List Change) (k : Key) → (IsTouched (map path_of cs) k → ⊥) → read (all_changed cs files) k ≡ read files k
changes_read files [] k n = refl
changes_read files (c ∷ cs) k n =
    changes_read (files_after_change c files) cs k (λ i. n (in_back (leaves_of (path_of c)) i))
    ∙ change_reads files c k (λ i. n (in_front (touched_leaves (map path_of cs)) i))
