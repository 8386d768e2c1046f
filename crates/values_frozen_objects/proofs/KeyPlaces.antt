-- The places of keys, and one key set.
use Rattle.std.proofs.Common.{◌≡◌, ◌<◌, ℕ, zero, suc, Bool, true, false, cond, List, [], ◌∷◌, ◌++◌, length, get_or, slice_set, Option, Some, None, option_map, refl, ap, sym, ◌∙◌, arith}
use Rattle.values_semantics.specs.declared.key.Part.{Part}
use Rattle.values_semantics.specs.declared.val.Entry.{Entry}
use Rattle.values_semantics.specs.Keys.{same_key}
use Rattle.values_semantics.specs.KeyLaws.{keys_decide, keys_equiv}
use Rattle.values_semantics.specs.Heap.{Entries}
use Rattle.values_semantics.specs.Comparing.{entry_at}
use Rattle.values_semantics.specs.Indexing.{with_key}
use Rattle.values_frozen_objects.specs.Places.{place_of}

-- the place of a key, where its place after the first entry is o, and b tells whether the first has it
abbrev step : Bool → Option ℕ → Option ℕ
step b o = cond b (Some 0) (option_map suc o)

first : (b : Bool) (o : Option ℕ) → step b o ≡ Some 0 → b ≡ true
first true o h = refl
first false None h = cc
first false (Some j) h = cc

behind : (b : Bool) (o : Option ℕ) (i : ℕ) → step b o ≡ Some (suc i) → (b ≡ false) × (o ≡ Some i)
behind true o i h = cc
behind false None i h = cc
behind false (Some j) i h = (refl, cc)

nowhere : (b : Bool) (o : Option ℕ) → step b o ≡ None → (b ≡ false) × (o ≡ None)
nowhere true o h = cc
nowhere false None h = (refl, refl)
nowhere false (Some j) h = cc

pub place_within : (k : List Part) (es : Entries) (i : ℕ) → place_of k es ≡ Some i → i < length es
place_within k [] i h = cc
place_within k (e ∷ es) zero h = omega arith
place_within k (e ∷ es) (suc i) h = let more = place_within k es i (behind (same_key k e.0) (place_of k es) i h).1 in omega arith

pub found_there : (k : List Part) (es : Entries) (i : ℕ) (d : List Part × Entry) → place_of k es ≡ Some i → entry_at k es ≡ Some (get_or es i d).1
found_there k [] i d h = cc
found_there k (e ∷ es) zero d h = ap (λ b. cond b (Some e.1) (entry_at k es)) (first (same_key k e.0) (place_of k es) h)
found_there k (e ∷ es) (suc i) d h =
    let t = behind (same_key k e.0) (place_of k es) i h in
    ap (λ b. cond b (Some e.1) (entry_at k es)) t.0 ∙ found_there k es i d t.1

pub found_nowhere : (k : List Part) (es : Entries) → place_of k es ≡ None → entry_at k es ≡ None
found_nowhere k [] h = refl
found_nowhere k (e ∷ es) h =
    let t = nowhere (same_key k e.0) (place_of k es) h in
    ap (λ b. cond b (Some e.1) (entry_at k es)) t.0 ∙ found_nowhere k es t.1

-- another entry at the place of a key is that key set again
pub set_there : (k : List Part) (x : Entry) (es : Entries) (i : ℕ) (p : List Part × Entry) → p ≡ get_or es i p → place_of k es ≡ Some i → slice_set es i (p.0, x) ≡ with_key k x es
set_there k x [] i p is h = cc
set_there k x (e ∷ es) zero p is h =
    ap (λ (q : List Part × Entry). (q.0, x) ∷ es) is
    ∙ sym (ap (λ b. cond b ((e.0, x) ∷ es) (e ∷ with_key k x es)) (first (same_key k e.0) (place_of k es) h))
set_there k x (e ∷ es) (suc i) p is h =
    let t = behind (same_key k e.0) (place_of k es) i h in
    ap (λ l. e ∷ l) (set_there k x es i p is t.1)
    ∙ sym (ap (λ b. cond b ((e.0, x) ∷ es) (e ∷ with_key k x es)) t.0)

-- and no key gets another place by it
pub places_stay : (q : List Part) (x : Entry) (es : Entries) (i : ℕ) (p : List Part × Entry) → p ≡ get_or es i p → place_of q es ≡ place_of q (slice_set es i (p.0, x))
places_stay q x [] i p is = refl
places_stay q x (e ∷ es) zero p is = sym (ap (λ (r : List Part × Entry). step (same_key q r.0) (place_of q es)) is)
places_stay q x (e ∷ es) (suc i) p is = ap (step (same_key q e.0)) (places_stay q x es i p is)

-- a key that is not there is set at the end
pub set_behind : (k : List Part) (x : Entry) (es : Entries) → place_of k es ≡ None → es ++ (k, x) ∷ [] ≡ with_key k x es
set_behind k x [] h = refl
set_behind k x (e ∷ es) h =
    let t = nowhere (same_key k e.0) (place_of k es) h in
    ap (λ l. e ∷ l) (set_behind k x es t.1)
    ∙ sym (ap (λ b. cond b ((e.0, x) ∷ es) (e ∷ with_key k x es)) t.0)

own_place : (k : List Part) (x : Entry) (es : Entries) → place_of k es ≡ None → Some (length es) ≡ place_of k (es ++ (k, x) ∷ [])
own_place k x [] h = sym (ap (λ b. step b None) ((keys_decide k k).1 refl))
own_place k x (e ∷ es) h =
    let t = nowhere (same_key k e.0) (place_of k es) h in
    ap (option_map suc) (own_place k x es t.1)
    ∙ sym (ap (λ b. step b (place_of k (es ++ (k, x) ∷ []))) t.0)

other_place : (k q : List Part) (x : Entry) (es : Entries) → same_key q k ≡ false → place_of q es ≡ place_of q (es ++ (k, x) ∷ [])
other_place k q x [] miss = sym (ap (λ b. step b None) miss)
other_place k q x (e ∷ es) miss = ap (step (same_key q e.0)) (other_place k q x es miss)

-- the places with that of a key at the end
pub place_more : (k q : List Part) (x : Entry) (es : Entries) → place_of k es ≡ None → cond (same_key k q) (Some (length es)) (place_of q es) ≡ place_of q (es ++ (k, x) ∷ [])
place_more k q x es new = by (same_key k q) refl
  where
    by : (b : Bool) → same_key k q ≡ b → cond (same_key k q) (Some (length es)) (place_of q es) ≡ place_of q (es ++ (k, x) ∷ [])
    by true is =
        ap (λ b. cond b (Some (length es)) (place_of q es)) is
        ∙ own_place k x es new
        ∙ ap (λ r. place_of r (es ++ (k, x) ∷ [])) ((keys_decide k q).0 is)
    by false is =
        ap (λ b. cond b (Some (length es)) (place_of q es)) is
        ∙ other_place k q x es (sym (keys_equiv.symm k q) ∙ is)
