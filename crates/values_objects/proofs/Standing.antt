-- Own objects by their numbers.
use Rattle.std.proofs.Common.{◌≡◌, ℕ, ◌<◌, ◌≤◌, ◌⊎◌, inl, inr, true, false, true≢false, cond, List, length, Option, Some, None, is_none, option_map, get_or, refl, sym, subst, ap}
use Rattle.std.specs.Prelude.{slice_get}
use Rattle.std.proofs.lemmas.Option.{slice_get_read, slice_get_cases}
use Rattle.values_objects.specs.declared.heap_object.HeapObject.{HeapObject}
use Rattle.values_objects.specs.declared.object.Object.{Object}
use Rattle.values_objects.specs.ObjectBytes.{object_bytes, standing_bytes, counted_bytes, bytes_while}
use Rattle.values_objects.specs.Own.{written_object}
use Rattle.values_objects.specs.Standings.{standing_of}

-- what is there
pub there : {A B : Type 0} (v : A → B) (xs : List A) (n i : ℕ) (found : A) → n ≡ length xs → i < n → found ≡ get_or xs i found → option_map v (slice_get xs i) ≡ Some (v found)
there v xs n i found len lt e = ap (option_map v) (slice_get_read xs n i found len lt e)

-- nothing is past the end
pub none_there : {A B : Type 0} (v : A → B) (xs : List A) (n i : ℕ) → n ≡ length xs → (i < n → false ≡ true) → option_map v (slice_get xs i) ≡ None
none_there {A = A} v xs n i len past = ap (option_map v) (by (slice_get_cases xs i).1)
  where
    by : ((x : A) × (i < length xs) × (slice_get xs i ≡ Some x) × (get_or xs i x ≡ x)) ⊎ ((length xs ≤ i) × (slice_get xs i ≡ None)) → slice_get xs i ≡ None
    by (inl there) = absurd (true≢false (sym (past (subst (λ (m : ℕ). i < m) (sym len) there.1))))
    by (inr none) = none.1

-- an own object counts for its bytes while its memory is there
pub own_bytes : (h : HeapObject) → counted_bytes h ≡ standing_bytes (Some (standing_of h))
own_bytes h = by h.object
  where
    by : (o : Option Object) → bytes_while o (object_bytes (written_object h)) ≡ cond (is_none o) 0 (object_bytes (written_object h))
    by (Some o) = refl
    by None = refl
