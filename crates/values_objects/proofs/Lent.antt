-- Members and entries that are after other objects.
use Rattle.std.proofs.Common.{◌≡◌, ℕ, Bool, true, false, zero, suc, ◌+◌, ◌-◌, List, [], ◌∷◌, ◌++◌, length, take, drop, cond, Option, Some, None, option_map, map, refl, sym, ap, ◌∙◌, append_assoc, add-one}
use Rattle.std.specs.Prelude.{slice_get}
use Rattle.std.proofs.lemmas.List.{length-map, take-map, drop-map}
use Rattle.std.proofs.lemmas.Option.{slice_get-map}
use Rattle.values_semantics.specs.declared.key.Part.{Part}
use Rattle.values_semantics.specs.declared.val.Val.{Val}
use Rattle.values_semantics.specs.declared.val.Entry.{Entry}
use Rattle.values_semantics.specs.Keys.{same_key}
use Rattle.values_semantics.specs.Heap.{Entries}
use Rattle.values_semantics.specs.Comparing.{entry_at}
use Rattle.values_semantics.specs.Indexing.{cut, cut_at, between, bound_or}
use Rattle.values_frozen_objects.specs.Shift.{moved_val, moved_entry, moved_pair}

pub member_moved : (b : ℕ) (xs : List Val) (i : ℕ) → slice_get (map (moved_val b) xs) i ≡ option_map (moved_val b) (slice_get xs i)
member_moved b xs i = slice_get-map (moved_val b) xs i

pub pair_there : (b : ℕ) (es : Entries) (i : ℕ) → slice_get (map (moved_pair b) es) i ≡ option_map (moved_pair b) (slice_get es i)
pair_there b es i = slice_get-map (moved_pair b) es i

pub found_moved : (b : ℕ) (k : List Part) (es : Entries) → entry_at k (map (moved_pair b) es) ≡ option_map (moved_entry b) (entry_at k es)
found_moved b k [] = refl
found_moved b k (e ∷ es) = ap (λ o. cond (same_key k e.0) (Some (moved_entry b e.1)) o) (found_moved b k es) ∙ either (same_key k e.0)
  where
    either : (t : Bool) → cond t (Some (moved_entry b e.1)) (option_map (moved_entry b) (entry_at k es)) ≡ option_map (moved_entry b) (cond t (Some e.1) (entry_at k es))
    either true = refl
    either false = refl

between_moved : (b : ℕ) (xs : List Val) (i j : ℕ) → between (map (moved_val b) xs) i j ≡ map (moved_val b) (between xs i j)
between_moved b xs i j = ap (take (j - i)) (drop-map (moved_val b) i xs) ∙ take-map (moved_val b) (j - i) (drop i xs)

pub cut_moved : (b : ℕ) (xs : List Val) (from to : Val) → cut (map (moved_val b) xs) from to ≡ option_map (map (moved_val b)) (cut xs from to)
cut_moved b xs from to = ap (λ n. cut_at (map (moved_val b) xs) (bound_or 0 from n) (bound_or n to n)) (length-map xs (moved_val b)) ∙ at (bound_or 0 from (length xs)) (bound_or (length xs) to (length xs))
  where
    at : (i j : Option ℕ) → cut_at (map (moved_val b) xs) i j ≡ option_map (map (moved_val b)) (cut_at xs i j)
    at None j = refl
    at (Some i) None = refl
    at (Some i) (Some j) = ap Some (between_moved b xs i j)

-- a part, where both bounds are given
pub cut_there : (b : ℕ) (xs : List Val) (from to : Val) (i j : ℕ) → Some i ≡ bound_or 0 from (length xs) → Some j ≡ bound_or (length xs) to (length xs) → cut (map (moved_val b) xs) from to ≡ Some (map (moved_val b) (between xs i j))
cut_there b xs from to i j is js = cut_moved b xs from to ∙ ap (option_map (map (moved_val b))) (ap (λ o. cut_at xs o (bound_or (length xs) to (length xs))) (sym is) ∙ ap (cut_at xs (Some i)) (sym js))

-- ---- entries that are copied one by one

pub there : {A : Type 0} (xs : List A) (i : ℕ) (x : A) → slice_get xs i ≡ Some x → drop i xs ≡ x ∷ drop (suc i) xs
there [] i x h = cc
there (y ∷ ys) zero x h = let e : y ≡ x = cc in ap (λ z. z ∷ ys) e
there (y ∷ ys) (suc i) x h = there ys i x h

-- what is known of an iteration of the loop
pub pairs_more : (b : ℕ) (es : Entries) (i : ℕ) (done more whole : List Entry) (p : List Part × Entry) → done ++ map (λ e. e.1) (map (moved_pair b) (drop i es)) ≡ whole → Some p ≡ slice_get es i → more ≡ done ++ moved_entry b p.1 ∷ [] → more ++ map (λ e. e.1) (map (moved_pair b) (drop (i + 1) es)) ≡ whole
pairs_more b es i done more whole p inv h g = rw (g, append_assoc, add-one) (rw (there es i p (sym h)) at inv)
