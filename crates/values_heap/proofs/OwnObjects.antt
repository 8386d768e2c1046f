-- The own objects of a heap, by their numbers.
use Rattle.std.proofs.Common.{◌≡◌, ℕ, zero, suc, ◌+◌, ◌-◌, ◌≤◌, List, [], ◌∷◌, ◌++◌, length, take, drop, map, refl, sym, ap, ◌∙◌, arith}
use Rattle.std.specs.Prelude.{slice_get, filter}
use Rattle.std.specs.Arc.{arc_value}
use Rattle.std.proofs.lemmas.List.{take-append-drop}
use Rattle.std.proofs.lemmas.List.Elements.{filter-append}
use Rattle.std.proofs.Math.Seq.{drop-nil}
use Rattle.values_semantics.specs.Heap.{Obj}
use Rattle.values_semantics.specs.Indexing.{between}
use Rattle.values_heap.specs.declared.objects.Range.{Range}
use Rattle.values_heap.specs.Ranges.{lent_at, laid, laid_by, InOrder, range_standings}
use Rattle.values_objects.specs.Standings.{Standing, is_own}
use Rattle.values_objects.proofs.AllOwn.{AreOwn, own_all, own_drop, own_take}

own_none : (start : ℕ) (xs : List Obj) → filter is_own (map (lent_at start) xs) ≡ []
own_none start [] = refl
own_none start (x ∷ xs) = own_none start xs

drop_more : {A : Type 0} (a k : ℕ) (xs : List A) → drop k (drop a xs) ≡ drop (a + k) xs
drop_more zero k xs = ap (λ n. drop n xs) (omega arith)
drop_more (suc a) k [] = drop-nil k ∙ sym (drop-nil (suc a + k))
drop_more (suc a) k (x ∷ xs) =
    let more : suc (a + k) ≡ suc a + k = omega arith in
    drop_more a k xs ∙ ap (λ n. drop n (x ∷ xs)) more

-- what is between two places, and then what is behind
joined : {A : Type 0} (a b : ℕ) (xs : List A) → a ≤ b → take (b - a) (drop a xs) ++ drop b xs ≡ drop a xs
joined a b xs h =
    let behind : b ≡ a + (b - a) = omega (arith, h) in
    ap (λ n. take (b - a) (drop a xs) ++ drop n xs) behind
    ∙ ap (λ l. take (b - a) (drop a xs) ++ l) (sym (drop_more a (b - a) xs))
    ∙ take-append-drop (b - a) (drop a xs)

own_laid : (rs : List Range) (f s n from l : ℕ) (xs : List Standing) → AreOwn xs → InOrder rs f s n from l → filter is_own (laid_by range_standings rs f s xs) ≡ drop f xs
own_laid [] f s n from l xs a h = own_all (drop f xs) (own_drop f xs a)
own_laid (r ∷ rs) f s n from l xs a h =
    let m = r.start - s in
    let rest = laid_by range_standings rs m r.through xs in
    let ahead = take (m - f) (drop f xs) in
    filter-append is_own (between xs f m) (range_standings r ++ rest)
    ∙ ap (λ l. l ++ filter is_own (range_standings r ++ rest)) (own_all ahead (own_take (m - f) (drop f xs) (own_drop f xs a)))
    ∙ ap (λ l. ahead ++ l) (filter-append is_own (range_standings r) rest ∙ ap (λ l. l ++ filter is_own rest) (own_none r.start (arc_value r.objects)) ∙ own_laid rs m r.through n from l xs a h.4)
    ∙ joined f m xs (omega (arith, h.0))

-- the own object with a number
pub own_numbered : (xs : List Standing) (rs : List Range) (from l number : ℕ) (now : List Standing) → AreOwn xs → laid rs xs ≡ now → InOrder rs 0 0 (length xs) from l → slice_get (filter is_own now) number ≡ slice_get xs number
own_numbered xs rs from l number now a v h =
    ap (λ w. slice_get (filter is_own w) number) (sym v) ∙ ap (λ w. slice_get w number) (own_laid rs 0 0 (length xs) from l xs a h)
