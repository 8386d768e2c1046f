-- What is at the places of a heap, in terms of its own objects and its ranges.
use Rattle.std.proofs.Common.{◌≡◌, ℕ, zero, suc, ◌+◌, ◌*◌, ◌-◌, Bool, true, false, List, [], ◌∷◌, ◌++◌, length, set, map, Option, Some, None, option_map, refl, sym, subst, ap, ◌∙◌, arith}
use Rattle.std.specs.Prelude.{slice_get, ◌||◌}
use Rattle.std.specs.Arc.{arc_value}
use Rattle.std.specs.Borrow.{Bor}
use Rattle.std.proofs.lemmas.List.{length-map, map-set, map-append}
use Rattle.std.proofs.lemmas.Option.{slice_get-map}
use Rattle.values_semantics.specs.Heap.{Obj}
use Rattle.values_semantics.specs.Heap as m
use Rattle.values_objects.specs.ObjectBytes.{object_bytes}
use Rattle.values_heap.specs.declared.objects.Range.{Range}
use Rattle.values_objects.specs.Standings.{Standing, own, is_gone, is_lent, stays, object_in}
use Rattle.values_heap.specs.Ranges.{laid, laid_by, InOrder, range_standings, where_is, found_there, own_number, among_lent, lent_at}
use Rattle.values_frozen_objects.specs.Shift.{moved, moved_val, moved_pair}
use Rattle.values_frozen_objects.specs.Objects.{frozen_obj}
use Rattle.values_frozen_objects.specs.declared.object.FrozenObject.{FrozenObject}
use Rattle.values_heap.specs.declared.objects.Spot.{Spot}
use Rattle.values_heap.specs.declared.objects.Spot.TheVariants as s
use Rattle.values_heap.specs.Sought.{sought, sought_number}
use Rattle.values_heap.proofs.Laid.{laid_at, laid_length, laid_map, laid_set, laid_pushed, laid_lent}

as_long : (r : Range) → length (range_standings r) ≡ length (arc_value r.objects)
as_long r = length-map (arc_value r.objects) (lent_at r.start)

pub all_places : (rs : List Range) (n from l : ℕ) (os : List Standing) → n ≡ length os → InOrder rs 0 0 n from l → n + l ≡ length (laid rs os)
all_places rs n from l os e h = let all = laid_length range_standings as_long rs 0 0 n from l os e h in omega (arith, all)

pub stands : (rs : List Range) (n from l : ℕ) (os : List Standing) → n ≡ length os → InOrder rs 0 0 n from l → (place : ℕ) → slice_get (laid rs os) place ≡ found_there range_standings os (where_is rs 0 place)
stands rs n from l os e h place = laid_at range_standings as_long rs 0 0 n from l os e h place ∙ ap (λ p. found_there range_standings os (where_is rs 0 p)) (omega arith)

-- what is said of the objects depends on what is said of the own ones
pub told : (rs : List Range) (os ps : List Standing) → map object_in os ≡ map object_in ps → map object_in (laid rs os) ≡ map object_in (laid rs ps)
told rs os ps e =
    laid_map object_in range_standings rs 0 0 os ∙ ap (laid_by (λ r. map object_in (range_standings r)) rs 0 0) e ∙ sym (laid_map object_in range_standings rs 0 0 ps)

pub written : (rs : List Range) (n from l : ℕ) (os : List Standing) → n ≡ length os → InOrder rs 0 0 n from l → (place i : ℕ) (x : Standing) → own_number (where_is rs 0 place) ≡ Some i → laid rs (set os i x) ≡ set (laid rs os) place x
written rs n from l os e h place i x w = laid_set range_standings as_long rs 0 0 n from l os e h place i x (ap (λ p. own_number (where_is rs 0 p)) (omega arith) ∙ w)

-- ---- what is found

-- what was found at a place is an object
abbrev pub spot_object : List Standing → Spot → Option Obj
spot_object objects (s.Own i) = slice_get (map object_in objects) i
spot_object objects (s.Lent found base) = option_map (λ o. moved base (frozen_obj o.now)) found

found_object : (objects : List Standing) (spot : Spot) → option_map object_in (sought objects spot) ≡ spot_object objects spot
unfolding object_in
found_object objects (s.Own i) = sym (slice_get-map object_in objects i)
found_object objects (s.Lent (Some o) base) = refl
found_object objects (s.Lent None base) = refl

pub seen : (rs : List Range) (from l : ℕ) (objects : List Standing) → InOrder rs 0 0 (length objects) from l → (place : ℕ) (spot : Spot) → ((os : List Standing) → sought os spot ≡ found_there range_standings os (where_is rs 0 place)) → slice_get (map object_in (laid rs objects)) place ≡ spot_object objects spot
seen rs from l objects h place spot is =
    slice_get-map object_in (laid rs objects) place
    ∙ ap (option_map object_in) (stands rs (length objects) from l objects refl h place ∙ sym (is objects))
    ∙ found_object objects spot

-- what is there of an own object that is found
pub own_there : (rs : List Range) (from l : ℕ) (objects : List Standing) → InOrder rs 0 0 (length objects) from l → (place i : ℕ) → ((os : List Standing) → sought os (s.Own i) ≡ found_there range_standings os (where_is rs 0 place)) → slice_get (laid rs objects) place ≡ slice_get objects i
own_there rs from l objects h place i is = stands rs (length objects) from l objects refl h place ∙ sym (is objects)

pub gone_stays : (o : Option Standing) → option_map is_gone o ≡ Some true → option_map stays o ≡ Some true
gone_stays (Some x) g = ap (λ (b : Option Bool). or_lent b) g
  where
    or_lent : Option Bool → Option Bool
    or_lent o = option_map (λ b. b || is_lent x) o
gone_stays None g = cc

-- what is there of an attached object that is found
pub lent_there : (rs : List Range) (from l : ℕ) (objects : List Standing) → InOrder rs 0 0 (length objects) from l → (place base : ℕ) (o : Bor FrozenObject) → ((os : List Standing) → sought os (s.Lent (Some o) base) ≡ found_there range_standings os (where_is rs 0 place)) → slice_get (laid rs objects) place ≡ Some (lent_at base (frozen_obj o.now))
lent_there rs from l objects h place base o is = stands rs (length objects) from l objects refl h place ∙ sym (is objects)

-- ---- changes

-- another object in the place of an own one
pub told_put : (rs : List Range) (from l : ℕ) (xs ys : List Standing) → InOrder rs 0 0 (length xs) from l → (place i : ℕ) (x : Obj) → own_number (where_is rs 0 place) ≡ Some i → map object_in ys ≡ set (map object_in xs) i x → map object_in (laid rs ys) ≡ set (map object_in (laid rs xs)) place x
unfolding object_in
told_put rs from l xs ys h place i x w is =
    told rs ys (set xs i (own x false)) (is ∙ sym (map-set object_in xs i (own x false)))
    ∙ ap (map object_in) (written rs (length xs) from l xs refl h place i (own x false) w)
    ∙ map-set object_in (laid rs xs) place (own x false)

-- one object more
pub pushed : (rs : List Range) (from l : ℕ) (xs : List Standing) (y : Standing) → InOrder rs 0 0 (length xs) from l → laid rs (xs ++ y ∷ []) ≡ laid rs xs ++ y ∷ []
pushed rs from l xs y h = laid_pushed range_standings rs 0 0 (length xs) from l xs (y ∷ []) refl h

-- and a range
pub range_lent : (rs : List Range) (r : Range) (from l : ℕ) (xs : List Standing) → InOrder rs 0 0 (length xs) from l → r.start ≡ length xs + l → laid (rs ++ r ∷ []) xs ≡ laid rs xs ++ map (lent_at (length (laid rs xs))) (arc_value r.objects)
range_lent rs r from l xs h start =
    laid_lent range_standings rs r 0 0 (length xs) from l xs refl h start
    ∙ ap (λ b. laid rs xs ++ map (lent_at b) (arc_value r.objects)) (start ∙ all_places rs (length xs) from l xs refl h)

-- ---- what a search in memory has found

-- the search for a place gives what is there, and the number of an own object
abbrev pub Finds : List Range → (from l place : ℕ) → Spot → Type 0
Finds rs from l place spot = (number : ℕ) → InOrder rs 0 0 number from l → (os : List Standing) → sought os spot ≡ found_there range_standings os (where_is rs 0 place)

abbrev pub Numbers : List Range → (from l place : ℕ) → Spot → Type 0
Numbers rs from l place spot = (number : ℕ) → InOrder rs 0 0 number from l → sought_number spot ≡ own_number (where_is rs 0 place)

pub seen_now : (objects : List Standing) (rs read : List Range) (from l place : ℕ) (spot : Spot) (now : List Standing) → laid rs objects ≡ now → InOrder rs 0 0 (length objects) from l → read ≡ rs → Finds read from l place spot → slice_get (map object_in now) place ≡ spot_object objects spot
seen_now objects rs read from l place spot now v h e f =
    ap (λ w. slice_get (map object_in w) place) (sym v) ∙ seen rs from l objects h place spot (subst (λ rs. Finds rs from l place spot) e f (length objects) h)

pub own_now : (objects : List Standing) (rs read : List Range) (from l place i : ℕ) (now : List Standing) → laid rs objects ≡ now → InOrder rs 0 0 (length objects) from l → read ≡ rs → Finds read from l place (s.Own i) → slice_get now place ≡ slice_get objects i
own_now objects rs read from l place i now v h e f =
    ap (λ w. slice_get w place) (sym v) ∙ own_there rs from l objects h place i (subst (λ rs. Finds rs from l place (s.Own i)) e f (length objects) h)

pub lent_now : (objects : List Standing) (rs read : List Range) (from l place base : ℕ) (o : Bor FrozenObject) (now : List Standing) → laid rs objects ≡ now → InOrder rs 0 0 (length objects) from l → read ≡ rs → Finds read from l place (s.Lent (Some o) base) → slice_get now place ≡ Some (lent_at base (frozen_obj o.now))
lent_now objects rs read from l place base o now v h e f =
    ap (λ w. slice_get w place) (sym v) ∙ lent_there rs from l objects h place base o (subst (λ rs. Finds rs from l place (s.Lent (Some o) base)) e f (length objects) h)

pub nothing_now : (objects : List Standing) (rs read : List Range) (from l place base : ℕ) (now : List Standing) → laid rs objects ≡ now → InOrder rs 0 0 (length objects) from l → read ≡ rs → Finds read from l place (s.Lent None base) → slice_get now place ≡ None
nothing_now objects rs read from l place base now v h e f =
    ap (λ w. slice_get w place) (sym v)
    ∙ stands rs (length objects) from l objects refl h place
    ∙ sym (subst (λ rs. Finds rs from l place (s.Lent None base)) e f (length objects) h objects)

pub put_now : (objects changed : List Standing) (rs read : List Range) (from l place i : ℕ) (x : Obj) (now : List Standing) → laid rs objects ≡ now → InOrder rs 0 0 (length objects) from l → read ≡ rs → Numbers read from l place (s.Own i) → map object_in changed ≡ set (map object_in objects) i x → map object_in (laid rs changed) ≡ set (map object_in now) place x
put_now objects changed rs read from l place i x now v h e f is =
    told_put rs from l objects changed h place i x (sym (subst (λ rs. Numbers rs from l place (s.Own i)) e f (length objects) h)) is ∙ ap (λ w. set (map object_in w) place x) v

-- nothing is put where nothing is
pub put_nothing : (xs : List Obj) (i : ℕ) (x : Obj) → slice_get xs i ≡ None → xs ≡ set xs i x
put_nothing [] i x h = refl
put_nothing (y ∷ ys) zero x h = cc
put_nothing (y ∷ ys) (suc i) x h = ap (λ zs. y ∷ zs) (put_nothing ys i x h)

-- moving an object keeps its size
pub moved_bytes : (b : ℕ) (o : Obj) → object_bytes (moved b o) ≡ object_bytes o
moved_bytes b (m.text bytes) = refl
moved_bytes b (m.list members g) = ap (λ n. n * 16 + 64) (length-map members (moved_val b))
moved_bytes b (m.tuple members) = ap (λ n. n * 16 + 64) (length-map members (moved_val b))
moved_bytes b (m.dict entries g) = ap (λ n. n * 96 + 64) (length-map entries (moved_pair b))
moved_bytes b (m.function label name) = refl

-- a place within a range
pub lent_found : (rs : List Range) (p : ℕ) (r : Range) (objects : List Obj) (found : Option (Bor FrozenObject)) → where_is rs 0 p ≡ among_lent r (p - r.start) → objects ≡ arc_value r.objects → option_map (λ o. frozen_obj o.now) found ≡ slice_get objects (p - r.start) → (os : List Standing) → option_map (λ o. lent_at r.start (frozen_obj o.now)) found ≡ found_there range_standings os (where_is rs 0 p)
lent_found rs p r objects found here same got os =
    twice found ∙ ap (option_map (lent_at r.start)) (got ∙ ap (λ xs. slice_get xs (p - r.start)) same) ∙ sym (slice_get-map (lent_at r.start) (arc_value r.objects) (p - r.start)) ∙ ap (found_there range_standings os) (sym here)
  where
    twice : (o : Option (Bor FrozenObject)) → option_map (λ o. lent_at r.start (frozen_obj o.now)) o ≡ option_map (lent_at r.start) (option_map (λ o. frozen_obj o.now) o)
    twice (Some o) = refl
    twice None = refl

-- ---- the store

pub map_more : (ws : List Standing) (w : Standing) → map object_in (ws ++ w ∷ []) ≡ map object_in ws ++ object_in w ∷ []
map_more ws w = map-append object_in ws (w ∷ [])

pub own_in : (x : Obj) (b : Bool) → object_in (own x b) ≡ x
unfolding object_in
own_in x b = refl

pub lent_in : (n : ℕ) (os : List Obj) → map object_in (map (lent_at n) os) ≡ map (moved n) os
unfolding object_in
lent_in n [] = refl
lent_in n (o ∷ os) = ap (λ l. moved n o ∷ l) (lent_in n os)
