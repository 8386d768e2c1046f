-- What a page has, where its objects are there and where it was given back.
use Rattle.std.proofs.Common.{◌≡◌, ℕ, zero, suc, ◌<◌, true, List, [], ◌∷◌, ◌++◌, length, map, set, Some, option_map, refl, sym, ap, ◌∙◌, arith}
use Rattle.std.specs.Prelude.{slice_get}
use Rattle.std.proofs.lemmas.List.{length-map, length-set}
use Rattle.std.proofs.lemmas.Option.{slice_get-map}
use Rattle.std.specs.declared.alloc.Global.{Global}
use Rattle.std.specs.declared.vec.Vec.{Vec}
use Rattle.values_semantics.specs.Heap.{Obj}
use Rattle.values_objects.specs.declared.heap_object.HeapObject.{HeapObject}
use Rattle.values_objects.specs.declared.object.Object.{Object}
use Rattle.values_objects.specs.Objects.{object_of}
use Rattle.values_objects.specs.Own.{written_object}
use Rattle.values_objects.specs.Pages.{standings_in, written_over}
use Rattle.values_objects.specs.ObjectBytes.{standing_bytes}
use Rattle.values_objects.specs.Standings.{gone_own, has_gone, is_gone, standing_of, object_in}
use Rattle.values_objects.specs.Wholes.{IsWhole, page_size}

-- ---- a list of own objects

pub map_written : (xs : List HeapObject) → map object_in (map standing_of xs) ≡ map written_object xs
unfolding object_in
map_written [] = refl
map_written (x ∷ xs) = ap (λ l. written_object x ∷ l) (map_written xs)

pub object_listed : (xs : List HeapObject) (i : ℕ) → slice_get (map object_in (map standing_of xs)) i ≡ option_map written_object (slice_get xs i)
object_listed xs i = ap (λ l. slice_get l i) (map_written xs) ∙ slice_get-map written_object xs i

pub gone_listed : (xs : List HeapObject) (i : ℕ) → option_map is_gone (slice_get (map standing_of xs) i) ≡ option_map has_gone (slice_get xs i)
gone_listed [] i = refl
gone_listed (x ∷ xs) zero = refl
gone_listed (x ∷ xs) (suc i) = gone_listed xs i

-- ---- objects that have been freed

objects_gone : (xs : List Obj) → map object_in (map gone_own xs) ≡ xs
unfolding object_in
objects_gone [] = refl
objects_gone (x ∷ xs) = ap (λ l. x ∷ l) (objects_gone xs)

gone_at : (xs : List Obj) (i : ℕ) → i < length xs → option_map is_gone (slice_get (map gone_own xs) i) ≡ Some true
gone_at [] i h = absurd (omega (arith, h))
gone_at (x ∷ xs) zero h = refl
gone_at (x ∷ xs) (suc i) h = gone_at xs i (omega (arith, h))

no_bytes : (xs : List Obj) (i : ℕ) → 0 ≡ standing_bytes (slice_get (map gone_own xs) i)
no_bytes [] i = refl
no_bytes (x ∷ xs) zero = refl
no_bytes (x ∷ xs) (suc i) = no_bytes xs i

as_many : (ws : List (Object × ℕ)) (xs : List Obj) → length (written_over ws xs) ≡ length xs
as_many [] xs = refl
as_many (w ∷ ws) xs = as_many ws (set xs w.1 (object_of w.0)) ∙ length-set xs w.1 (object_of w.0)

-- one write more
one_more : (ws : List (Object × ℕ)) (w : Object × ℕ) (xs : List Obj) → written_over (ws ++ w ∷ []) xs ≡ set (written_over ws xs) w.1 (object_of w.0)
one_more [] w xs = refl
one_more (v ∷ ws) w xs = one_more ws w (set xs v.1 (object_of v.0))

-- ---- a page

-- one whose objects are there
pub standing_page : {B : Type 0} (before : List (Vec HeapObject Global × B)) (after : List (Object × ℕ)) (objects : List HeapObject) → IsWhole before objects → 0 < length objects → standings_in before after objects ≡ map standing_of objects
standing_page [] after objects w h = refl
standing_page (v ∷ vs) after objects w h = absurd (omega (arith, h, (w.1 v vs refl).0))

pub has_size : {B : Type 0} (before : List (Vec HeapObject Global × B)) (objects : List HeapObject) → IsWhole before objects → 0 < length objects → length objects ≡ page_size
has_size [] objects w h = w.0 refl
has_size (v ∷ vs) objects w h = absurd (omega (arith, h, (w.1 v vs refl).0))

-- one that was given back
pub nothing_there : {B : Type 0} (before : List (Vec HeapObject Global × B)) (after : List (Object × ℕ)) (objects : List HeapObject) → IsWhole before objects → length objects ≡ 0 → (i : ℕ) → i < page_size → option_map is_gone (slice_get (standings_in before after objects) i) ≡ Some true
nothing_there [] after objects w e i h = absurd (omega (arith, w.0 refl, e))
nothing_there (v ∷ vs) after objects w e i h =
    let all = as_many after (map written_object v.0.items) ∙ length-map v.0.items written_object ∙ (w.1 v vs refl).1 in
    gone_at (written_over after (map written_object v.0.items)) i (omega (arith, all, h))

pub no_bytes_there : {B : Type 0} (before : List (Vec HeapObject Global × B)) (after : List (Object × ℕ)) (objects : List HeapObject) → IsWhole before objects → length objects ≡ 0 → (i : ℕ) → 0 ≡ standing_bytes (slice_get (standings_in before after objects) i)
no_bytes_there [] after objects w e i = absurd (omega (arith, w.0 refl, e))
no_bytes_there (v ∷ vs) after objects w e i = no_bytes (written_over after (map written_object v.0.items)) i

pub written_later : {B : Type 0} (before : List (Vec HeapObject Global × B)) (after : List (Object × ℕ)) (objects : List HeapObject) → IsWhole before objects → length objects ≡ 0 → (o : Object) (i : ℕ) → map object_in (standings_in before (after ++ (o, i) ∷ []) objects) ≡ set (map object_in (standings_in before after objects)) i (object_of o)
written_later [] after objects w e o i = absurd (omega (arith, w.0 refl, e))
written_later (v ∷ vs) after objects w e o i =
    let there = map written_object v.0.items in
    objects_gone (written_over (after ++ (o, i) ∷ []) there) ∙ one_more after (o, i) there ∙ ap (λ l. set l i (object_of o)) (sym (objects_gone (written_over after there)))

-- its length
pub page_length : {B : Type 0} (before : List (Vec HeapObject Global × B)) (after : List (Object × ℕ)) (objects : List HeapObject) → IsWhole before objects → length (standings_in before after objects) ≡ page_size
page_length [] after objects w = length-map objects standing_of ∙ w.0 refl
page_length (v ∷ vs) after objects w =
    length-map (written_over after (map written_object v.0.items)) gone_own ∙ as_many after (map written_object v.0.items) ∙ length-map v.0.items written_object ∙ (w.1 v vs refl).1

-- changes of a page whose objects are there
pub same_page : {B : Type 0} (before : List (Vec HeapObject Global × B)) (after : List (Object × ℕ)) (xs ys : List HeapObject) → map written_object ys ≡ map written_object xs → map object_in (standings_in before after ys) ≡ map object_in (standings_in before after xs)
same_page [] after xs ys e = map_written ys ∙ e ∙ sym (map_written xs)
same_page (v ∷ vs) after xs ys e = refl

pub written_page : {B : Type 0} (before : List (Vec HeapObject Global × B)) (after : List (Object × ℕ)) (xs ys : List HeapObject) → IsWhole before xs → 0 < length xs → (i : ℕ) (x : Obj) → map written_object ys ≡ set (map written_object xs) i x → map object_in (standings_in before after ys) ≡ set (map object_in (standings_in before after xs)) i x
written_page [] after xs ys w h i x e = map_written ys ∙ e ∙ ap (λ l. set l i x) (sym (map_written xs))
written_page (v ∷ vs) after xs ys w h i x e = absurd (omega (arith, h, (w.1 v vs refl).0))

-- one that is given back is whole
pub whole_back : {B : Type 0} {b : B} (objects : Vec HeapObject Global) (before : List (Vec HeapObject Global × B)) (xs : List HeapObject) → before ≡ (objects, b) ∷ [] → length xs ≡ 0 → length objects.items ≡ page_size → IsWhole before xs
whole_back {B} {b} objects before xs is none size = ((λ e. absurd (no_member (sym is ∙ e))), λ v vs e. (none, ap size_of (sym (sym is ∙ e)) ∙ size))
  where
    one : List (Vec HeapObject Global × B)
    one = (objects, b) ∷ []

    no_member : one ≡ [] → ⊥
    no_member e = cc

    size_of : List (Vec HeapObject Global × B) → ℕ
    size_of [] = 0
    size_of (v ∷ vs) = length v.0.items
