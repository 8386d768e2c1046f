-- All objects of a heap's own list are own ones.
use Rattle.std.proofs.Common.{◌≡◌, ℕ, zero, suc, true, List, [], ◌∷◌, ◌++◌, take, drop, map, refl, ap}
use Rattle.std.specs.Prelude.{filter}
use Rattle.std.specs.declared.alloc.Global.{Global}
use Rattle.std.specs.declared.vec.Vec.{Vec}
use Rattle.values_semantics.specs.Heap.{Obj}
use Rattle.values_objects.specs.declared.heap_object.HeapObject.{HeapObject}
use Rattle.values_objects.specs.declared.object.Object.{Object}
use Rattle.values_objects.specs.declared.own_objects.OwnObjects.{OwnObjects}
use Rattle.values_objects.specs.declared.pages.Page.{Page}
use Rattle.values_objects.specs.Own.{written_object}
use Rattle.values_objects.specs.Pages.{laid_pages, own_standings, page_standings, standings_in, written_over}
use Rattle.values_objects.specs.Standings.{Standing, gone_own, is_own, standing_of}

-- all objects of a list are a heap's own
abbrev pub AreOwn : List Standing → Type 0
AreOwn [] = Unit {0}
AreOwn (x ∷ xs) = (is_own x ≡ true) × AreOwn xs

pub own_all : (xs : List Standing) → AreOwn xs → filter is_own xs ≡ xs
own_all [] a = refl
own_all (x ∷ xs) a = rw (a.0) (ap (λ l. x ∷ l) (own_all xs a.1))

pub own_drop : (n : ℕ) (xs : List Standing) → AreOwn xs → AreOwn (drop n xs)
own_drop zero xs a = a
own_drop (suc n) [] a = a
own_drop (suc n) (x ∷ xs) a = own_drop n xs a.1

pub own_take : (n : ℕ) (xs : List Standing) → AreOwn xs → AreOwn (take n xs)
own_take zero xs a = tt
own_take (suc n) [] a = a
own_take (suc n) (x ∷ xs) a = (a.0, own_take n xs a.1)

own_both : (xs ys : List Standing) → AreOwn xs → AreOwn ys → AreOwn (xs ++ ys)
own_both [] ys a b = b
own_both (x ∷ xs) ys a b = (a.0, own_both xs ys a.1 b)

own_there : (xs : List HeapObject) → AreOwn (map standing_of xs)
own_there [] = tt
own_there (x ∷ xs) = (refl, own_there xs)

own_gone : (xs : List Obj) → AreOwn (map gone_own xs)
own_gone [] = tt
own_gone (x ∷ xs) = (refl, own_gone xs)

own_page : {B : Type 0} (before : List (Vec HeapObject Global × B)) (after : List (Object × ℕ)) (objects : List HeapObject) → AreOwn (standings_in before after objects)
own_page [] after objects = own_there objects
own_page (v ∷ vs) after objects = own_gone (written_over after (map written_object v.0.items))

own_pages : (ps : List Page) (rest : List Standing) → AreOwn rest → AreOwn (laid_pages ps rest)
own_pages [] rest a = a
own_pages (p ∷ ps) rest a = own_both (page_standings p) (laid_pages ps rest) (own_page p.before.items p.after.items p.objects.items) (own_pages ps rest a)

pub are_own : (o : OwnObjects) → AreOwn (own_standings o)
are_own o = own_pages o.full.items (map standing_of o.last.items) (own_there o.last.items)
