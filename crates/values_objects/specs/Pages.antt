-- The own objects of a heap, in pages. A page that was given back has its objects for contracts alone.
use Rattle.std.specs.Prelude.{ℕ, List, [], ◌∷◌, ◌++◌, map, slice_set}
use Rattle.std.specs.declared.alloc.Global.{Global}
use Rattle.std.specs.declared.vec.Vec.{Vec}
use Rattle.values_semantics.specs.Heap.{Obj}
use Rattle.values_objects.specs.declared.heap_object.HeapObject.{HeapObject}
use Rattle.values_objects.specs.declared.object.Object.{Object}
use Rattle.values_objects.specs.declared.own_objects.OwnObjects.{OwnObjects}
use Rattle.values_objects.specs.declared.pages.Page.{Page}
use Rattle.values_objects.specs.Objects.{object_of}
use Rattle.values_objects.specs.Own.{written_object}
use Rattle.values_objects.specs.Standings.{Standing, gone_own, standing_of}

-- objects after writes, each of which names the number of the object that it replaces
abbrev pub written_over : List (Object × ℕ) → List Obj → List Obj
written_over [] objects = objects
written_over (w ∷ ws) objects = written_over ws (slice_set objects w.1 (object_of w.0))

-- What a page has: its objects, or if it was given back, those that were there then, changed by what was written since.
abbrev pub standings_in : {B : Type 0} → (before : List (Vec HeapObject Global × B)) → (after : List (Object × ℕ)) → List HeapObject → List Standing
standings_in [] after objects = map standing_of objects
standings_in (v ∷ vs) after objects = map gone_own (written_over after (map written_object v.0.items))

abbrev pub page_standings : Page → List Standing
page_standings p = standings_in p.before.items p.after.items p.objects.items

-- the objects of full pages, and then others
abbrev pub laid_pages : List Page → List Standing → List Standing
laid_pages [] rest = rest
laid_pages (p ∷ ps) rest = page_standings p ++ laid_pages ps rest

abbrev pub own_standings : OwnObjects → List Standing
own_standings o = laid_pages o.full.items (map standing_of o.last.items)
