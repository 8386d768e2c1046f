-- When a page is whole.
use Rattle.std.specs.Prelude.{◌≡◌, ℕ, List, [], ◌∷◌, length}
use Rattle.std.specs.declared.alloc.Global.{Global}
use Rattle.std.specs.declared.vec.Vec.{Vec}
use Rattle.values_objects.specs.declared.heap_object.HeapObject.{HeapObject}

-- how many objects a page has
abbrev pub page_size : ℕ
page_size = 256

-- A page has that many objects, or it was given back and has none, and had that many then.
abbrev pub IsWhole : {B : Type 0} → (before : List (Vec HeapObject Global × B)) → List HeapObject → Type 0
IsWhole {B} before objects =
    (before ≡ [] → length objects ≡ page_size) × ((v : Vec HeapObject Global × B) (vs : List (Vec HeapObject Global × B)) → before ≡ v ∷ vs → (length objects ≡ 0) × (length v.0.items ≡ page_size))
