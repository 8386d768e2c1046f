-- Frozen values laid out as objects.
use Rattle.std.specs.Prelude.{◌≡◌, List, []}
use Rattle.std.specs.Arc.{arc_value}
use Rattle.values_semantics.specs.Outcome.{gives}
use Rattle.values_semantics.specs.Heap.{Obj, Store}
use Rattle.values_semantics.specs.Freezing.{Fz, thaw}
use Rattle.values_freeze.specs.declared.laid.Layout.{Layout}

-- a heap of these objects alone
abbrev pub over : List Obj → Store
over objects = record { heap = objects; iterated = []; steps = 0 }

-- the objects are those that the value makes on an empty heap, where it is named by the root
abbrev pub IsLaid : Fz → Layout → Type 0
IsLaid f l = thaw f (over []) ≡ gives l.root (over (arc_value l.objects))
