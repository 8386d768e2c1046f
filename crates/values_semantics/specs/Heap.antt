-- What the values of an evaluation are on.
use Rattle.std.specs.Prelude.{ℕ, Bool, false, List, [], ◌∷◌, ◌++◌, length, Option, if◌then◌else◌, nat_le, slice_get, slice_set}
use Rattle.values_semantics.specs.declared.key.Part.{Part}
use Rattle.values_semantics.specs.declared.val.Val.{Val}
use Rattle.values_semantics.specs.declared.val.Val.TheVariants as v
use Rattle.values_semantics.specs.declared.val.Entry.{Entry}
use Rattle.values_semantics.specs.Outcome.{Out, gives, faults, Does, fault}
use Rattle.values_semantics.specs.declared.faults.TheConstants.{TOO_LARGE}

-- the entries of a dictionary in the order in which their keys were first set
abbrev pub Entries : Type 0
Entries = List (List Part × Entry)

-- an object of the heap; lists and dictionaries are frozen once their file's evaluation has ended
pub data Obj : Type 0 where
  text : List ℕ → Obj
  list : List Val → (frozen : Bool) → Obj
  tuple : List Val → Obj
  dict : Entries → (frozen : Bool) → Obj
  -- a function of a file, by the file's label and the function's name
  function : (label name : List ℕ) → Obj

pub record Store : Type 0 where
  pub heap : List Obj
  -- the places of the lists and dictionaries over which iterations are going
  pub iterated : List ℕ
  pub steps : ℕ

abbrev pub at : ℕ → Store → Option Obj
at place s = slice_get s.heap place

-- a walk reads the heap and takes steps
abbrev pub walk_done : {A : Type 0} → Store → Out ℕ A → Out Store A
walk_done s (gives a steps) = gives a (record s { steps = steps })
walk_done s (faults c) = faults c

abbrev pub walks : {A : Type 0} → (List Obj → Does ℕ A) → Does Store A
walks walk s = walk_done s (walk s.heap s.steps)

-- a new object
abbrev pub makes : Obj → Does Store Val
makes object s = gives (v.At (length s.heap)) (record s { heap = s.heap ++ object ∷ [] })

-- no string, list, tuple or dictionary is longer than 65,536
abbrev pub is_sized : ℕ → Bool
is_sized n = nat_le n 65536

abbrev pub makes_sized : ℕ → Obj → Does Store Val
makes_sized n object = if is_sized n then makes object else fault TOO_LARGE

abbrev pub makes_text : List ℕ → Does Store Val
makes_text bytes = makes_sized (length bytes) (text bytes)

abbrev pub makes_list : List Val → Does Store Val
makes_list members = makes_sized (length members) (list members false)

abbrev pub makes_tuple : List Val → Does Store Val
makes_tuple members = makes_sized (length members) (tuple members)

abbrev pub makes_dict : Entries → Does Store Val
makes_dict entries = makes_sized (length entries) (dict entries false)

-- another object at a place
abbrev pub puts : ℕ → Obj → Does Store (Unit {0})
puts place object s = gives tt (record s { heap = slice_set s.heap place object })
