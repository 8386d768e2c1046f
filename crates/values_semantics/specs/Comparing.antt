-- Comparing by `==` and by order.
--
-- Each pair compared is a step. A walk may enter a given number of containers inside one another; the next one is fault
-- 12.
use Rattle.std.specs.Prelude.{ℕ, zero, suc, Bool, true, false, ◌==◌, ◌&&◌, List, [], ◌∷◌, length, Option, Some, None, if◌then◌else◌, slice_get}
use Rattle.std.specs.Ordering.{int_eq, int_cmp, nat_cmp}
use Rattle.std.specs.Cmp.Lexicographic.{pointwise, slice_cmp}
use Rattle.std.specs.declared.cmp.Ordering.{Ordering}
use Rattle.std.specs.declared.cmp.Ordering.TheVariants.{Less, Equal, Greater}
use Rattle.values_semantics.specs.declared.key.Part.{Part}
use Rattle.values_semantics.specs.declared.val.Val.{Val}
use Rattle.values_semantics.specs.declared.val.Val.TheVariants as v
use Rattle.values_semantics.specs.declared.val.Entry.{Entry}
use Rattle.values_semantics.specs.Keys.{same_key}
use Rattle.values_semantics.specs.Outcome.{Does, ◌>>=◌, ◌>>◌, pure, fault, tick, spend}
use Rattle.values_semantics.specs.Heap.{Entries, Obj, text, list, tuple, dict, function, Store, walks}
use Rattle.values_semantics.specs.declared.faults.TheConstants.{TOO_DEEP, WRONG_TYPE}

-- the value at a key, by the first entry that has it
abbrev pub entry_at : List Part → Entries → Option Entry
entry_at key [] = None
entry_at key (e ∷ es) = if same_key key e.0 then Some e.1 else entry_at key es

-- what is left to compare of two values
pub data Pair : Type 0 where
  settled : Bool → Pair
  members : List Val → List Val → Pair
  entries : Entries → Entries → Pair

abbrev pub same_text : List ℕ → List ℕ → Bool
same_text = pointwise ◌==◌

-- Objects of different lengths are unequal without a walk inside. Functions are equal by label and name.
abbrev pub pair_objects : Option Obj → Option Obj → Pair
pair_objects (Some (text a)) (Some (text b)) = settled (same_text a b)
pair_objects (Some (list a f)) (Some (list b g)) = if length a == length b then members a b else settled false
pair_objects (Some (tuple a)) (Some (tuple b)) = if length a == length b then members a b else settled false
pair_objects (Some (dict a f)) (Some (dict b g)) = if length a == length b then entries a b else settled false
pair_objects (Some (function l f)) (Some (function m g)) = settled (same_text l m && same_text f g)
pair_objects a b = settled false

-- `==` of different types is False
abbrev pub pair : List Obj → Val → Val → Pair
pair heap v.Nothing v.Nothing = settled true
pair heap v.True v.True = settled true
pair heap v.False v.False = settled true
pair heap (v.Int a) (v.Int b) = settled (int_eq a b)
pair heap (v.Builtin a) (v.Builtin b) = settled (a == b)
pair heap (v.At a) (v.At b) = pair_objects (slice_get heap a) (slice_get heap b)
pair heap a b = settled false

-- members in order, up to the first unequal
abbrev pub equal_members : (Val → Val → Does ℕ Bool) → List Val → List Val → Does ℕ Bool
equal_members equal (x ∷ xs) (y ∷ ys) = equal x y >>= λ same. if same then equal_members equal xs ys else pure false
equal_members equal xs ys = pure true

abbrev pub equal_found : (Val → Val → Does ℕ Bool) → Val → Option Entry → Does ℕ Bool
equal_found equal x None = pure false
equal_found equal x (Some e) = equal x e.value

-- the key is hashed and looked up in the right dictionary
abbrev pub equal_entry : (Val → Val → Does ℕ Bool) → List Part → Val → Entries → Does ℕ Bool
equal_entry equal k x ys = spend (length k) >> equal_found equal x (entry_at k ys)

-- each key of the left dictionary in its order; the order of the right one does not count
abbrev pub equal_entries : (Val → Val → Does ℕ Bool) → Entries → Entries → Does ℕ Bool
equal_entries equal [] ys = pure true
equal_entries equal (x ∷ xs) ys = equal_entry equal x.0 x.1.value ys >>= λ same. if same then equal_entries equal xs ys else pure false

-- one visit of a pair, where containers may be entered only with a walk for their members
abbrev pub visit_pair : Option (Val → Val → Does ℕ Bool) → Pair → Does ℕ Bool
visit_pair inner (settled b) = tick >> pure b
visit_pair None (members xs ys) = fault TOO_DEEP
visit_pair None (entries xs ys) = fault TOO_DEEP
visit_pair (Some equal) (members xs ys) = tick >> equal_members equal xs ys
visit_pair (Some equal) (entries xs ys) = tick >> equal_entries equal xs ys

unfoldable pub equal : ℕ → List Obj → Val → Val → Does ℕ Bool
equal zero heap a b = visit_pair None (pair heap a b)
equal (suc n) heap a b = visit_pair (Some (equal n heap)) (pair heap a b)

-- the walk for the members of two containers, if one more may be entered
unfoldable pub inner_equal : ℕ → List Obj → Option (Val → Val → Does ℕ Bool)
inner_equal zero heap = None
inner_equal (suc n) heap = Some (equal n heap)

-- what is left to order of two values
pub data Sides : Type 0 where
  ordered : Ordering → Sides
  listed : List Val → List Val → Sides
  no_order : Sides

abbrev pub side_objects : Option Obj → Option Obj → Sides
side_objects (Some (text a)) (Some (text b)) = ordered (slice_cmp nat_cmp a b)
side_objects (Some (list a f)) (Some (list b g)) = listed a b
side_objects (Some (tuple a)) (Some (tuple b)) = listed a b
side_objects a b = no_order

-- two ints, two strings by bytes, two lists or two tuples have an order
abbrev pub sides : List Obj → Val → Val → Sides
sides heap (v.Int a) (v.Int b) = ordered (int_cmp a b)
sides heap (v.At a) (v.At b) = side_objects (slice_get heap a) (slice_get heap b)
sides heap a b = no_order

-- where two lists differ first: at two members that are unequal, or with no more to compare
pub data Parting : Type 0 where
  settled_as : Ordering → Parting
  unequal : Val → Val → Parting

-- members are compared by `==`, in order; then the lengths decide
abbrev pub parting : (Val → Val → Does ℕ Bool) → List Val → List Val → Does ℕ Parting
parting equal [] [] = pure (settled_as Equal)
parting equal [] (y ∷ ys) = pure (settled_as Less)
parting equal (x ∷ xs) [] = pure (settled_as Greater)
parting equal (x ∷ xs) (y ∷ ys) = equal x y >>= λ same. if same then parting equal xs ys else pure (unequal x y)

abbrev pub order_parted : (Val → Val → Does ℕ Ordering) → Parting → Does ℕ Ordering
order_parted order (settled_as o) = pure o
order_parted order (unequal x y) = order x y

abbrev pub visit_sides : Option ((Val → Val → Does ℕ Bool) × (Val → Val → Does ℕ Ordering)) → Sides → Does ℕ Ordering
visit_sides inner (ordered o) = tick >> pure o
visit_sides inner no_order = tick >> fault WRONG_TYPE
visit_sides None (listed xs ys) = fault TOO_DEEP
visit_sides (Some walks) (listed xs ys) = tick >> (parting walks.0 xs ys >>= order_parted walks.1)

-- the order of two values is one walk: that of the first unequal members, then that of the lengths
unfoldable pub order : ℕ → List Obj → Val → Val → Does ℕ Ordering
order zero heap a b = visit_sides None (sides heap a b)
order (suc n) heap a b = visit_sides (Some (equal n heap, order n heap)) (sides heap a b)

unfoldable pub inner_order : ℕ → List Obj → Option ((Val → Val → Does ℕ Bool) × (Val → Val → Does ℕ Ordering))
inner_order zero heap = None
inner_order (suc n) heap = Some (equal n heap, order n heap)

-- comparing begins outside of all containers
abbrev pub equals : Val → Val → Does Store Bool
equals a b = walks λ heap. equal 64 heap a b

abbrev pub compares : Val → Val → Does Store Ordering
compares a b = walks λ heap. order 64 heap a b
