-- `in`.
use Rattle.std.specs.Prelude.{ℕ, Bool, true, false, List, [], ◌∷◌, length, Option, Some, if◌then◌else◌, take, is_some, slice_get}
use Rattle.values_semantics.specs.declared.key.Part.{Part}
use Rattle.values_semantics.specs.declared.val.Val.{Val}
use Rattle.values_semantics.specs.declared.val.Val.TheVariants as v
use Rattle.values_semantics.specs.Outcome.{Does, ◌>>=◌, pure, fault, ValueOrFault, good, bad, lift_fault}
use Rattle.values_semantics.specs.Heap.{Obj, text, list, tuple, dict, Store, at, walks}
use Rattle.values_semantics.specs.Comparing.{equal, entry_at, same_text}
use Rattle.values_semantics.specs.Indexing.{hash}
use Rattle.values_semantics.specs.declared.faults.TheConstants.{WRONG_TYPE}

-- whether a member is equal, where each is compared in order up to the first that is
abbrev pub any_equal : (Val → Val → Does ℕ Bool) → Val → List Val → Does ℕ Bool
any_equal equal x [] = pure false
any_equal equal x (y ∷ ys) = equal x y >>= λ same. if same then pure true else any_equal equal x ys

-- a text begins with another
abbrev pub begins : List ℕ → List ℕ → Bool
begins part whole = same_text part (take (length part) whole)

abbrev pub is_part : List ℕ → List ℕ → Bool
is_part part [] = begins part []
is_part part (c ∷ cs) = if begins part (c ∷ cs) then true else is_part part cs

abbrev pub part_of : List ℕ → Option Obj → ValueOrFault Bool
part_of whole (Some (text part)) = good (is_part part whole)
part_of whole object = bad WRONG_TYPE

abbrev pub text_has : List Obj → List ℕ → Val → ValueOrFault Bool
text_has heap whole (v.At place) = part_of whole (slice_get heap place)
text_has heap whole x = bad WRONG_TYPE

abbrev pub has_key : Option Obj → List Part → Does Store Bool
has_key (Some (dict entries f)) k = pure (is_some (entry_at k entries))
has_key object k = fault WRONG_TYPE

-- what cannot be a key is fault 5
unfoldable pub hashed_has : Option Obj → Val → Does Store Bool
hashed_has object x = hash x >>= has_key object

abbrev pub object_has : Option Obj → Val → Does Store Bool
object_has (Some (text whole)) x = λ s. lift_fault (text_has s.heap whole x) s
object_has (Some (list members f)) x = walks λ heap. any_equal (equal 64 heap) x members
object_has (Some (tuple members)) x = walks λ heap. any_equal (equal 64 heap) x members
object_has (Some (dict entries f)) x = hashed_has (Some (dict entries f)) x
object_has object x = fault WRONG_TYPE

-- `x in a`: a member of a list or tuple, a key of a dictionary, a part of a string
abbrev pub has : Val → Val → Does Store Bool
has x (v.At a) = λ s. object_has (at a s) x s
has x a = fault WRONG_TYPE
