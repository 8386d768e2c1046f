-- Values by names, as contracts see them.
use Rattle.std.specs.Prelude.{◌≡◌, ℕ, List, [], ◌∷◌, length, Bool, true, ◌&&◌, Result, MatchResult, map as each, string_bytes, String}
use Rattle.std.specs.declared.alloc.Global.{Global}
use Rattle.std.specs.declared.sync.Arc.{Arc}
use Rattle.std.specs.BTreeMap.{BTreeMap}
use Rattle.std.specs.List.{list_all, HoldsAt}
use Rattle.std.specs.List.Sorted.{IsPartitionPoint, IsSearchInRange}
use Rattle.std.specs.Ordering.{nat_cmp, is_lt}
use Rattle.std.specs.declared.cmp.Ordering.TheVariants.{Less, Equal, Greater}
use Rattle.std.specs.Cmp.Lexicographic.{slice_cmp}
use Rattle.filetree.specs.declared.name_map.NameMap.{NameMap}
use Rattle.filetree.specs.declared.name_map.NameMap.TheVariants.{Few, Many}

-- the names of a list with their values
abbrev pub listed : {X : Type 0} → List (List ℕ × Arc X Global) → List (List ℕ × X)
listed es = each (λ e. (e.0, e.1.value)) es

abbrev pub name_value : {X : Type 0} → String Global × Arc X Global → List ℕ × X
name_value e = (string_bytes e.0, e.1.value)

-- the names of an ordered map with their values
abbrev pub mapped : {X : Type 0} → BTreeMap (String Global) (Arc X Global) → List (List ℕ × X)
mapped m = each name_value m.entries

-- the names of a map with their values
abbrev pub folder_entries : {X : Type 0} → NameMap X → List (List ℕ × X)
folder_entries (Few list) = listed list.items
folder_entries (Many m) = mapped m

-- each name is below those after it
abbrev pub is_ascending : {X : Type 0} → List (List ℕ × X) → Bool
is_ascending [] = true
is_ascending (e ∷ es) = list_all (λ f. is_lt (slice_cmp nat_cmp e.0 f.0)) es && is_ascending es

-- where a name is among others that ascend, or between which it would be
abbrev pub IsPlace : {X : Type 0} → List ℕ → List (List ℕ × X) → Result ℕ ℕ → Type 0
IsPlace name es r = IsSearchInRange r (length es)
    × MatchResult r (HoldsAt (λ e. slice_cmp nat_cmp e.0 name ≡ Equal) es)
    (λ i. IsPartitionPoint (λ e. slice_cmp nat_cmp e.0 name ≡ Less) (λ e. slice_cmp nat_cmp e.0 name ≡ Greater) es i)
