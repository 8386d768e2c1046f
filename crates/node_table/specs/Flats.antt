-- Groups of numbers in one list.
use Rattle.std.specs.Prelude.{ℕ, zero, suc, ◌+◌, ◌-◌, List, [], ◌∷◌, ◌++◌, length, map, take, drop, All, IsSome}
use Rattle.std.specs.List.{concat, flat_map}
use Rattle.std.specs.Option.{option_to_list, unwrap_or}
use Rattle.std.specs.declared.alloc.Global.{Global}
use Rattle.std.specs.declared.vec.Vec.{Vec}
use Rattle.keys.specs.declared.key.Key.{Key}
use Rattle.node_table.specs.Tables.{key_at, number_of}

-- the groups of a list of lists
abbrev pub items_of : List (Vec Key Global) → List (List Key)
items_of groups = map (λ g. g.items) groups

-- where each group ends among the members of all
abbrev pub ends : {X : Type 0} → ℕ → List (List X) → List ℕ
ends from [] = []
ends from (g ∷ gs) = (from + length g) ∷ ends (from + length g) gs

-- where a group begins among the members of all
abbrev pub start : {X : Type 0} → List (List X) → ℕ → ℕ
start [] i = 0
start (g ∷ gs) zero = 0
start (g ∷ gs) (suc i) = length g + start gs i

-- how many members there are
abbrev pub sizes : {X : Type 0} → List (List X) → ℕ
sizes [] = 0
sizes (g ∷ gs) = length g + sizes gs

-- the words that represent these groups
abbrev pub words_of : List (List ℕ) → List ℕ
words_of [] = []
words_of (g ∷ gs) = length (g ∷ gs) ∷ ends 0 (g ∷ gs) ++ concat (g ∷ gs)

-- the members, cut where the groups end
abbrev pub cut : ℕ → List ℕ → List ℕ → List (List ℕ)
cut from [] members = []
cut from (e ∷ es) members = take (e - from) members ∷ cut e es (drop (e - from) members)

-- the groups that these words represent
abbrev pub groups_of : List ℕ → List (List ℕ)
groups_of [] = []
groups_of (count ∷ words) = cut 0 (take count words) (drop count words)

module _ {V : Type 0} (entries : List (Key × V)) where
  -- a key is in the table
  abbrev pub HasNumber : Key → Type 0
  HasNumber k = IsSome (number_of entries k)

  -- the members of these groups are in the table
  abbrev pub HaveNumbers : List (List Key) → Type 0
  HaveNumbers groups = All (All HasNumber) groups

  -- the numbers of keys that are in the table
  abbrev pub numbers_in : List Key → List ℕ
  numbers_in ks = map (λ k. unwrap_or (number_of entries k) 0) ks

  -- the keys with these numbers
  abbrev pub members_in : List ℕ → List Key
  members_in ns = flat_map (λ n. option_to_list (key_at entries n)) ns

  -- groups of numbers, by the keys
  abbrev pub groups_in : List (List ℕ) → List (List Key)
  groups_in groups = map members_in groups
