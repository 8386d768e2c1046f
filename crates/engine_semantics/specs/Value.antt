-- The value of a key at a state of the files. `next` gives a key's turn from the answers so far; `read` gives the value
-- of a leaf in the files, and None if the key is not a leaf; `cycle` gives the value that the members of a cycle share.
use Rattle.std.specs.Prelude.{◌≡◌, ◌≢◌, List, [], ◌∷◌, ◌++◌, Option, Some, None, ⊤}
use Rattle.std.specs.List.{AllByRecursion}
use Rattle.engine_semantics.specs.Reply.{Reply, Ask, Done}

-- no element of the list occurs twice
abbrev pub AllDiffer : {K : Type 0} → List K → Type 0
AllDiffer [] = ⊤
AllDiffer (k ∷ keys) = AllByRecursion (λ j. k ≢ j) keys × AllDiffer keys

module _ {K V : Type 0} (next : K → List V → Reply K V) (read : K → Option V) where
  mutual
    -- the least set that has the leaves and each key whose turns ask for only keys of the set, and end
    pub data Grounded : K → V → Type 0 where
      is_leaf : {k : K} {v : V} → read k ≡ Some v → Grounded k v
      has_run : {k : K} {v : V} {groups : List (List K)} → read k ≡ None → Turns k [] groups v → Grounded k v

    -- from these answers on, k asks for these groups and ends with v
    pub data Turns : K → List V → List (List K) → V → Type 0 where
      ends : {k : K} {answers : List V} {v : V} → next k answers ≡ Done v → Turns k answers [] v
      asks : {k : K} {answers : List V} {v : V} {group : List K} {values : List V} {groups : List (List K)}
          → next k answers ≡ Ask group → AllGrounded group values → Turns k (answers ++ values) groups v → Turns k answers (group ∷ groups) v

    -- the members of a group with their values
    pub data AllGrounded : List K → List V → Type 0 where
      none : AllGrounded [] []
      one : {k : K} {v : V} {keys : List K} {values : List V} → Grounded k v → AllGrounded keys values → AllGrounded (k ∷ keys) (v ∷ values)

  abbrev pub IsUngrounded : K → Type 0
  IsUngrounded k = (v : V) → ¬ Grounded k v

  -- j is the first member of a group that is not grounded, where P says which keys are not
  pub data First (P : K → Type 0) : List K → K → Type 0 where
    at_head : {j : K} {keys : List K} → P j → First P (j ∷ keys) j
    further : {k : K} {v : V} {keys : List K} {j : K} → Grounded k v → First P keys j → First P (k ∷ keys) j

  -- from these answers on, k asks for these groups; j is the first member of the last one that is not grounded
  pub data Stops (P : K → Type 0) : K → List V → List (List K) → K → Type 0 where
    here : {k : K} {answers : List V} {group : List K} {j : K}
        → next k answers ≡ Ask group → First P group j → Stops P k answers (group ∷ []) j
    later : {k : K} {answers : List V} {j : K} {group : List K} {values : List V} {groups : List (List K)}
        → next k answers ≡ Ask group → AllGrounded group values → Stops P k (answers ++ values) groups j → Stops P k answers (group ∷ groups) j

  -- the walk along the members at which keys stop: from k it meets these keys and comes to j
  pub data Walk : K → List K → K → Type 0 where
    stay : {k : K} → Walk k [] k
    step : {k : K} {groups : List (List K)} {i : K} {keys : List K} {j : K}
        → read k ≡ None → Stops IsUngrounded k [] groups i → Walk i keys j → Walk k (k ∷ keys) j

  module _ (cycle : List K → V) where
    -- the walk from k repeats at m, and v is the value of that cycle
    pub record Cyclic (k : K) (v : V) : Type 0 where
      pub before : List K
      pub m : K
      pub rest : List K
      pub comes : Walk k before m
      pub returns : Walk m (m ∷ rest) m
      pub once : AllDiffer (m ∷ rest)
      pub value : v ≡ cycle (m ∷ rest)

    -- what a record of k keeps: its value, and the groups that it asks for, up to the first with a member that is not
    -- grounded
    pub data Settles : K → List (List K) → V → Type 0 where
      leaf : {k : K} {v : V} → read k ≡ Some v → Settles k [] v
      run : {k : K} {groups : List (List K)} {v : V} → read k ≡ None → Turns k [] groups v → Settles k groups v
      closed : {k : K} {groups : List (List K)} {j : K} {v : V} → read k ≡ None → Stops IsUngrounded k [] groups j → Cyclic k v → Settles k groups v

    abbrev pub HasValue : K → V → Type 0
    HasValue k v = (groups : List (List K)) × Settles k groups v

-- x is an element of the list
pub data In {X : Type 0} : X → List X → Type 0 where
  first : {x : X} {xs : List X} → In x (x ∷ xs)
  after : {x y : X} {xs : List X} → In x xs → In x (y ∷ xs)

-- j is a member of a group
abbrev pub IsMember : {K : Type 0} → K → List (List K) → Type 0
IsMember {K} j groups = (group : List K) × In group groups × In j group

abbrev pub EachMember : {K : Type 0} → (K → Type 0) → List (List K) → Type 0
EachMember P groups = AllByRecursion (AllByRecursion P) groups
