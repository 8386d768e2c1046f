-- Changes of reverse edges.
use Rattle.std.specs.Prelude.{◌≡◌, ◌≢◌, ◌⊎◌, ◌↔◌, List, Bool}
use Rattle.std.specs.List.{list_any}
use Rattle.keys.specs.Keys.{key_eq}
use Rattle.engine_semantics.specs.Value.{In, IsMember}
use Rattle.keys.specs.declared.key.Key.{Key}
use Rattle.node.specs.Records.{Users, users_at}

module _ {X : Type 0} where
  -- a key is added
  pub record IsAdded (old new : List X) (key : X) : Type 0 where
    pub from : (k : X) → In k new → In k old ⊎ (key ≡ k)
    pub keeps : (k : X) → In k old → In k new
    pub has : In key new

  -- a key is removed
  pub record IsRemoved (old new : List X) (key : X) : Type 0 where
    pub from : (k : X) → In k new → In k old
    pub keeps : (k : X) → In k old → In k new ⊎ (key ≡ k)
    pub gone : In key new → ⊥

  -- each key has the reverse dependencies that it had
  abbrev pub SameUsers : (Key → List X) → (Key → List X) → Type 0
  SameUsers old new = (j : Key) → new j ≡ old j

  -- the key is a reverse dependency of the member
  pub record HasLinked (old new : Key → List X) (member : Key) (key : X) : Type 0 where
    pub from : (j : Key) (k : X) → In k (new j) → In k (old j) ⊎ ((member ≡ j) × (key ≡ k))
    pub keeps : (j : Key) (k : X) → In k (old j) → In k (new j)
    pub has : In key (new member)

  -- the key is not a reverse dependency of the member
  pub record HasUnlinked (old new : Key → List X) (member : Key) (key : X) : Type 0 where
    pub from : (j : Key) (k : X) → In k (new j) → In k (old j)
    pub keeps : (j : Key) (k : X) → In k (old j) → In k (new j) ⊎ ((member ≡ j) × (key ≡ k))
    pub gone : In key (new member) → ⊥

  -- the key became a reverse dependency of some of these members
  pub record HasLinkedSome (old new : Key → List X) (key : X) (members : Key → Type 0) : Type 0 where
    pub from : (j : Key) (k : X) → In k (new j) → In k (old j) ⊎ (members j × (key ≡ k))
    pub keeps : (j : Key) (k : X) → In k (old j) → In k (new j)

  -- the key is a reverse dependency of all of these members
  abbrev pub HasLinkedAll : (Key → List X) → X → (Key → Type 0) → Type 0
  HasLinkedAll new key members = (j : Key) → members j → In key (new j)

  -- the key is no longer a reverse dependency of these members, except of those that are kept
  pub record HasCut (old new : Key → List X) (key : X) (members keep : Key → Type 0) : Type 0 where
    pub from : (j : Key) (k : X) → In k (new j) → In k (old j)
    pub gone : (j : Key) → members j → (keep j → ⊥) → In key (new j) → ⊥
    pub others : (j : Key) (k : X) → key ≢ k → In k (old j) → In k (new j)
    pub kept : (j : Key) → keep j → In key (old j) → In key (new j)

-- whether the key is a member of the groups
abbrev pub among : List (List Key) → Key → Bool
among groups key = list_any (λ group. list_any (λ k. key_eq k key) group) groups

-- the reverse dependencies after a record of the key with these groups is written
pub record HasUsers (old new : Users) (key : Key) (groups : List (List Key)) : Type 0 where
  pub own : (j : Key) → In key (users_at new j) → IsMember j groups
  pub has : (j : Key) → IsMember j groups → In key (users_at new j)
  pub others : (j k : Key) → key ≢ k → In k (users_at new j) → In k (users_at old j)
  pub kept : (j k : Key) → key ≢ k → In k (users_at old j) → In k (users_at new j)

-- the members of the group were added
pub record AddsMembers (old new group : List Key) : Type 0 where
  pub from : (k : Key) → In k new → In k old ⊎ In k group
  pub keeps : (k : Key) → In k old → In k new
  pub has : (k : Key) → In k group → In k new

-- these are the members of the groups
abbrev pub AreMembers : List Key → List (List Key) → Type 0
AreMembers keys groups = (j : Key) → In j keys ↔ IsMember j groups
