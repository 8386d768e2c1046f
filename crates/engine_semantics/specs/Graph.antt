-- When a graph of records is consistent for a history of the files. `reads u` reads the leaves at version u.
use Rattle.std.specs.Prelude.{◌≡◌, ◌≢◌, ℕ, ◌<◌, ◌≤◌, Bool, true, false, List, Option, Some, None, ◌⊎◌}
use Rattle.engine_semantics.specs.Reply.{Reply}
use Rattle.engine_semantics.specs.Value.{Settles, HasValue, IsMember}

-- what a graph keeps of a key
pub record Record (K V : Type 0) : Type 0 where
  pub value : V
  pub groups : List (List K)
  pub settled_at : ℕ
  pub changed_at : ℕ
  pub dirty : Bool

module _ {K V : Type 0} (next : K → List V → Reply K V) (cycle : List K → V) (reads : ℕ → K → Option V) where
  -- at two versions from u to `now` the key has two values
  pub record Differs (k : K) (u now : ℕ) : Type 0 where
    pub a : ℕ
    pub b : ℕ
    pub a_within : (u ≤ a) × (a ≤ now)
    pub b_within : (u ≤ b) × (b ≤ now)
    pub v : V
    pub w : V
    pub at_a : HasValue next (reads a) cycle k v
    pub at_b : HasValue next (reads b) cycle k w
    pub apart : v ≢ w

  -- what is recorded of j, where a record settled at u has it in a group
  pub record IsDependency (records : K → Option (Record K V)) (now u : ℕ) (dirty : Bool) (j : K) : Type 0 where
    pub of_j : Record K V
    pub recorded : records j ≡ Some of_j
    -- it is dirty only where the record with the group is
    pub dirty_above : of_j.dirty ≡ true → dirty ≡ true
    -- a value that did not change after u is that at u
    pub unchanged : of_j.changed_at ≤ u → HasValue next (reads u) cycle j of_j.value
    -- a value that changed after u makes the record dirty
    pub changed : u < of_j.changed_at → Differs j u now × (dirty ≡ true)

  -- what a record keeps of k is true
  pub record IsConsistent (records : K → Option (Record K V)) (now : ℕ) (k : K) (r : Record K V) : Type 0 where
    pub past : (r.changed_at ≤ r.settled_at) × (r.settled_at ≤ now)
    -- what is dirty was settled at an earlier version
    pub late : r.dirty ≡ true → r.settled_at < now
    -- the value and the groups are those at the version at which it was settled
    pub settled : Settles next (reads r.settled_at) cycle k r.groups r.value
    -- a record that is not dirty has the value and the groups of the present files
    pub clean : r.dirty ≡ false → Settles next (reads now) cycle k r.groups r.value
    pub depends : (j : K) → IsMember j r.groups → IsDependency records now r.settled_at r.dirty j

  -- the graph is consistent at the version `now`, where `touched u` are the leaves that the edit to version u touches
  pub record Lawful (records : K → Option (Record K V)) (touched : ℕ → K → Type 0) (now : ℕ) : Type 0 where
    pub each : (k : K) (r : Record K V) → records k ≡ Some r → IsConsistent records now k r
    -- a leaf is dirty exactly if an edit since it was settled touches it
    pub leaf_dirty : (k : K) (r : Record K V) (v : V) → records k ≡ Some r → reads now k ≡ Some v → r.dirty ≡ true → (u : ℕ) × (r.settled_at < u) × (u ≤ now) × touched u k
    pub leaf_clean : (k : K) (r : Record K V) (v : V) → records k ≡ Some r → reads now k ≡ Some v → (u : ℕ) → r.settled_at < u → u ≤ now → touched u k → r.dirty ≡ true

-- k is a touched leaf, or a recorded group of k has a member that reaches one
pub data Reaches {K V : Type 0} (records : K → Option (Record K V)) (touched : K → Type 0) : K → Type 0 where
  leaf : {k : K} → touched k → Reaches records touched k
  through : {k : K} {r : Record K V} {j : K} → records k ≡ Some r → IsMember j r.groups → Reaches records touched j → Reaches records touched k

-- an edit marks dirty what is dirty already or reaches a touched leaf, and changes nothing else
pub record MarksDirty {K V : Type 0} (records marked : K → Option (Record K V)) (touched : K → Type 0) : Type 0 where
  pub none_new : (k : K) → records k ≡ None → marked k ≡ None
  pub kept : (k : K) (r : Record K V) → records k ≡ Some r → (dirty : Bool) × (marked k ≡ Some (record r { dirty = dirty }))
  pub marks : (k : K) (r m : Record K V) → records k ≡ Some r → marked k ≡ Some m → (r.dirty ≡ true) ⊎ Reaches records touched k → m.dirty ≡ true
  pub only : (k : K) (r m : Record K V) → records k ≡ Some r → marked k ≡ Some m → m.dirty ≡ true → (r.dirty ≡ true) ⊎ Reaches records touched k

-- j is settled at `now` with a record of its present value and groups, whose members are recorded and not dirty
pub record IsSettled {K V : Type 0} (next : K → List V → Reply K V) (cycle : List K → V) (read : K → Option V) (now : ℕ) (records settled : K → Option (Record K V)) (j : K) : Type 0 where
  pub value : V
  pub groups : List (List K)
  pub changed_at : ℕ
  pub stored : settled j ≡ Some (record { value = value; groups = groups; settled_at = now; changed_at = changed_at; dirty = false })
  pub holds : Settles next read cycle j groups value
  pub members : (i : K) → IsMember i groups → (r : Record K V) × (settled i ≡ Some r) × (r.dirty ≡ false)
  -- the changed version is kept if an equal value was there, and is the present one otherwise
  pub change : ((r : Record K V) × (records j ≡ Some r) × (r.value ≡ value) × (changed_at ≡ r.changed_at)) ⊎ ((changed_at ≡ now) × ((r : Record K V) → records j ≡ Some r → r.value ≢ value))
