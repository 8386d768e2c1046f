-- What is marked dirty along reverse edges.
use Rattle.std.specs.Prelude.{◌≡◌, ◌⊎◌, ◌<◌, ℕ, Bool, true, false, List, [], ◌∷◌, ◌++◌, Some, None, All, length}
use Rattle.std.specs.Map.{keys_of}
use Rattle.engine_semantics.specs.Value.{In}
use Rattle.keys.specs.declared.key.Key.{Key}
use Rattle.node_table.specs.Tables.{Writes}
use Rattle.node.specs.declared.records.NodeRecord.{NodeRecord}
use Rattle.node.specs.Records.{Records, Users, kept_at, users_at, numbers_of}

-- if k has a record, it is dirty
abbrev pub IsDirty : Records → Key → Type 0
IsDirty records k = (e : NodeRecord) → kept_at records k ≡ Some e → e.dirty ≡ true

-- k is a leaf of the list, or a reverse dependency of what is reached
pub data IsReached (users : Users) (leaves : List Key) : Key → Type 0 where
  at_leaf : {k : Key} → In k leaves → IsReached users leaves k
  by_user : {j k : Key} → IsReached users leaves j → In k (users_at users j) → IsReached users leaves k

-- the listed records were clean, are reached, and are now dirty; the others are as before
pub record Marked (users : Users) (leaves : List Key) (old new : Records) (marked : List Key) : Type 0 where
  pub each : (k : Key) → In k marked → (e : NodeRecord) × (kept_at old k ≡ Some e) × (e.dirty ≡ false) × (kept_at new k ≡ Some (record e { dirty = true })) × IsReached users leaves k
  pub rest : (k : Key) → In k marked ⊎ (kept_at new k ≡ kept_at old k)

-- nothing had to be done, or the record is now dirty and listed
abbrev pub HasReached : Records → Records → List Key → List Key → Key → Type 0
HasReached old new before after key = ((new ≡ old) × (after ≡ before) × IsDirty old key)
    ⊎ ((e : NodeRecord) × (kept_at old key ≡ Some e) × (e.dirty ≡ false) × Writes old new key (record e { dirty = true }) × (keys_of new ≡ keys_of old) × (after ≡ before ++ key ∷ []))

-- numbers of records were listed after the others
abbrev pub Lists : Records → List ℕ → List ℕ → Type 0
Lists records before after = (more : List ℕ) × (after ≡ before ++ more) × All (λ n. n < length records) more

-- some of these keys were reached
pub record HasReachedSome (old new : Records) (before after keys : List Key) : Type 0 where
  pub marks : (users : Users) (leaves : List Key) (original : Records) → Marked users leaves original old before → ((k : Key) → In k keys → IsReached users leaves k) → Marked users leaves original new after
  pub still : (k : Key) → IsDirty old k → IsDirty new k
  pub same_keys : keys_of new ≡ keys_of old
  pub same_lists : (j : Key) → numbers_of new j ≡ numbers_of old j
  pub more : List Key
  pub grows : after ≡ before ++ more

-- all of these keys were reached
abbrev pub HasReachedAll : Records → List Key → Type 0
HasReachedAll new keys = (k : Key) → In k keys → IsDirty new k

-- records were marked dirty from the listed keys
pub record HasSpread (users : Users) (old new : Records) (before after : List Key) : Type 0 where
  pub marks : (leaves : List Key) (original : Records) → Marked users leaves original old before → Marked users leaves original new after
  pub still : (k : Key) → IsDirty old k → IsDirty new k
  pub same_keys : keys_of new ≡ keys_of old
  pub same_lists : (j : Key) → numbers_of new j ≡ numbers_of old j

-- the reverse dependencies of these keys are dirty
abbrev pub HasPassed : Users → Records → List Key → Type 0
HasPassed users records keys = (j : Key) → In j keys → (k : Key) → In k (users_at users j) → IsDirty records k

-- the dirty flags of these keys' records are set to this, and nothing else changes
pub record SetsMarks (dirty : Bool) (old new : Records) (keys : List Key) : Type 0 where
  pub each : (k : Key) → In k keys → (e : NodeRecord) → kept_at old k ≡ Some e → kept_at new k ≡ Some (record e { dirty = dirty })
  pub none : (k : Key) → kept_at old k ≡ None → kept_at new k ≡ None
  pub rest : (k : Key) → In k keys ⊎ (kept_at new k ≡ kept_at old k)
