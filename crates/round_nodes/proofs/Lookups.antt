-- What a hash table by keys has after a change at one key.
use Rattle.std.proofs.Common.{◌≡◌, ◌≢◌, ◌⊎◌, inl, inr, Bool, true, false, Option, refl}
use Rattle.indexmap.specs.IndexMap.{get, Updates}
use Rattle.keys.specs.Keys.{key_eq}
use Rattle.keys.specs.declared.key.Key.{Key}
use Rattle.keys.proofs.KeyLaws.{exact_key_eq}
use Rattle.round_nodes.specs.Nodes.{ByKey}

-- a key is the changed one, or is as before
pub same_or_key : {X : Type 0} (old new : ByKey X) (key : Key) (o : Option X) → Updates key_eq old new key o → (k : Key) → (key ≡ k) ⊎ (get key_eq new k ≡ get key_eq old k)
same_or_key old new key o u k = go (key_eq key k) refl
  where
    go : (b : Bool) → key_eq key k ≡ b → (key ≡ k) ⊎ (get key_eq new k ≡ get key_eq old k)
    go true t = inl ((exact_key_eq key k).0 t)
    go false t = inr (u.2 k t)

-- another key is as before
pub other_key : {X : Type 0} (old new : ByKey X) (key : Key) (o : Option X) → Updates key_eq old new key o → (k : Key) → key ≢ k → get key_eq new k ≡ get key_eq old k
other_key old new key o u k n = elim (same_or_key old new key o u k) [ inl q ↦ absurd (n q) | inr q ↦ q ]
