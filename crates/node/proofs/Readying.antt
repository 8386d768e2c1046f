-- The test of the members that are ready tells what it should.
use Rattle.std.proofs.Common.{◌≡◌, ◌⊎◌, inl, inr, Bool, true, false, not, ◌&&◌, ◌||◌, List, Option, Some, None, refl}
use Rattle.engine_semantics.specs.Graph.{Record}
use Rattle.engine_semantics.specs.Value.{In, first, after}
use Rattle.keys.specs.Keys.{key_eq}
use Rattle.keys.specs.declared.key.Key.{Key}
use Rattle.keys.specs.declared.value.Value.{Value}
use Rattle.keys.proofs.KeyLaws.{exact_key_eq}
use Rattle.node.specs.Writes.{is_clean, is_ready_group, are_ready, HasReadyMembers}

both : (a b : Bool) → a && b ≡ true → (a ≡ true) × (b ≡ true)
both true true e = (refl, refl)
both true false e = cc
both false b e = cc

module _ (records : Key → Option (Record Key Value)) (key : Key) where
  abbrev IsReady : Key → Type 0
  IsReady j = (key ≡ j) ⊎ ((s : Record Key Value) × (records j ≡ Some s) × (s.dirty ≡ false))

  clean_record : (j : Key) → is_clean (records j) ≡ true → IsReady j
  clean_record j h = go (records j) refl h
    where
      not_dirty : (b : Bool) → not b ≡ true → b ≡ false
      not_dirty true e = cc
      not_dirty false e = refl

      go : (o : Option (Record Key Value)) → records j ≡ o → is_clean o ≡ true → IsReady j
      go None e t = cc
      go (Some s) e t = inr (s, e, not_dirty s.dirty t)

  one_ready : (j : Key) → key_eq key j || is_clean (records j) ≡ true → IsReady j
  one_ready j h = go (key_eq key j) refl h
    where
      go : (b : Bool) → key_eq key j ≡ b → b || is_clean (records j) ≡ true → IsReady j
      go true e t = inl ((exact_key_eq key j).0 e)
      go false e t = clean_record j t

  group_ready : {j : Key} {group : List Key} → In j group → is_ready_group records key group ≡ true → IsReady j
  group_ready {j} first h = one_ready j (both _ _ h).0
  group_ready (after i) h = group_ready i (both _ _ h).1

  pub ready_members : (groups : List (List Key)) → are_ready records key groups ≡ true → HasReadyMembers records key groups
  ready_members groups h j m = go m.1 h
    where
      go : {gs : List (List Key)} → In m.0 gs → are_ready records key gs ≡ true → IsReady j
      go first t = group_ready m.2 (both _ _ t).0
      go (after i) t = go i (both _ _ t).1
