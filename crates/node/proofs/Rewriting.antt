-- The reverse edges while a record is written.
use Rattle.std.proofs.Common.{◌≡◌, ◌⊎◌, inl, inr, ℕ, Bool, true, false, List, Option, Some, None, refl, sym, ◌∙◌, subst}
use Rattle.std.specs.List.{concat}
use Rattle.std.specs.Map.{keys_of}
use Rattle.std.specs.Option.{IsSome}
use Rattle.engine_semantics.specs.Value.{In, IsMember}
use Rattle.keys.specs.declared.key.Key.{Key}
use Rattle.keys.specs.declared.value.Value.{Value}
use Rattle.engine_semantics.specs.Graph.{Record}
use Rattle.node_table.specs.Flats.{groups_in, members_in}
use Rattle.node.specs.Records.{Records, Users, users_at}
use Rattle.node.specs.Edges.{HasLinkedSome, HasLinkedAll, HasCut, HasUsers, among}
use Rattle.node.specs.Graphs.{IsLinked}
use Rattle.node.specs.Writes.{groups_at, SameSets}
use Rattle.node.proofs.Lists.{true_false, decide_key, not_in}
use Rattle.node.proofs.Joining.{among_member, not_among}
use Rattle.node.proofs.Numbering.{member_named, named_member}

pub some_there : {X : Type 0} (o : Option X) → IsSome o → (x : X) × (o ≡ Some x)
some_there None h = absurd (true_false h refl)
some_there (Some x) h = (x, refl)

-- a key is a member of the groups, or is none
pub decide_member : (groups : List (List Key)) (j : Key) → IsMember j groups ⊎ (IsMember j groups → ⊥)
decide_member groups j = go (among groups j) refl
  where
    go : (b : Bool) → among groups j ≡ b → IsMember j groups ⊎ (IsMember j groups → ⊥)
    go true t = inl (among_member groups j t)
    go false t = inr (not_among groups j t)

module _ (records : Key → Option (Record Key Value)) (users : Users) (linked : IsLinked records users) (key : Key) where
  abbrev old_groups : List (List Key)
  old_groups = groups_at (records key)

  pub complete_at : (j : Key) → IsMember j old_groups → In key (users_at users j)
  complete_at j m = go (records key) refl m
    where
      go : (o : Option (Record Key Value)) → records key ≡ o → IsMember j (groups_at o) → In key (users_at users j)
      go None h m = absurd (not_in m.1 refl)
      go (Some e) h m = linked.complete j key e h m

  used_at : (j : Key) → In key (users_at users j) → IsMember j old_groups
  used_at j i = let p = linked.used j key i in subst (λ o. IsMember j (groups_at o)) (sym p.1) p.2

  module _ (middle later : Users) (groups linked_groups cut_groups kept_groups : List (List Key)) (g : linked_groups ≡ groups) (some : HasLinkedSome users middle key (λ j. IsMember j linked_groups)) where
    -- the members that were linked are cut again
    pub undone_users : cut_groups ≡ groups → kept_groups ≡ old_groups → HasCut middle later key (λ j. IsMember j cut_groups) (λ j. IsMember j kept_groups) → SameSets users later
    undone_users c k cut j x = (to, back)
      where
        to : In x (users_at later j) → In x (users_at users j)
        to i = elim (some.from j x (cut.from j x i)) [
          | inl a ↦ a
          | inr p ↦ elim (decide_member old_groups j) [
            | inl m ↦ subst (λ y. In y (users_at users j)) p.1 (complete_at j m)
            | inr n ↦ absurd (cut.gone j (subst (IsMember j) (g ∙ sym c) p.0) (λ m. n (subst (IsMember j) k m)) (subst (λ y. In y (users_at later j)) (sym p.1) i))
          ]
        ]

        back : In x (users_at users j) → In x (users_at later j)
        back i = elim (decide_key key x) [
          | inl q ↦ subst (λ y. In y (users_at later j)) q (cut.kept j (subst (IsMember j) (sym k) (used_at j (subst (λ y. In y (users_at users j)) (sym q) i))) (some.keeps j key (subst (λ y. In y (users_at users j)) (sym q) i)))
          | inr n ↦ cut.others j x n (some.keeps j x i)
        ]

    -- the members that are no more members are cut
    pub finished_users : HasLinkedAll middle key (λ j. IsMember j linked_groups) → cut_groups ≡ old_groups → kept_groups ≡ groups → HasCut middle later key (λ j. IsMember j cut_groups) (λ j. IsMember j kept_groups) → HasUsers users later key groups
    finished_users all c k cut = record {
      own = λ j i. elim (some.from j key (cut.from j key i)) [
        | inl a ↦ elim (decide_member groups j) [
          | inl m ↦ m
          | inr n ↦ absurd (cut.gone j (subst (IsMember j) (sym c) (used_at j a)) (λ m. n (subst (IsMember j) k m)) i)
        ]
        | inr p ↦ subst (IsMember j) g p.0
      ];
      has = λ j m. cut.kept j (subst (IsMember j) (sym k) m) (all j (subst (IsMember j) (sym g) m));
      others = λ j x n i. elim (some.from j x (cut.from j x i)) [ inl a ↦ a | inr p ↦ absurd (n p.1) ];
      kept = λ j x n i. cut.others j x n (some.keeps j x i);
    }

-- the same reverse dependencies in any order
pub linked_sets : (records : Key → Option (Record Key Value)) (old new : Users) → SameSets old new → IsLinked records old → IsLinked records new
linked_sets records old new same l = record {
  used = λ j k i. l.used j k ((same j k).0 i);
  complete = λ j k e h m. (same j k).1 (l.complete j k e h m);
  members = l.members;
  dirty_above = l.dirty_above;
}

-- the members of groups that are kept by numbers
module _ (records : Records) (flat : List (List ℕ)) (ns : List ℕ) (groups : List (List Key)) (all : ns ≡ concat flat) (is : groups_in records flat ≡ groups) where
  pub flat_member : (j : Key) → In j (members_in records ns) → IsMember j groups
  flat_member j i = subst (IsMember j) is (named_member (keys_of records) flat (subst (λ (ms : List ℕ). In j (members_in records ms)) all i))

  pub member_flat : (j : Key) → IsMember j groups → In j (members_in records ns)
  member_flat j m = subst (λ (ms : List ℕ). In j (members_in records ms)) (sym all) (member_named (keys_of records) flat (subst (IsMember j) (sym is) m))

-- the key became a reverse dependency of some of more members
pub linked_wider : {X : Type 0} (old new : Key → List X) (key : X) (M N : Key → Type 0) → ((j : Key) → M j → N j) → HasLinkedSome old new key M → HasLinkedSome old new key N
linked_wider old new key M N wider some = record { from = λ j k i. elim (some.from j k i) [ inl a ↦ inl a | inr p ↦ inr (wider j p.0, p.1) ]; keeps = some.keeps }
