-- What a check finds in a group, member by member.
use Rattle.std.proofs.Common.{◌≡◌, ◌∙◌, ℕ, nat_lt, ◌+◌, ◌<◌, ◌≤◌, ◌||◌, true, false, Bool, not, cond, List, [], ◌∷◌, ◌++◌, length, take, Some, refl, sym, ap, subst, slice_index_or, append-nil, arith}
use Rattle.std.specs.List.{list_any}
use Rattle.std.specs.Map.{keys_of}
use Rattle.std.proofs.lemmas.List.Elements.{filter-append}
use Rattle.std.proofs.lemmas.List.Folds.{list_any-append}
use Rattle.engine_semantics.specs.Value.{In, first, after}
use Rattle.node_table.specs.Tables.{AreDistinct, key_at, value_at}
use Rattle.node_table.specs.Flats.{members_in}
use Rattle.node_table.proofs.Numbers.{value_by_number}
use Rattle.keys.specs.declared.key.Key.{Key}
use Rattle.node.specs.Records.{Records, record_of}
use Rattle.node.specs.Graphs.{records_of}
use Rattle.node.specs.Writes.{is_clean}
use Rattle.node.specs.Comparisons.{any_changed, has_changed, unsettled_members}
use Rattle.node.specs.declared.records.NodeRecord.{NodeRecord}
use Rattle.node.proofs.Linking.{is_seen}
use Rattle.node.proofs.Numbering.{in_at, in_members, taken_members}

any_in : {X : Type 0} (p : X → Bool) {x : X} {xs : List X} → In x xs → p x ≡ true → list_any p xs ≡ true
any_in p {x} (first {xs = xs}) h = ap (λ b. b || list_any p xs) h
any_in p {x} (after {y = y} {xs = xs} i) h = ap (λ b. p y || b) (any_in p i h) ∙ or_true (p y)
  where
    or_true : (b : Bool) → b || true ≡ true
    or_true true = refl
    or_true false = refl

later : {a b : ℕ} → a < b → nat_lt a b ≡ true
later h = grind (arith, h)

no_later : {a b : ℕ} → b ≤ a → nat_lt a b ≡ false
no_later h = grind (arith, h)

module _ (records : Records) (distinct : AreDistinct records) (ns : List ℕ) (at n : ℕ) (k : Key) (e : NodeRecord) (is : n ≡ slice_index_or ns at n) (h : at < length ns)
    (key : key_at records n ≡ Some k) (value : value_at records n ≡ Some e) where
  seen_here : records_of records k ≡ Some (record_of (keys_of records) e)
  seen_here = is_seen records k e (value_by_number records distinct k n key ∙ value)

  unsettled_one : (d : Bool) → e.dirty ≡ d → unsettled_members (records_of records) (k ∷ []) ≡ cond d (k ∷ []) []
  unsettled_one true d = ap (λ o. cond (not (is_clean o)) (k ∷ []) []) seen_here ∙ ap (λ b. cond (not (not b)) (k ∷ []) []) d
  unsettled_one false d = ap (λ o. cond (not (is_clean o)) (k ∷ []) []) seen_here ∙ ap (λ b. cond (not (not b)) (k ∷ []) []) d

  more : unsettled_members (records_of records) (members_in records (take (at + 1) ns)) ≡ unsettled_members (records_of records) (members_in records (take at ns)) ++ unsettled_members (records_of records) (k ∷ [])
  more = ap (unsettled_members (records_of records)) (taken_members records ns at n k is h key) ∙ filter-append (λ j. not (is_clean (records_of records j))) (members_in records (take at ns)) (k ∷ [])

  -- a member more that is not settled
  pub one_unsettled : e.dirty ≡ true → (missing : List Key) → missing ≡ unsettled_members (records_of records) (members_in records (take at ns)) → missing ++ k ∷ [] ≡ unsettled_members (records_of records) (members_in records (take (at + 1) ns))
  one_unsettled d missing s = ap (λ l. l ++ k ∷ []) s ∙ sym (more ∙ ap (λ l. unsettled_members (records_of records) (members_in records (take at ns)) ++ l) (unsettled_one true d))

  -- a member more that is settled
  pub one_settled : e.dirty ≡ false → (missing : List Key) → missing ≡ unsettled_members (records_of records) (members_in records (take at ns)) → missing ≡ unsettled_members (records_of records) (members_in records (take (at + 1) ns))
  one_settled d missing s = s ∙ sym (more ∙ ap (λ l. unsettled_members (records_of records) (members_in records (take at ns)) ++ l) (unsettled_one false d) ∙ append-nil (unsettled_members (records_of records) (members_in records (take at ns))))

  changed_here : (since : ℕ) → has_changed (records_of records k) since ≡ nat_lt since e.changed_at
  changed_here since = ap (λ o. has_changed o since) seen_here

  -- a member that has changed
  pub one_changed : (since : ℕ) → since < e.changed_at → true ≡ any_changed (records_of records) (members_in records ns) since
  one_changed since c = sym (any_in (λ j. has_changed (records_of records j) since) (in_members records ns n k (subst (λ x. In x ns) (sym is) (in_at ns at n h)) key) (changed_here since ∙ later c))

  -- a member more that has not
  pub one_unchanged : (since : ℕ) → e.changed_at ≤ since → any_changed (records_of records) (members_in records (take at ns)) since ≡ false → any_changed (records_of records) (members_in records (take (at + 1) ns)) since ≡ false
  one_unchanged since c s =
      ap (λ l. any_changed (records_of records) l since) (taken_members records ns at n k is h key)
      ∙ list_any-append (λ j. has_changed (records_of records j) since) (members_in records (take at ns)) (k ∷ [])
      ∙ ap (λ b. b || any_changed (records_of records) (k ∷ []) since) s
      ∙ ap (λ b. b || false) (changed_here since ∙ no_later c)
