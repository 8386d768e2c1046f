-- Open nodes in the order of their keys, the least last.
use Rattle.std.proofs.Common.{◌≡◌, inl, inr, ℕ, suc, ◌<◌, ◌≤◌, Bool, true, false, cond, List, [], ◌∷◌, ◌++◌, length, get_or, reverse, Option, Some, None, IfSome, IsSorted, option_to_list, refl, sym, ◌∙◌, ap, subst, arith}
use mathlib.Core.List.{reverse-cons}
use Rattle.std.specs.Map.{keys_of, lookup}
use Rattle.std.specs.Ordering.{is_lt}
use Rattle.std.proofs.lemmas.Cmp.{tied_itself}
use Rattle.std.proofs.lemmas.List.{append-nil}
use Rattle.std.proofs.lemmas.List.Sorted.{sorted_far, ranks_by}
use Rattle.indexmap.specs.IndexMap.{Updates}
use Rattle.engine_semantics.specs.Value.{In, first, after}
use Rattle.keys.specs.Keys.{key_cmp, key_eq}
use Rattle.keys.specs.declared.key.Key.{Key}
use Rattle.keys.proofs.KeyLaws.{keys_total, exact_key_eq}
use Rattle.node.proofs.Lists.{none_some, in_split, in_left, in_right, in_one}
use Rattle.round_nodes.specs.Nodes.{Nodes, node_at}
use Rattle.round_nodes.specs.declared.table.Node.{Node}
use Rattle.round.specs.Closing.{Descends, IsLeast}

-- a node with its key
abbrev pub Entry : Type 0
Entry = Key × Node

-- an entry that is found
found_in : (es : List Entry) (j : Key) (n : Node) → lookup (key_eq j) es ≡ Some n → (x : Entry) × In x es × (x.0 ≡ j)
found_in [] j n e = absurd (none_some e)
found_in (x ∷ es) j n e = go (key_eq j x.0) refl (found_in es j n)
  where
    go : (b : Bool) → key_eq j x.0 ≡ b → (lookup (key_eq j) es ≡ Some n → (y : Entry) × In y es × (y.0 ≡ j)) → (y : Entry) × In y (x ∷ es) × (y.0 ≡ j)
    go true t later = (x, first, sym ((exact_key_eq j x.0).0 t))
    go false t later = let r = later (sym (ap (λ b. cond b (Some x.1) (lookup (key_eq j) es)) t) ∙ e) in (r.0, after r.1, r.2)

itself : (k : Key) → is_lt (key_cmp k k) ≡ false
itself k = ap is_lt (tied_itself keys_total k)

-- the last is the least
last_least : (front : List Entry) (p x : Entry) → Descends (front ++ p ∷ []) → In x (front ++ p ∷ []) → is_lt (key_cmp x.0 p.0) ≡ false
last_least [] p x d i = subst (λ (y : Entry). is_lt (key_cmp y.0 p.0) ≡ false) (sym (in_one i)) (itself p.0)
last_least (e ∷ front) p x d i = elim (in_split i (e ∷ []) (front ++ p ∷ []) refl) [
  | inl a ↦ subst (λ (y : Entry). is_lt (key_cmp y.0 p.0) ≡ false) (sym (in_one a)) (d.0 p (in_right front first))
  | inr b ↦ last_least front p x d.1 b
]

-- the others descend still
front_descends : (front : List Entry) (p : Entry) → Descends (front ++ p ∷ []) → Descends front
front_descends [] p d = tt
front_descends (e ∷ front) p d = ((λ x i. d.0 x (in_left (p ∷ []) i)), front_descends front p d.1)

-- what is taken off the end is the least
pub pops_least : (old new : Nodes) (o : Option Entry) → old.entries ≡ new.entries ++ option_to_list o → Descends old.entries → IfSome o (λ p. IsLeast old p.0)
pops_least old new None e d = tt
pops_least old new (Some p) e d = λ j n. let r = found_in old.entries j n.0 n.1 in
    subst (λ k. is_lt (key_cmp k p.0) ≡ false) r.2 (last_least new.entries p r.0 (subst Descends e d) (subst (In r.0) e r.1))

pub pop_descends : (old new : List Entry) (o : Option Entry) → old ≡ new ++ option_to_list o → Descends old → Descends new
pop_descends old new None e d = subst Descends (e ∙ append-nil new) d
pop_descends old new (Some p) e d = front_descends new p (subst Descends e d)

-- what is last is found, where none of the others has its key
last_found : (es : List Entry) (p : Entry) → lookup (key_eq p.0) es ≡ None → lookup (key_eq p.0) (es ++ p ∷ []) ≡ Some p.1
last_found [] p e = ap (λ b. cond b (Some p.1) None) ((exact_key_eq p.0 p.0).1 refl)
last_found (x ∷ es) p e = go (key_eq p.0 x.0) refl (last_found es p)
  where
    go : (b : Bool) → key_eq p.0 x.0 ≡ b → (lookup (key_eq p.0) es ≡ None → lookup (key_eq p.0) (es ++ p ∷ []) ≡ Some p.1) → lookup (key_eq p.0) (x ∷ es ++ p ∷ []) ≡ Some p.1
    go true t later = absurd (none_some (sym e ∙ ap (λ b. cond b (Some x.1) (lookup (key_eq p.0) es)) t))
    go false t later = ap (λ b. cond b (Some x.1) (lookup (key_eq p.0) (es ++ p ∷ []))) t ∙ later (sym (ap (λ b. cond b (Some x.1) (lookup (key_eq p.0) es)) t) ∙ e)

pub pops_node : (old new : Nodes) (o : Option Entry) → old.entries ≡ new.entries ++ option_to_list o → IfSome o (λ p. Updates key_eq old new p.0 None) → IfSome o (λ p. node_at old p.0 ≡ Some p.1)
pops_node old new None e u = tt
pops_node old new (Some p) e u = ap (lookup (key_eq p.0)) e ∙ last_found new.entries p u.1

-- no key is below one before it
abbrev Rises : List Entry → Type 0
Rises [] = Unit {0}
Rises (e ∷ es) = ((x : Entry) → In x es → is_lt (key_cmp x.0 e.0) ≡ false) × Rises es

place_of : (es : List Entry) (x : Entry) (d : Key) → In x es → (i : ℕ) × (i < length (keys_of es)) × (get_or (keys_of es) i d ≡ x.0)
place_of [] x d i = elim i [ ]
place_of (e ∷ es) x d i = elim (in_split i (e ∷ []) es refl) [
  | inl a ↦ (0, omega arith, ap (λ (y : Entry). y.0) (sym (in_one a)))
  | inr b ↦ let r = place_of es x d b in let l = r.1 in (suc r.0, omega (arith, l), r.2)
]

rises : (es : List Entry) → ((i j : ℕ) (d : Key) → i ≤ j → j < length (keys_of es) → is_lt (key_cmp (get_or (keys_of es) j d) (get_or (keys_of es) i d)) ≡ false) → Rises es
rises [] f = tt
rises (e ∷ es) f = (
  (λ x i. let r = place_of es x e.0 i in let l = r.1 in subst (λ k. is_lt (key_cmp k e.0) ≡ false) r.2 (f 0 (suc r.0) e.0 (omega arith) (omega (arith, l)))),
  rises es (λ i j d a b. f (suc i) (suc j) d (omega (arith, a)) (omega (arith, b))),
)

-- a least one after
descends_snoc : (es : List Entry) (p : Entry) → Descends es → ((x : Entry) → In x es → is_lt (key_cmp x.0 p.0) ≡ false) → Descends (es ++ p ∷ [])
descends_snoc [] p d h = ((λ x i. elim i [ ]), tt)
descends_snoc (e ∷ es) p d h = (
  (λ x i. elim (in_split i es (p ∷ []) refl) [
    | inl a ↦ d.0 x a
    | inr b ↦ subst (λ (y : Entry). is_lt (key_cmp e.0 y.0) ≡ false) (sym (in_one b)) (h e first)
  ]),
  descends_snoc es p d.1 (λ x i. h x (after i)),
)

back_onto : (es : List Entry) (e : Entry) → reverse (e ∷ es) ≡ reverse es ++ e ∷ []
back_onto es e = reverse-cons e es

in_back : (es : List Entry) (x : Entry) → In x (reverse es) → In x es
in_back [] x i = elim i [ ]
in_back (e ∷ es) x i = elim (in_split (subst (In x) (back_onto es e) i) (reverse es) (e ∷ []) refl) [
  | inl a ↦ after (in_back es x a)
  | inr b ↦ subst (λ y. In y (e ∷ es)) (sym (in_one b)) first
]

back_descends : (es : List Entry) → Rises es → Descends (reverse es)
back_descends [] r = tt
back_descends (e ∷ es) r = subst Descends (sym (back_onto es e)) (descends_snoc (reverse es) e (back_descends es r.1) (λ x i. r.0 x (in_back es x i)))

pub sorted_back : (es back : List Entry) → IsSorted key_cmp (keys_of es) → back ≡ reverse es → Descends back
sorted_back es back sorted e = subst Descends (sym e) (back_descends es (rises es (sorted_far _ (ranks_by keys_total (λ k. k)) (keys_of es) sorted)))
