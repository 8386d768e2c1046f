-- The words of groups, and the groups of words.
use Rattle.std.proofs.Common.{◌≡◌, ℕ, zero, suc, ◌+◌, ◌-◌, ◌<◌, ◌≤◌, Bool, true, false, ◌==◌, List, [], ◌∷◌, ◌++◌, length, get_or, take, drop, map, All, Option, Some, None, refl, sym, ◌∙◌, ap, subst, arith, is_some, length-append, append_assoc}
use Rattle.std.specs.Prelude.{slice_get}
use Rattle.std.specs.List.{concat}
use Rattle.std.specs.Option.{unwrap_or, option_to_list}
use Rattle.std.proofs.lemmas.List.{take_at, drop_at, drop-drop, length-map, map-append, map_more, append-nil, get_or-map}
use Rattle.std.proofs.lemmas.List.Elements.{All-head, All-tail}
use Rattle.std.specs.declared.alloc.Global.{Global}
use Rattle.std.specs.declared.vec.Vec.{Vec}
use Rattle.keys.specs.declared.key.Key.{Key}
use Rattle.std.specs.Map.{keys_of}
use Rattle.std.proofs.lemmas.Map.Entries.{length-keys_of}
use Rattle.node_table.specs.Tables.{key_at, number_of, AreDistinct, Grows}
use Rattle.node_table.specs.Flats.{items_of, ends, start, sizes, words_of, groups_of, cut, HasNumber, HaveNumbers, numbers_in, members_in, groups_in}
use Rattle.node_table.proofs.Numbers.{number_iff}

none_some : {X : Type 0} {x : X} → None ≡ Some x → ⊥
none_some e = cc

true_false : {b : Bool} → b ≡ true → b ≡ false → ⊥
true_false t f = cc

module _ {X : Type 0} where
  pub length_ends : (from : ℕ) (gs : List (List X)) → length (ends from gs) ≡ length gs
  length_ends from [] = refl
  length_ends from (g ∷ gs) = ap suc (length_ends (from + length g) gs)

  pub end_is : (from : ℕ) (gs : List (List X)) (i : ℕ) (g : List X) → slice_get gs i ≡ Some g → slice_get (ends from gs) i ≡ Some ((from + start gs i) + length g)
  end_is from [] i g h = absurd (none_some h)
  end_is from (x ∷ gs) zero g h = let q : x ≡ g = cc in ap (λ y. Some y) (ap (λ y. from + length y) q ∙ omega arith)
  end_is from (x ∷ gs) (suc i) g h = end_is (from + length x) gs i g h ∙ ap (λ y. Some y) (omega arith)

  -- a group begins where the one before it ends
  pub start_next : (gs : List (List X)) (i : ℕ) (g : List X) → slice_get gs i ≡ Some g → start gs (suc i) ≡ start gs i + length g
  start_next [] i g h = absurd (none_some h)
  start_next (x ∷ []) zero g h = let q : x ≡ g = cc in ap (λ y. length y + 0) q ∙ omega arith
  start_next (x ∷ y ∷ gs) zero g h = let q : x ≡ g = cc in ap (λ y. length y + 0) q ∙ omega arith
  start_next (x ∷ gs) (suc i) g h = ap (λ n. length x + n) (start_next gs i g h) ∙ omega arith

  pub ends_push : (from : ℕ) (gs : List (List X)) (g : List X) → ends from (gs ++ g ∷ []) ≡ ends from gs ++ ((from + sizes gs) + length g) ∷ []
  ends_push from [] g = ap (λ n. n ∷ []) (omega arith)
  ends_push from (x ∷ gs) g = ap (λ l. (from + length x) ∷ l) (ends_push (from + length x) gs g ∙ ap (λ n. ends (from + length x) gs ++ n ∷ []) (omega arith))

  pub sizes_push : (gs : List (List X)) (g : List X) → sizes (gs ++ g ∷ []) ≡ sizes gs + length g
  sizes_push [] g = omega arith
  sizes_push (x ∷ gs) g = ap (λ n. length x + n) (sizes_push gs g) ∙ omega arith

  pub ends_mapped : {Y : Type 0} (f : List X → List Y) → ((g : List X) → length (f g) ≡ length g) → (from : ℕ) (gs : List (List X)) → ends from (map f gs) ≡ ends from gs
  ends_mapped f same from [] = refl
  ends_mapped f same from (g ∷ gs) = ap (λ n. (from + n) ∷ ends (from + n) (map f gs)) (same g) ∙ ap (λ l. (from + length g) ∷ l) (ends_mapped f same (from + length g) gs)

pub group_is : (gs : List (List ℕ)) (i : ℕ) (g : List ℕ) → slice_get gs i ≡ Some g → take (length g) (drop (start gs i) (concat gs)) ≡ g
group_is [] i g h = absurd (none_some h)
group_is (x ∷ gs) zero g h = let q : x ≡ g = cc in subst (λ y. take (length y) (x ++ concat gs) ≡ y) q (take_at x (concat gs) (length x) refl)
group_is (x ∷ gs) (suc i) g h =
    ap (take (length g)) (sym (drop-drop (start gs i) (length x) (x ++ concat gs)) ∙ ap (drop (start gs i)) (drop_at x (concat gs) (length x) refl)) ∙ group_is gs i g h

pub group_fits : (gs : List (List ℕ)) (i : ℕ) (g : List ℕ) → slice_get gs i ≡ Some g → start gs i + length g ≤ length (concat gs)
group_fits [] i g h = absurd (none_some h)
group_fits (x ∷ gs) zero g h = let q : length x ≡ length g = cc in let l = length-append x (concat gs) in omega arith
group_fits (x ∷ gs) (suc i) g h = let r = group_fits gs i g h in let l = length-append x (concat gs) in omega arith

cut_ends : (from : ℕ) (gs : List (List ℕ)) → cut from (ends from gs) (concat gs) ≡ gs
cut_ends from [] = refl
cut_ends from (g ∷ gs) =
    let n : (from + length g) - from ≡ length g = omega arith in
    ap (λ m. take m (g ++ concat gs) ∷ cut (from + length g) (ends (from + length g) gs) (drop m (g ++ concat gs))) n
    ∙ ap (λ l. l ∷ cut (from + length g) (ends (from + length g) gs) (drop (length g) (g ++ concat gs))) (take_at g (concat gs) (length g) refl)
    ∙ ap (λ l. g ∷ cut (from + length g) (ends (from + length g) gs) l) (drop_at g (concat gs) (length g) refl)
    ∙ ap (λ l. g ∷ l) (cut_ends (from + length g) gs)

pub same_groups : (gs : List (List ℕ)) → groups_of (words_of gs) ≡ gs
same_groups [] = refl
same_groups (g ∷ gs) =
    let n = length_ends 0 (g ∷ gs) in
    ap (λ l. cut 0 l (drop (length (g ∷ gs)) (ends 0 (g ∷ gs) ++ concat (g ∷ gs)))) (take_at (ends 0 (g ∷ gs)) (concat (g ∷ gs)) (length (g ∷ gs)) n)
    ∙ ap (cut 0 (ends 0 (g ∷ gs))) (drop_at (ends 0 (g ∷ gs)) (concat (g ∷ gs)) (length (g ∷ gs)) n)
    ∙ cut_ends 0 (g ∷ gs)

front_same : {X : Type 0} (xs ys : List X) (n : ℕ) (x : X) → slice_get xs n ≡ Some x → slice_get (xs ++ ys) n ≡ Some x
front_same [] ys n x h = absurd (none_some h)
front_same (y ∷ xs) ys zero x h = h
front_same (y ∷ xs) ys (suc n) x h = front_same xs ys n x h

pub has_group : (gs : List (List ℕ)) (i : ℕ) → i < length gs → (g : List ℕ) × (slice_get gs i ≡ Some g)
has_group [] i h = absurd (omega arith)
has_group (g ∷ gs) zero h = (g, refl)
has_group (g ∷ gs) (suc i) h = has_group gs i (omega arith)

pub end_there : (gs : List (List ℕ)) (i : ℕ) → i < length gs → (e : ℕ) × (slice_get (ends 0 gs) i ≡ Some e) × (slice_get (ends 0 gs ++ concat gs) i ≡ Some e)
end_there gs i h = let g = has_group gs i h in let p = end_is 0 gs i g.0 g.1 in ((0 + start gs i) + length g.0, p, front_same (ends 0 gs) (concat gs) i ((0 + start gs i) + length g.0) p)

some_is : {X : Type 0} {x y : X} → Some x ≡ Some y → x ≡ y
some_is h = cc

-- a group is what is among the members between its start and its end
pub group_between : (gs : List (List ℕ)) (i : ℕ) (s e : ℕ) (members : List ℕ) → i < length gs → members ≡ concat gs → s ≡ start gs i → slice_get (ends 0 gs) i ≡ Some e → (s ≤ e) × (e ≤ length members) × (slice_get gs i ≡ Some (take (e - s) (drop s members)))
group_between gs i s e members h m p q =
    let g = has_group gs i h in
    let r : (0 + start gs i) + length g.0 ≡ e = some_is (sym (end_is 0 gs i g.0 g.1) ∙ q) in
    let f = group_fits gs i g.0 g.1 in
    let l : e - s ≡ length g.0 = omega arith in
    (omega arith, omega (arith, ap length m), g.1 ∙ ap (λ x. Some x) (sym (group_is gs i g.0 g.1) ∙ (λ j. take (sym l j) (drop (sym p j) (sym m j)))))

-- a group after the first begins where the one before it ends
pub start_after : (gs : List (List ℕ)) (i e : ℕ) → 0 < i → i < length gs → slice_get (ends 0 gs) (i - 1) ≡ Some e → e ≡ start gs i
start_after gs i e p h q =
    let g = has_group gs (i - 1) (omega arith) in
    let a : e ≡ (0 + start gs (i - 1)) + length g.0 = some_is (sym q ∙ end_is 0 gs (i - 1) g.0 g.1) in
    let b : start gs (suc (i - 1)) ≡ start gs (i - 1) + length g.0 = start_next gs (i - 1) g.0 g.1 in
    let k : e ≡ start gs (suc (i - 1)) = omega arith in
    let n : suc (i - 1) ≡ i = omega arith in
    k ∙ ap (start gs) n

start_zero : (gs : List (List ℕ)) → start gs 0 ≡ 0
start_zero [] = refl
start_zero (g ∷ gs) = refl

pub start_first : (gs : List (List ℕ)) (i : ℕ) → i ≡ 0 → 0 ≡ start gs i
start_first gs i e = sym (start_zero gs) ∙ ap (start gs) (sym e)

module _ {V : Type 0} (es : List (Key × V)) (d : AreDistinct es) where
  key_back : (k : Key) → HasNumber es k → option_to_list (key_at es (unwrap_or (number_of es k) 0)) ≡ k ∷ []
  key_back k h = go (number_of es k) refl
    where
      go : (o : Option ℕ) → number_of es k ≡ o → option_to_list (key_at es (unwrap_or (number_of es k) 0)) ≡ k ∷ []
      go None e = absurd (true_false h (ap is_some e))
      go (Some n) e = ap (λ x. option_to_list (key_at es (unwrap_or x 0))) e ∙ ap (λ x. option_to_list x) ((number_iff es d k n).0 e)

  pub numbered_back : (ks : List Key) → All (HasNumber es) ks → members_in es (numbers_in es ks) ≡ ks
  numbered_back [] h = refl
  numbered_back (k ∷ ks) h = ap (λ l. l ++ members_in es (numbers_in es ks)) (key_back k (All-head (HasNumber es) k ks h)) ∙ ap (λ l. k ∷ l) (numbered_back ks (All-tail (HasNumber es) k ks h))

  pub groups_back : (gs : List (List Key)) → HaveNumbers es gs → groups_in es (map (numbers_in es) gs) ≡ gs
  groups_back [] h = refl
  groups_back (g ∷ gs) h =
      ap (λ l. l ∷ groups_in es (map (numbers_in es) gs)) (numbered_back g (All-head (All (HasNumber es)) g gs h)) ∙ ap (λ l. g ∷ l) (groups_back gs (All-tail (All (HasNumber es)) g gs h))

-- the words that were written stand for the groups
pub written_words : {V : Type 0} (es : List (Key × V)) (groups : List (Vec Key Global)) (count at : ℕ) (none first last room words : List ℕ) → false ≡ (length groups == 0) → none ≡ [] → first ≡ none ++ at ∷ [] → at ≡ count → count ≡ length groups
    → last ≡ first ++ ends 0 (items_of groups) → room ≡ last → words ≡ room ++ concat (map (numbers_in es) (items_of groups)) → words ≡ words_of (map (numbers_in es) (items_of groups))
written_words es [] count at none first last room words some e f n k l r h = absurd (true_false refl (sym some))
written_words es (g ∷ groups) count at none first last room words some e f n k l r h =
    let gs = items_of (g ∷ groups) in
    let lengths = λ (k : List Key). length-map k (λ x. unwrap_or (number_of es x) 0) in
    let counted : at ≡ length (map (numbers_in es) gs) = n ∙ k ∙ sym (length-map (g ∷ groups) (λ (x : Vec Key Global). x.items)) ∙ sym (length-map gs (numbers_in es)) in
    let begun : first ≡ length (map (numbers_in es) gs) ∷ [] = f ∙ (λ i. e i ++ counted i ∷ []) in
    let ended : room ≡ length (map (numbers_in es) gs) ∷ ends 0 (map (numbers_in es) gs) = r ∙ l ∙ (λ i. begun i ++ sym (ends_mapped (numbers_in es) lengths 0 gs) i) in
    h ∙ ap (λ l. l ++ concat (map (numbers_in es) gs)) ended

items_more : (groups : List (Vec Key Global)) (i : ℕ) (g : Vec Key Global) → g ≡ get_or groups i g → i < length groups → items_of (take (i + 1) groups) ≡ items_of (take i groups) ++ g.items ∷ []
items_more groups i g e h = map_more (λ (x : Vec Key Global). x.items) groups i g h ∙ ap (λ (x : Vec Key Global). items_of (take i groups) ++ x.items ∷ []) (sym e)

pub ends_more : (groups : List (Vec Key Global)) (i : ℕ) (g : Vec Key Global) → g ≡ get_or groups i g → i < length groups → ends 0 (items_of (take (i + 1) groups)) ≡ ends 0 (items_of (take i groups)) ++ (sizes (items_of (take i groups)) + length g.items) ∷ []
ends_more groups i g e h = ap (ends 0) (items_more groups i g e h) ∙ ends_push 0 (items_of (take i groups)) g.items ∙ ap (λ n. ends 0 (items_of (take i groups)) ++ (n + length g.items) ∷ []) (omega arith)

pub sizes_more : (groups : List (Vec Key Global)) (i : ℕ) (g : Vec Key Global) → g ≡ get_or groups i g → i < length groups → sizes (items_of (take (i + 1) groups)) ≡ sizes (items_of (take i groups)) + length g.items
sizes_more groups i g e h = ap (λ l. sizes l) (items_more groups i g e h) ∙ sizes_push (items_of (take i groups)) g.items

concat_push : (gs : List (List ℕ)) (g : List ℕ) → concat (gs ++ g ∷ []) ≡ concat gs ++ g
concat_push [] g = append-nil g
concat_push (x ∷ gs) g = ap (λ l. x ++ l) (concat_push gs g) ∙ sym (append_assoc x (concat gs) g)

module _ {V : Type 0} (es : List (Key × V)) where
  pub group_more : (groups : List (Vec Key Global)) (i : ℕ) (g : Vec Key Global) → g ≡ get_or groups i g → i < length groups
      → concat (map (numbers_in es) (items_of (take (i + 1) groups))) ≡ concat (map (numbers_in es) (items_of (take i groups))) ++ numbers_in es g.items
  group_more groups i g e h =
      ap (λ l. concat (map (numbers_in es) l)) (items_more groups i g e h)
      ∙ ap (λ l. concat l) (map-append (numbers_in es) (items_of (take i groups)) (g.items ∷ []))
      ∙ concat_push (map (numbers_in es) (items_of (take i groups))) (numbers_in es g.items)

  pub have_group : (groups : List (Vec Key Global)) (i : ℕ) (g : Vec Key Global) → g ≡ get_or groups i g → i < length groups → HaveNumbers es (items_of groups) → All (HasNumber es) g.items
  have_group groups i g e h all =
      subst (All (HasNumber es)) (get_or-map (λ (x : Vec Key Global). x.items) groups i g g.items h ∙ ap (λ (x : Vec Key Global). x.items) (sym e)) (all i g.items (omega (arith, length-map groups (λ (x : Vec Key Global). x.items))))

  pub has_member : (groups : List (Vec Key Global)) (i : ℕ) (g : Vec Key Global) → g ≡ get_or groups i g → i < length groups → HaveNumbers es (items_of groups)
      → (ks : List Key) → ks ≡ g.items → (j : ℕ) (k : Key) → k ≡ get_or ks j k → j < length ks → HasNumber es k
  has_member groups i g e h all ks is j k m n =
      subst (HasNumber es) (sym m) (subst (All (HasNumber es)) (sym is) (have_group groups i g e h all) j k n)

front_whole : {X : Type 0} (xs ys : List X) (n : ℕ) → n < length xs → slice_get (xs ++ ys) n ≡ slice_get xs n
front_whole [] ys n h = absurd (omega arith)
front_whole (x ∷ xs) ys zero h = refl
front_whole (x ∷ xs) ys (suc n) h = front_whole xs ys n (omega arith)

-- groups are the same by the keys of a table that has grown
module _ {V : Type 0} (old new : List (Key × V)) (g : Grows old new) where
  pub key_same : (n : ℕ) → n < length old → key_at new n ≡ key_at old n
  key_same n h = ap (λ ks. slice_get ks n) g.keys ∙ front_whole (keys_of old) g.more n (omega (arith, length-keys_of old))

  members_stay : (ns : List ℕ) → All (λ n. n < length old) ns → members_in new ns ≡ members_in old ns
  members_stay [] h = refl
  members_stay (n ∷ ns) h =
      ap (λ o. option_to_list o ++ members_in new ns) (key_same n (All-head (λ n. n < length old) n ns h)) ∙ ap (λ l. option_to_list (key_at old n) ++ l) (members_stay ns (All-tail (λ n. n < length old) n ns h))

  pub groups_stay : (groups : List (List ℕ)) → All (All (λ n. n < length old)) groups → groups_in new groups ≡ groups_in old groups
  groups_stay [] h = refl
  groups_stay (ns ∷ groups) h =
      ap (λ l. l ∷ groups_in new groups) (members_stay ns (All-head (All (λ n. n < length old)) ns groups h)) ∙ ap (λ l. members_in old ns ∷ l) (groups_stay groups (All-tail (All (λ n. n < length old)) ns groups h))
