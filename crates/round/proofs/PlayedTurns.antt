-- Turns that did not come back.
use Rattle.std.proofs.Common.{◌≡◌, ◌≢◌, inl, inr, ℕ, suc, ◌≤◌, ◌+◌, List, [], ◌∷◌, ◌++◌, map, length, take, drop, Some, refl, sym, ◌∙◌, ap, subst, arith, slice_index_or}
use Rattle.std.specs.List.{AllByRecursion}
use Rattle.engine_semantics.specs.Value.{In, first, after, AllDiffer}
use Rattle.engine_semantics.proofs.Deciding.{length_snoc}
use Rattle.keys.specs.Jobs.{JobView, Outcome}
use Rattle.keys.specs.declared.key.Key.{Key}
use Rattle.node.specs.Edges.{IsAdded, IsRemoved}
use Rattle.node.specs.Graphs.{GraphView}
use Rattle.node.proofs.Lists.{in_split, in_left, in_right, in_one}
use Rattle.round_nodes.proofs.Settlings.{in_map, map_in, differ_snoc, map_snoc}
use Rattle.round.specs.Playing.{HasPlace, turn_keys, AreOutTurns}
use Rattle.round.specs.Rounds.{RoundView, IsOfJobOut}
use Rattle.round.proofs.Confirming.{take_whole}
use Rattle.round_nodes.proofs.Grouping.{split_at}
use Rattle.round.proofs.Reaching.{rest_is}

-- one turn more
pub one_more : (graph : GraphView) (before later : RoundView) (turns new : List Outcome) (turn : Outcome) → AreOutTurns graph before turns → new ≡ turns ++ turn ∷ [] → ((job : JobView) → IsOfJobOut graph before job → IsOfJobOut graph later job)
    → IsOfJobOut graph later turn.asked → IsAdded before.out later.out turn.asked.key → ((job : JobView) → IsOfJobOut graph before job → job.key ≢ turn.asked.key) → AreOutTurns graph later new
one_more graph before later turns new turn a e stays own added apart = record {
  each = λ x i. elim (in_split (subst (λ (xs : List Outcome). In x xs) e i) turns (turn ∷ []) refl) [
    | inl j ↦ stays x.asked (a.each x j)
    | inr j ↦ subst (λ (y : Outcome). IsOfJobOut graph later y.asked) (sym (in_one j)) own
  ];
  all = λ k i. elim (added.from k i) [
    | inl j ↦ subst (λ (xs : List Key). In k xs) (sym keys) (in_left (turn.asked.key ∷ []) (a.all k j))
    | inr q ↦ subst (λ (xs : List Key). In k xs) (sym keys) (subst (λ (y : Key). In y (turn_keys turns ++ turn.asked.key ∷ [])) q (in_right (turn_keys turns) first))
  ];
  differ = subst AllDiffer (sym keys) (differ_snoc (turn_keys turns) turn.asked.key a.differ (λ k i. let x = in_map (λ (t : Outcome). t.asked.key) turns i in λ q. apart x.0.asked (a.each x.0 x.1) (x.2 ∙ q)));
}
  where
    keys : turn_keys new ≡ turn_keys turns ++ turn.asked.key ∷ []
    keys = ap turn_keys e ∙ map_snoc (λ (t : Outcome). t.asked.key) turns turn

-- one turn more was handed out
pub one_handed : (back handed : ℕ) (turns new : List Outcome) (turn : Outcome) → new ≡ turns ++ turn ∷ [] → back + length turns ≡ handed → back + length new ≡ handed + 1
one_handed back handed turns new turn e s =
    let l : length new ≡ suc (length turns) = ap length e ∙ length_snoc turns turn in
    omega (arith, l, s)

-- a turn that came back is counted by the round
pub one_came_back : (back handed at : ℕ) (turns new : List Outcome) (turn : Outcome) → turns ≡ take at turns ++ turn ∷ drop (at + 1) turns → new ≡ take at turns ++ drop (at + 1) turns → back + length turns ≡ handed → back + 1 + length new ≡ handed + 0
one_came_back back handed at turns new turn e n s =
    let a : length turns ≡ length (take at turns) + suc (length (drop (at + 1) turns)) = ap length e ∙ length_join (take at turns) (turn ∷ drop (at + 1) turns) in
    let b : length new ≡ length (take at turns) + length (drop (at + 1) turns) = ap length n ∙ length_join (take at turns) (drop (at + 1) turns) in
    omega (arith, a, b, s)
  where
    length_join : (xs ys : List Outcome) → length (xs ++ ys) ≡ length xs + length ys
    length_join [] ys = omega arith
    length_join (x ∷ xs) ys = let h = length_join xs ys in omega (arith, h)

map_join : {X Y : Type 0} (f : X → Y) (xs ys : List X) → map f (xs ++ ys) ≡ map f xs ++ map f ys
map_join f [] ys = refl
map_join f (x ∷ xs) ys = ap (λ zs. f x ∷ zs) (map_join f xs ys)

-- an element taken from the middle is none of the others
apart_left : (xs : List Key) (k : Key) (ys : List Key) → AllDiffer (xs ++ k ∷ ys) → (j : Key) → In j xs → k ≢ j
apart_left [] k ys d j i = elim i [ ]
apart_left (x ∷ xs) k ys d j i = go (λ h. apart_left xs k ys d.1 j h) i refl
  where
    far : (zs : List Key) → AllByRecursion (λ z. x ≢ z) (zs ++ k ∷ ys) → x ≢ k
    far [] a = a.0
    far (z ∷ zs) a = far zs a.1

    go : (In j xs → k ≢ j) → {zs : List Key} → In j zs → zs ≡ x ∷ xs → k ≢ j
    go below (first {xs = ws}) e = let q : j ≡ x = cc in λ f. far xs d.0 (sym q ∙ sym f)
    go below (after {xs = ws} h) e = let q : ws ≡ xs = cc in below (subst (λ (zs : List Key). In j zs) q h)

apart_right : (xs : List Key) (k : Key) (ys : List Key) → AllDiffer (xs ++ k ∷ ys) → (j : Key) → In j ys → k ≢ j
apart_right [] k ys d j i = far ys d.0 i
  where
    far : (zs : List Key) → AllByRecursion (λ z. k ≢ z) zs → In j zs → k ≢ j
    far [] a m = elim m [ ]
    far (z ∷ zs) a m = go (λ h. far zs a.1 h) m refl
      where
        go : (In j zs → k ≢ j) → {ws : List Key} → In j ws → ws ≡ z ∷ zs → k ≢ j
        go below (first {xs = us}) e = let q : j ≡ z = cc in λ f. a.0 (f ∙ q)
        go below (after {xs = us} h) e = let q : us ≡ zs = cc in below (subst (λ (vs : List Key). In j vs) q h)
apart_right (x ∷ xs) k ys d j i = apart_right xs k ys d.1 j i

differ_without : (xs : List Key) (k : Key) (ys : List Key) → AllDiffer (xs ++ k ∷ ys) → AllDiffer (xs ++ ys)
differ_without [] k ys d = d.1
differ_without (x ∷ xs) k ys d = (all xs d.0, differ_without xs k ys d.1)
  where
    all : (zs : List Key) → AllByRecursion (λ z. x ≢ z) (zs ++ k ∷ ys) → AllByRecursion (λ z. x ≢ z) (zs ++ ys)
    all [] a = a.1
    all (z ∷ zs) a = (a.0, all zs a.1)

-- everything is taken
pub all_taken : (xs : List Outcome) (n : ℕ) → length xs ≤ n → take n xs ≡ xs
all_taken xs n h = take_whole xs n h

-- one turn comes back
module _ (old new : GraphView) (before later : RoundView) (left : List Outcome) (turn : Outcome) (right : List Outcome) (a : AreOutTurns old before (left ++ turn ∷ right))
    (stays : (job : JobView) → turn.asked.key ≢ job.key → IsOfJobOut old before job → IsOfJobOut new later job) (removed : IsRemoved before.out later.out turn.asked.key) where
  keys : turn_keys (left ++ turn ∷ right) ≡ turn_keys left ++ turn.asked.key ∷ turn_keys right
  keys = map_join (λ (t : Outcome). t.asked.key) left (turn ∷ right)

  differ : AllDiffer (turn_keys left ++ turn.asked.key ∷ turn_keys right)
  differ = subst AllDiffer keys a.differ

  pub one_less : AreOutTurns new later (left ++ right)
  one_less = record {
    each = λ x i. elim (in_split i left right refl) [
      | inl j ↦ stays x.asked (apart_left (turn_keys left) turn.asked.key (turn_keys right) differ x.asked.key (map_in (λ (t : Outcome). t.asked.key) j)) (a.each x (in_left (turn ∷ right) j))
      | inr j ↦ stays x.asked (apart_right (turn_keys left) turn.asked.key (turn_keys right) differ x.asked.key (map_in (λ (t : Outcome). t.asked.key) j)) (a.each x (in_right left (after j)))
    ];
    all = λ k i. subst (λ (xs : List Key). In k xs) (sym (map_join (λ (t : Outcome). t.asked.key) left right)) (others k i (subst (λ (xs : List Key). In k xs) keys (a.all k (removed.from k i))));
    differ = subst AllDiffer (sym (map_join (λ (t : Outcome). t.asked.key) left right)) (differ_without (turn_keys left) turn.asked.key (turn_keys right) differ);
  }
    where
      others : (k : Key) → In k later.out → In k (turn_keys left ++ turn.asked.key ∷ turn_keys right) → In k (turn_keys left ++ turn_keys right)
      others k i m = elim (in_split m (turn_keys left) (turn.asked.key ∷ turn_keys right) refl) [
        | inl j ↦ in_left (turn_keys right) j
        | inr j ↦ go j refl
      ]
        where
          go : {zs : List Key} → In k zs → zs ≡ turn.asked.key ∷ turn_keys right → In k (turn_keys left ++ turn_keys right)
          go (first {xs = ws}) e = let q : k ≡ turn.asked.key = cc in absurd (removed.gone (subst (λ (y : Key). In y later.out) q i))
          go (after {xs = ws} h) e = let q : ws ≡ turn_keys right = cc in in_right (turn_keys left) (subst (λ (zs : List Key). In k zs) q h)

-- the element at a place
module _ (turns : List Outcome) (key : Key) (at : ℕ) (p : HasPlace turns key (Some at)) (turn : Outcome) (e : turn ≡ slice_index_or turns at turn) where
  pub placed : turns ≡ take at turns ++ turn ∷ drop (at + 1) turns
  placed = split_at turns at turn e p.2

  pub placed_in : In turn turns
  placed_in = subst (λ (ts : List Outcome). In turn ts) (sym placed) (in_right (take at turns) first)

  pub placed_key : turn.asked.key ≡ key
  placed_key = let q = rest_is (take at turns) (turn ∷ drop (at + 1) turns) (p.0 ∷ drop (at + 1) turns) (sym placed ∙ p.1) in let same : turn ≡ p.0 = cc in ap (λ (t : Outcome). t.asked.key) same ∙ p.3
