-- Walks from one key that repeat come to one cycle, whose value does not depend on where it is entered.
use Rattle.std.proofs.Common.{◌≡◌, ◌≢◌, ◌⊎◌, inl, inr, List, [], ◌∷◌, ◌++◌, Option, None, refl, sym, ◌∙◌, subst, ap, append-nil}
use Rattle.std.specs.List.{AllByRecursion}
use Rattle.engine_semantics.specs.Reply.{Reply}
use Rattle.engine_semantics.specs.Value.{AllDiffer, IsUngrounded, Stops, Walk, stay, step, Cyclic}
use Rattle.engine_semantics.proofs.ClosedSets.{same_stops}

module _ {K : Type 0} where
  apart_push : {x : K} (xs : List K) (y : K) → AllByRecursion (λ j. x ≢ j) xs → x ≢ y → AllByRecursion (λ j. x ≢ j) (xs ++ y ∷ [])
  apart_push [] y a n = (n, tt)
  apart_push (z ∷ xs) y a n = (a.0, apart_push xs y a.1 n)

  -- a cycle begun at its second member
  pub differ_turned : (x : K) (xs : List K) → AllDiffer (x ∷ xs) → AllDiffer (xs ++ x ∷ [])
  differ_turned x [] d = (tt, tt)
  differ_turned x (y ∷ xs) d = (apart_push xs x d.1.0 (λ e. d.0.0 (sym e)), differ_turned x xs (d.0.1, d.1.1))

  -- in a list whose elements differ the first one does not come again
  apart_middle : (m : K) (xs ys : List K) → AllByRecursion (λ j. m ≢ j) (xs ++ m ∷ ys) → ⊥
  apart_middle m [] ys a = a.0 refl
  apart_middle m (x ∷ xs) ys a = apart_middle m xs ys a.1

module _ {K V : Type 0} (next : K → List V → Reply K V) (read : K → Option V) where
  join : {k i j : K} {xs ys : List K} → Walk next read k xs i → Walk next read i ys j → Walk next read k (xs ++ ys) j
  join stay w = w
  join (step e s v) w = step e s (join v w)

  -- of two walks from one key one continues from the other
  Meets : K → List K → K → List K → Type 0
  Meets i xs j ys = ((zs : List K) × Walk next read i zs j × (xs ++ zs ≡ ys)) ⊎ ((zs : List K) × Walk next read j zs i × (ys ++ zs ≡ xs))

  meet : {k l i j : K} {xs ys : List K} → Walk next read k xs i → Walk next read l ys j → k ≡ l → Meets i xs j ys
  unfolding Meets
  meet {k = k} {l = l} {j = j} {ys = ys} stay w h = inl (ys, subst (λ x. Walk next read x ys j) (sym h) w, refl)
  meet {k = k} {i = i} {xs = xs} (step e s v) stay h = inr (xs, subst (λ x. Walk next read x xs i) h (step e s v), refl)
  meet (step {k = k} e s v) (step {k = l} f t w) h = elim (meet v w (same_stops next read s t h refl).1) [ inl p ↦ inl (p.0, p.1, cc) | inr p ↦ inr (p.0, p.1, cc) ]

  module _ (cycle : List K → V) (turned : (x : K) (xs : List K) → AllDiffer (x ∷ xs) → cycle (x ∷ xs) ≡ cycle (xs ++ x ∷ [])) where
    -- a cycle through m, and what its value is
    pub record Loop (m : K) (v : V) : Type 0 where
      pub rest : List K
      pub returns : Walk next read m (m ∷ rest) m
      pub once : AllDiffer (m ∷ rest)
      pub value : v ≡ cycle (m ∷ rest)

    -- the cycle begun at the next member
    turn : {m : K} {gs : List (List K)} {i : K} {v : V} → Loop m v → read m ≡ None → Stops next read (IsUngrounded next read) m [] gs i → Loop i v
    turn {m = m} {gs = gs} {i = i} {v = v} l e s = go l.rest l.returns refl refl refl l.once l.value
      where
        from : (xs : List K) {j : K} → Walk next read j xs m → j ≡ i → AllDiffer (m ∷ xs) → v ≡ cycle (m ∷ xs) → Loop i v
        from [] {j = j} stay h d q = record { rest = []; returns = subst (λ x. Walk next read x (x ∷ []) x) h (step e (subst (λ x. Stops next read (IsUngrounded next read) m [] gs x) (sym h) s) stay); once = (tt, tt); value = q ∙ ap (λ x. cycle (x ∷ [])) h }
        from (y ∷ xs) {j = j} (step f t w) h d q =
            let e' : j ≡ i = h in
            record {
              rest = xs ++ m ∷ [];
              returns = subst (λ x. Walk next read x (x ∷ xs ++ m ∷ []) x) h (join (step f t w) (step e (subst (λ x. Stops next read (IsUngrounded next read) m [] gs x) (sym h) s) stay));
              once = subst (λ x. AllDiffer (x ∷ xs ++ m ∷ [])) h (differ_turned m (j ∷ xs) d);
              value = q ∙ turned m (j ∷ xs) d ∙ ap (λ x. cycle (x ∷ xs ++ m ∷ [])) h;
            }

        go : (xs : List K) {a c : K} {ks : List K} → Walk next read a ks c → a ≡ m → c ≡ m → ks ≡ m ∷ xs → AllDiffer (m ∷ xs) → v ≡ cycle (m ∷ xs) → Loop i v
        go xs stay h n r d q = cc
        go xs (step {i = j} {keys = ks} {j = c} f t w) h n r d q =
            let p : ks ≡ xs = cc in
            from xs (subst (λ x. Walk next read j xs x) n (subst (λ x. Walk next read j x c) p w)) (same_stops next read t s h refl).1 d q

    -- the cycle begun anywhere on it
    along : {m : K} {zs : List K} {j : K} {v : V} → Walk next read m zs j → Loop m v → Loop j v
    along stay l = l
    along (step e s w) l = along w (turn l e s)

    -- there is one cycle through a key
    one_loop : {m : K} {v w : V} → Loop m v → Loop m w → v ≡ w
    unfolding Meets
    one_loop {m = m} l r = l.value ∙ ap cycle (elim (meet l.returns r.returns refl) [ inl p ↦ go l.rest r.rest p.0 p.1 r.once p.2 | inr p ↦ sym (go r.rest l.rest p.0 p.1 l.once p.2) ]) ∙ sym r.value
      where
        go : (xs ys zs : List K) → Walk next read m zs m → AllDiffer (m ∷ ys) → (m ∷ xs) ++ zs ≡ m ∷ ys → m ∷ xs ≡ m ∷ ys
        go xs ys [] w d e = sym (append-nil (m ∷ xs)) ∙ e
        go xs ys (z ∷ zs) (step f t w) d e = let q : xs ++ m ∷ zs ≡ ys = cc in absurd (apart_middle m xs zs (subst (AllByRecursion (λ j. m ≢ j)) (sym q) d.0))

    pub same_cycle : {k : K} {v w : V} → Cyclic next read cycle k v → Cyclic next read cycle k w → v ≡ w
    unfolding Meets
    same_cycle c d = elim (meet c.comes d.comes refl) [
      | inl p ↦ one_loop (along p.1 (record { rest = c.rest; returns = c.returns; once = c.once; value = c.value })) (record { rest = d.rest; returns = d.returns; once = d.once; value = d.value })
      | inr p ↦ one_loop (record { rest = c.rest; returns = c.returns; once = c.once; value = c.value }) (along p.1 (record { rest = d.rest; returns = d.returns; once = d.once; value = d.value }))
    ]
