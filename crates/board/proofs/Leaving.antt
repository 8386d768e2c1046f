-- Hands come back, and what is left of a board.
use Rattle.std.proofs.Common.{Bool, true, false, ◌≡◌, ℕ, zero, suc, ◌+◌, List, [], ◌∷◌, ◌&&◌, ◌||◌, not, length, set, sym, refl, ap, ◌∙◌, subst, ⊎_elim, inl, inr, arith, suc-ne-zero}
use mathlib.Core.Option.{some, some-injective, some-ne-none}
use mathlib.Core.Logic.{dite}
use native.Mathlib.Decide.{ℕ_discrete}
use lib.ListN.{get_elem?}
use Rattle.std.specs.Prelude.{Option, None}
use Rattle.atomic_table.specs.Table.{Joins, Final, Seen}
use Rattle.atomic_table.proofs.Lists.{at_set, set_here, set_else}
use Rattle.board.specs.declared.view.Entry.{Entry}
use Rattle.board.specs.declared.view.Stage.{Stage}
use Rattle.board.specs.declared.view.Stage.TheVariants.{Empty, Ready, Held, Answered}
use Rattle.board.specs.declared.view.View.{View}
use Rattle.board.specs.Rule.{bit, weight_at, Cell, IsInside, Lies, job_at, total, IsSeat, IsOrderly}
use Rattle.board.specs.Plays.{retired, retires}
use Rattle.board.specs.Places.{Leaves, IsLeft, weight_in}
use Rattle.board.proofs.Moves.{below, reseats, total_set, total_join}
use Rattle.board.proofs.Taking.{S, own, true-ne-false, none_some, there}

only_first : {X : Type 0} (f : X → ℕ) (l : List X) (v : X) → get_elem? l 0 ≡ some v → ((k : ℕ) (u : X) → get_elem? l (suc k) ≡ some u → f u ≡ 0) → total f l ≡ f v
only_first f [] v e z = absurd (some-ne-none v (sym e))
only_first {X} f (x ∷ xs) v e z = let same : f x ≡ f v = ap f (some-injective x v e) in let more = none_of xs z in omega arith
  where
    none_of : (l : List X) → ((k : ℕ) (u : X) → get_elem? l k ≡ some u → f u ≡ 0) → total f l ≡ 0
    none_of [] z = refl
    none_of (y ∷ ys) z = let a = z 0 y refl in let b = none_of ys (λ k u e. z (suc k) u e) in omega arith

total_zero : {X : Type 0} (f : X → ℕ) (l : List X) (k : ℕ) (u : X) → total f l ≡ 0 → get_elem? l k ≡ some u → f u ≡ 0
total_zero f [] k u z e = absurd (some-ne-none u (sym e))
total_zero f (x ∷ xs) zero u z e = let same : f x ≡ f u = ap f (some-injective x u e) in omega arith
total_zero f (x ∷ xs) (suc k) u z e = total_zero f xs k u (omega (arith, z)) e

total_same : {X Y : Type 0} (f : X → ℕ) (g : Y → ℕ) (l : List X) (m : List Y) → length l ≡ length m → ((p : ℕ) (a : X) (b : Y) → get_elem? l p ≡ some a → get_elem? m p ≡ some b → f a ≡ g b) → total f l ≡ total g m
total_same f g [] [] e h = refl
total_same f g [] (y ∷ ys) e h = absurd (omega arith)
total_same f g (x ∷ xs) [] e h = absurd (omega arith)
total_same f g (x ∷ xs) (y ∷ ys) e h = let a = h 0 x y refl refl in let b = total_same f g xs ys (omega (arith, e)) (λ p. h (suc p)) in omega arith

implied : (h a b : Bool) → h ≡ true → (a ≡ true → b ≡ true) → (h && (not a || b)) ≡ true
implied false a b e f = e
implied true false b e f = refl
implied true true b e f = f refl

not_true : (b : Bool) → (b ≡ true → ⊥) → b ≡ false
not_true false n = refl
not_true true n = absurd (n refl)

module _ {J A : Type 0} (of : A → J) where
  others : (s : S of) (r : IsOrderly of s) (k : ℕ) (u : View J A) → get_elem? s.views (suc k) ≡ some u → u.is_host ≡ false
  others s r k u e = not_true u.is_host (λ is. suc-ne-zero k ((r.seats (suc k) u e).alone is))

  retired_at : (v : View J A) (other : ℕ) (w : View J A) → w.is_host ≡ false → w.live ≡ 1 → w.using ≡ None → Joins (IsOrderly of) 0 v other w (retires v w) retired
  retired_at v other w hand live rests s r at ne at' =
      let u = retires v w in let vs = set s.views 0 u in let same = own of s r v at in let seat = r.seats 0 v at in
      let w_at : get_elem? s.views other ≡ some w = sym (set_else s.views 0 other u ne) ∙ at' in let wseat = r.seats other w w_at in
      let is_host : u.is_host ≡ true = implied v.is_host w.shut v.shut (ap (λ (z : View J A). z.is_host) same ∙ r.hosts.1) (λ e. ap (λ (z : View J A). z.shut) same ∙ wseat.sees e) in
      let u_at : get_elem? vs 0 ≡ some u = set_here s.views 0 u (below s.views 0 v at) in
      reseats of s r u s.words (set vs other retired) refl (λ _ _. refl) (r.shut_shows ∙ ap (λ (z : View J A). bit z.shut) (sym same)) (set_else vs other 0 retired (λ e. ne (sym e)) ∙ u_at)
      is_host (ap (λ (z : View J A). z.live) same ∙ r.hosts.2) (ap (λ (z : View J A). z.out) same)
      (λ k y e x uses. dite (ℕ_discrete k 0)
      (λ z. let eq : v ≡ y = some-injective v y (sym at ∙ (ap (get_elem? s.views) (sym z) ∙ e)) in
      (u, ap (get_elem? (set vs other retired)) z ∙ (set_else vs other 0 retired (λ e. ne (sym e)) ∙ u_at), ap (λ (q : View J A). q.using) eq ∙ uses))
      (λ nz. dite (ℕ_discrete k other)
      (λ z. let eq : w ≡ y = some-injective w y (sym w_at ∙ (ap (get_elem? s.views) (sym z) ∙ e)) in absurd (none_some x (sym rests ∙ (ap (λ (q : View J A). q.using) eq ∙ uses))))
      (λ no. (y, set_else vs other k retired no ∙ (set_else s.views 0 k u nz ∙ e), uses))))
      (λ k y e. ⊎_elim
      (λ t. subst (IsSeat of r.cells u.shut k) t.1
      record { used = λ p st e. absurd (none_some (p, st) e); alone = λ e. absurd (true-ne-false (sym e)); sees = λ e. absurd (true-ne-false (sym e)); lives = λ _ _. (refl, refl); hand = λ _. (refl, refl) })
      (λ t. ⊎_elim
      (λ o. subst (λ (z : ℕ × View J A). IsSeat of r.cells u.shut z.0 z.1) (λ i. (sym o.0 i, o.1 i))
      record { used = seat.used; alone = λ _. refl; sees = λ e. e; lives = λ no. absurd (true-ne-false (sym is_host ∙ no)); hand = λ no. absurd (true-ne-false (sym is_host ∙ no)) })
      (λ o. let f = r.seats k y o.1 in record { used = f.used; alone = f.alone; sees = λ e. ap (λ (z : View J A). z.shut) same ∙ f.sees e; lives = f.lives; hand = f.hand })
      (at_set s.views 0 k u y t.1))
      (at_set vs other k retired y e))
      (λ wt. let a = total_set (λ (z : View J A). total wt z.answers) s.views 0 v u at in let b = total_set (λ (z : View J A). total wt z.answers) vs other w retired at' in
      let c = total_set (λ (z : View J A). total wt z.collected) s.views 0 v u at in let d = total_set (λ (z : View J A). total wt z.collected) vs other w retired at' in let z = ap (total wt) (wseat.hand hand).0 in let j = total_join wt v.answers w.answers in omega (arith, a, b, c, d, z, j))
      (let a = total_set (λ (z : View J A). z.live) s.views 0 v u at in let b = total_set (λ (z : View J A). z.live) vs other w retired at' in
      let c = total_set (λ (z : View J A). z.hands) s.views 0 v u at in let d = total_set (λ (z : View J A). z.hands) vs other w retired at' in let z = (wseat.hand hand).1 in let o = r.handed in
      let f = only_first (λ (z : View J A). z.hands) s.views v at (λ k y e. ((r.seats (suc k) y e).hand (others s r k y e)).1) in omega (arith, a, b, c, d, z, o, f, live))

  pub retiring : (id : ℕ) (v : View J A) (other : ℕ) (w : View J A) → id ≡ 0 → w.is_host ≡ false → w.live ≡ 1 → w.using ≡ None → Joins (IsOrderly of) id v other w (retires v w) retired
  retiring id v other w is hand live rests = subst (λ (z : ℕ). Joins (IsOrderly of) z v other w (retires v w) retired) (sym is) (retired_at v other w hand live rests)

  -- with every hand back, no seat has a slot
  at_home : (s : S of) (r : IsOrderly of s) (v : View J A) → get_elem? s.views 0 ≡ some v → v.using ≡ None → v.hands ≡ 0 → (p h : ℕ) (st : Stage J A) → get_elem? r.cells p ≡ some (h, st) → h ≡ 0
  at_home s r v at rests none_out p zero st cell = refl
  at_home s r v at rests none_out p (suc zero) st cell = let k = (r.places p (1, st) cell).lies in
      absurd (none_some (p, st) (sym rests ∙ (ap (λ (z : View J A). z.using) (some-injective v k.0 (sym at ∙ k.1)) ∙ k.2)))
  at_home s r v at rests none_out p (suc (suc j)) st cell = let k = (r.places p (suc (suc j), st) cell).lies in let hand = others s r j k.0 k.1 in
      let f = only_first (λ (z : View J A). z.hands) s.views v at (λ k y e. ((r.seats (suc k) y e).hand (others s r k y e)).1) in
      let gone = total_zero (λ (z : View J A). z.live) s.views (suc j) k.0 (r.handed ∙ (f ∙ none_out)) k.1 in
      absurd (none_some (p, st) (sym ((r.seats (suc j) k.0 k.1).lives hand gone).1 ∙ k.2))

  leaves : (h : ℕ) (st : Stage J A) (x : Option (Entry J A)) → IsInside st x → Leaves of (job_at of st) x
  leaves h Empty x e = e
  leaves h (Ready job) x e = inl e
  leaves h (Held job) x e = absurd e
  leaves h (Answered turn) x e = inr (turn, refl, e)

  turns : (wt : A → ℕ) (st : Stage J A) (x : Option (Entry J A)) → IsInside st x → weight_at wt st ≡ weight_in wt x
  turns wt Empty x e = ap (weight_in wt) (sym e)
  turns wt (Ready job) x e = ap (weight_in wt) (sym e)
  turns wt (Held job) x e = absurd e
  turns wt (Answered turn) x e = ap (weight_in wt) (sym e)

  inside : (s : S of) (r : IsOrderly of s) (v : View J A) → get_elem? s.views 0 ≡ some v → v.using ≡ None → v.hands ≡ 0 → (p : ℕ) (c : Cell J A) → get_elem? r.cells p ≡ some c
      → (x : Option (Entry J A)) × (get_elem? s.homes p ≡ some (some x)) × IsInside c.1 x
  inside s r v at rests none_out p c cell = subst (λ (h : ℕ). Lies s.homes s.views p h c.1) (at_home s r v at rests none_out p c.0 c.1 cell) (r.places p c cell).lies

  pub left_over : (ws : List ℕ) (xs : List (Option (Entry J A))) (id : ℕ) (v : View J A) → id ≡ 0 → v.using ≡ None → v.hands ≡ 0 → Final (Seen (IsOrderly of) id v) ws xs
      → IsLeft of v xs × ((wt : A → ℕ) → total wt v.answers ≡ total wt v.collected + total (weight_in wt) xs)
  left_over ws xs id v is rests none_out fin =
      let s = fin.0 in let r = fin.1.0 in let at : get_elem? s.views 0 ≡ some v = ap (get_elem? s.views) (sym is) ∙ fin.1.1 in let same = own of s r v at in (
        (λ p o e. let e' = ap (λ (z : View J A). get_elem? z.out p) (sym same) ∙ e in let near = below r.host.out p o e' in let c = there r.cells p (omega (arith, near, r.out_long, r.cells_long)) in
            let k = inside s r v at rests none_out p c.0 c.1 in
            (k.0, fin.4 p k.0 k.1, subst (λ (z : Option J). Leaves of z k.0) (some-injective (job_at of c.0.1) o (sym (r.places p c.0 c.1).known ∙ e')) (leaves c.0.0 c.0.1 k.0 k.2))),
        (λ wt. let a = only_first (λ (z : View J A). total wt z.answers) s.views v at (λ k y e. let seat = r.seats (suc k) y e in let f = only_first (λ (z : View J A). z.hands) s.views v at (λ k y e. ((r.seats (suc k) y e).hand (others s r k y e)).1) in
            ap (total wt) (seat.lives (others s r k y e) (total_zero (λ (z : View J A). z.live) s.views (suc k) y (r.handed ∙ (f ∙ none_out)) e)).0) in
            let b = only_first (λ (z : View J A). total wt z.collected) s.views v at (λ k y e. ap (total wt) ((r.seats (suc k) y e).hand (others s r k y e)).0) in
            let t = total_same (λ (z : Cell J A). weight_at wt z.1) (weight_in wt) r.cells xs (r.cells_long ∙ fin.3)
            (λ p c x e at_x. let k = inside s r v at rests none_out p c e in turns wt c.1 x (subst (IsInside c.1) (some-injective k.0 x (sym (fin.4 p k.0 k.1) ∙ at_x)) k.2)) in
            let o = r.answered wt in omega (arith, a, b, t, o)),
      )

  -- at the end the seat with the number 0 is the host's
  pub host_at_end : (ws : List ℕ) (xs : List (Option (Entry J A))) (id : ℕ) (v : View J A) → id ≡ 0 → Final (Seen (IsOrderly of) id v) ws xs → v.is_host ≡ true
  host_at_end ws xs id v is fin = let r = fin.1.0 in ap (λ (z : View J A). z.is_host) (own of fin.0 r v (ap (get_elem? fin.0.views) (sym is) ∙ fin.1.1)) ∙ r.hosts.1
