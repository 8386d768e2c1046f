-- The rule holds of a new board, and as hands are given out and taken back.
use Rattle.std.proofs.Common.{false, ◌≡◌, ℕ, zero, suc, ◌+◌, ◌<◌, List, [], ◌∷◌, ◌++◌, map, replicate, length, get_or, set, sym, refl, ap, ◌∙◌, subst, ⊎_elim, arith, suc-ne-zero}
use mathlib.Core.Option.{none, some, some-injective, some-ne-none}
use mathlib.Core.Option as maybe
use mathlib.Core.Logic.{dite}
use native.Mathlib.Decide.{ℕ_discrete}
use lib.ListN.{get_elem?}
use Rattle.std.specs.Prelude.{Option, None}
use Rattle.atomic_table.specs.Table.{opening, Splits}
use Rattle.atomic_table.proofs.Lists.{at_set, at_snoc, at_longer, at_map, set_here, set_else}
use Rattle.board.specs.declared.view.Entry.{Entry}
use Rattle.board.specs.declared.view.Stage.TheVariants.{Empty}
use Rattle.board.specs.declared.view.View.{View}
use Rattle.board.specs.Rule.{bit, weight_at, Cell, first, total, IsPlace, IsSeat, IsOrderly}
use Rattle.board.specs.Plays.{fresh, enlists}
use Rattle.board.proofs.Moves.{below, reseats, total_set, total_snoc}
use Rattle.board.proofs.Taking.{no_host, own, true-ne-false, none_some}

rep_at : {X : Type 0} (n p : ℕ) (x : X) → p < n → get_elem? (replicate n x) p ≡ some x
rep_at zero p x h = absurd (omega arith)
rep_at (suc n) zero x h = refl
rep_at (suc n) (suc p) x h = rep_at n p x (omega arith)

rep_is : {X : Type 0} (n p : ℕ) (x c : X) → get_elem? (replicate n x) p ≡ some c → (p < n) × (x ≡ c)
rep_is zero p x c e = absurd (some-ne-none c (sym e))
rep_is (suc n) zero x c e = (omega arith, some-injective x c e)
rep_is (suc n) (suc p) x c e = let f = rep_is n p x c e in (omega (arith, f.0), f.1)

rep_or : {X : Type 0} (n p : ℕ) (x : X) → get_or (replicate n x) p x ≡ x
rep_or zero p x = refl
rep_or (suc n) zero x = refl
rep_or (suc n) (suc p) x = rep_or n p x

rep_total : {X : Type 0} (f : X → ℕ) (n : ℕ) (x : X) → f x ≡ 0 → total f (replicate n x) ≡ 0
rep_total f zero x e = refl
rep_total f (suc n) x e = let more = rep_total f n x e in omega arith

rep_long : {X : Type 0} (n : ℕ) (x : X) → length (replicate n x) ≡ n
rep_long zero x = refl
rep_long (suc n) x = ap suc (rep_long n x)

map_long : {X Y : Type 0} (f : X → Y) (l : List X) → length (map f l) ≡ length l
map_long f [] = refl
map_long f (x ∷ xs) = ap suc (map_long f xs)

module _ {J A : Type 0} (of : A → J) where
  pub starts : (n : ℕ) (words : List ℕ) → words ≡ replicate (n + 1) 0 → IsOrderly of (opening words (replicate n None) (first n))
  starts n words is = let hs : length (map {B = maybe.Option (Option (Entry J A))} some (replicate n None)) ≡ n = map_long some (replicate n None) ∙ rep_long n None in
      subst (λ (ws : List ℕ). IsOrderly of (opening ws (replicate n None) (first n))) (sym is) record {
        cells = replicate n (0, Empty);
        host = first n;
        hosts = (refl, refl, refl);
        cells_long = rep_long n (0, Empty) ∙ sym hs;
        words_long = rep_long (n + 1) 0 ∙ ap (λ (z : ℕ). z + 1) (sym hs);
        out_long = rep_long n None ∙ sym hs;
        shut_shows = rep_or {X = ℕ} (n + 1) (length (map some (replicate n None))) 0;
        places = λ p c e. let f = rep_is n p (0, Empty) c e in subst (λ (z : Cell J A). IsPlace of (replicate (n + 1) 0) (map some (replicate n None)) (first n ∷ []) (replicate n None) p z) f.1
            record { shows = rep_or {X = ℕ} (n + 1) p 0; known = rep_at n p None f.0; lies = (None, at_map some (replicate n None) p None (rep_at n p None f.0), refl); suits = omega arith };
        seats = λ j v e. only j v e;
        answered = λ wt. let a = rep_total (λ (z : Cell J A). weight_at wt z.1) n (0, Empty) refl in omega arith;
        handed = refl;
      }
    where
      only : (j : ℕ) (v : View J A) → get_elem? (first n ∷ []) j ≡ some v → IsSeat of (replicate n (0, Empty)) false j v
      only zero v e = subst (IsSeat of (replicate n (0, Empty)) false 0) (some-injective (first n) v e)
          record { used = λ p st u. absurd (none_some (p, st) u); alone = λ _. refl; sees = λ u. absurd (true-ne-false (sym u)); lives = λ u _. absurd (true-ne-false u); hand = λ u. absurd (true-ne-false u) }
      only (suc j) v e = absurd (some-ne-none v (sym e))

  pub enlisted : (id : ℕ) (v : View J A) → id ≡ 0 → Splits (IsOrderly of) id v (enlists v) fresh
  enlisted id v is s r at = let at0 : get_elem? s.views 0 ≡ some v = ap (get_elem? s.views) (sym is) ∙ at in let same = own of s r v at0 in let seat = r.seats 0 v at0 in let w = enlists v in let vs = set s.views 0 w in
      subst (λ (z : ℕ). IsOrderly of record { words = s.words; homes = s.homes; views = set s.views z w ++ fresh ∷ [] }) (sym is)
      (reseats of s r w s.words (vs ++ fresh ∷ []) refl (λ _ _. refl) (r.shut_shows ∙ ap (λ (z : View J A). bit z.shut) (sym same)) (at_longer vs (fresh ∷ []) 0 w (set_here s.views 0 w (below s.views 0 v at0)))
      (ap (λ (z : View J A). z.is_host) same ∙ r.hosts.1) (ap (λ (z : View J A). z.live) same ∙ r.hosts.2) (ap (λ (z : View J A). z.out) same)
      (λ k u e x uses. dite (ℕ_discrete k 0)
      (λ z. let eq : v ≡ u = some-injective v u (sym at0 ∙ (ap (get_elem? s.views) (sym z) ∙ e)) in
      (w, ap (get_elem? (vs ++ fresh ∷ [])) z ∙ at_longer vs (fresh ∷ []) 0 w (set_here s.views 0 w (below s.views 0 v at0)), ap (λ (y : View J A). y.using) eq ∙ uses))
      (λ ne. (u, at_longer vs (fresh ∷ []) k u (set_else s.views 0 k w ne ∙ e), uses)))
      (λ k u e. ⊎_elim
      (λ old. ⊎_elim
      (λ t. subst (λ (z : ℕ × View J A). IsSeat of r.cells w.shut z.0 z.1) (λ i. (sym t.0 i, t.1 i))
      record { used = seat.used; alone = seat.alone; sees = λ e. e; lives = seat.lives; hand = λ no. absurd (no_host of s r 0 v at0 no refl) })
      (λ t. let f = r.seats k u t.1 in record { used = f.used; alone = f.alone; sees = λ e. ap (λ (z : View J A). z.shut) same ∙ f.sees e; lives = f.lives; hand = f.hand })
      (at_set s.views 0 k w u old))
      (λ new. subst (IsSeat of r.cells w.shut k) new
      record { used = λ p st e. absurd (none_some (p, st) e); alone = λ e. absurd (true-ne-false (sym e)); sees = λ e. absurd (true-ne-false (sym e)); lives = λ _ gone. absurd (suc-ne-zero 0 gone); hand = λ _. (refl, refl) })
      (at_snoc vs fresh u k e))
      (λ wt. let a = total_set (λ (z : View J A). total wt z.answers) s.views 0 v w at0 in let b = total_set (λ (z : View J A). total wt z.collected) s.views 0 v w at0 in
      let c = total_snoc (λ (z : View J A). total wt z.answers) vs fresh in let d = total_snoc (λ (z : View J A). total wt z.collected) vs fresh in omega arith)
      (let a = total_set (λ (z : View J A). z.live) s.views 0 v w at0 in let b = total_set (λ (z : View J A). z.hands) s.views 0 v w at0 in
      let c = total_snoc (λ (z : View J A). z.live) vs fresh in let d = total_snoc (λ (z : View J A). z.hands) vs fresh in let o = r.handed in omega arith))
