-- Each kind of step keeps the board's rule.
use Rattle.std.proofs.Common.{Bool, true, false, ◌≡◌, ℕ, zero, suc, ◌+◌, ◌<◌, ◌≤◌, ◌≢◌, eqb, List, [], ◌∷◌, length, get_or, set, sym, refl, ap, ◌∙◌, subst, arith, suc-ne-zero, length-set}
use mathlib.Core.Option.{none, some, some-injective}
use mathlib.Core.Logic.{dite}
use native.Mathlib.Decide.{ℕ_discrete}
use lib.ListN.{get_elem?}
use lib.Seq.{set-get_or}
use prog.Atomic.{either}
use Rattle.std.specs.Prelude.{Option, Some, None}
use Rattle.atomic_table.specs.Table.{State, step, Act, keeps, takes, gives, Allows, Valid, stepped, carried_after, rest}
use Rattle.atomic_table.proofs.Lists.{set_here, set_else, exchanged}
use Rattle.board.specs.declared.view.Entry.{Entry}
use Rattle.board.specs.declared.view.Entry.TheVariants.{Job, Turn}
use Rattle.board.specs.declared.view.Stage.{Stage}
use Rattle.board.specs.declared.view.Stage.TheVariants.{Empty, Ready, Held, Answered}
use Rattle.board.specs.declared.view.View.{View}
use Rattle.board.specs.Rule.{bit, face, weight_at, total, Cell, IsInside, Suits, Lies, job_at, IsOrderly}
use Rattle.board.specs.Plays.{Mine, looked, uses, outs, collects, answers_with, turns_used, filled, posted, glanced, claimed, answered, found, cleared}
use Rattle.board.proofs.Moves.{below, moved, stays, total_snoc}

pub there : {X : Type 0} (l : List X) (i : ℕ) → i < length l → (a : X) × (get_elem? l i ≡ some a)
there [] i h = absurd (omega arith)
there (x ∷ xs) zero h = (x, refl)
there (x ∷ xs) (suc i) h = there xs i (omega arith)

abbrev or_else : {X : Type 0} → X → Option X → X
or_else d None = d
or_else d (Some x) = x

same_use : {J A : Type 0} (c d : Cell J A) → Some c ≡ Some d → (d.0 ≡ c.0) × (d.1 ≡ c.1)
same_use {J} {A} c d e = let f = ap (or_else c) e in (ap (λ (z : Cell J A). z.0) (sym f), ap (λ (z : Cell J A). z.1) (sym f))

abbrev told : {X : Type 0} → Option X → Bool
told None = false
told (Some x) = true

pub true-ne-false : true ≡ false → ⊥
true-ne-false e = absurd (suc-ne-zero 0 (ap bit e))

pub none_some : {X : Type 0} (x : X) → None ≡ Some x → ⊥
none_some x e = true-ne-false (sym (ap told e))

pub front_is : {X : Type 0} (k : ℕ) (x : X) (cs more : List (ℕ × X)) → cs ≡ (k, x) ∷ more → cs ≡ (k, x) ∷ rest cs
front_is k x cs more e = e ∙ (λ i. (k, x) ∷ sym (ap rest e) i)

module _ {J A : Type 0} (of : A → J) where
  abbrev pub S : Type 0
  S = State (Option (Entry J A)) (View J A)

  abbrev pub Goes : S → ℕ → ℕ → Mine J A → (ℕ → Mine J A → Type 0) → ℕ → Type 0
  Goes s i id me told new = (w : View J A) × (a : Act (Option (Entry J A))) × Valid s.homes me.1 a × IsOrderly of (stepped s i new id me.1 w a) × told (get_or s.words i 0) (w, carried_after me.1 a)

  abbrev pub IsHost : (s : S) → IsOrderly of s → List (View J A) → View J A → Type 0
  IsHost s r views h = (get_elem? views 0 ≡ some h) × (h.is_host ≡ true) × (h.live ≡ 0) × (h.shut ≡ r.host.shut) × (h.out ≡ r.host.out)

  -- the host after a step that changes neither what is out nor whether the board is shut
  pub host_after : (s : S) (r : IsOrderly of s) (id : ℕ) (v w : View J A) → get_elem? s.views id ≡ some v → w.is_host ≡ v.is_host → w.live ≡ v.live → w.shut ≡ v.shut → w.out ≡ v.out
      → (h : View J A) × IsHost s r (set s.views id w) h
  host_after s r id v w at a b c d = dite (ℕ_discrete 0 id)
      (λ e. let is : v ≡ r.host = some-injective v r.host (sym at ∙ (ap (get_elem? s.views) (sym e) ∙ r.hosts.0)) in (
        w,
        (
          ap (get_elem? (set s.views id w)) e ∙ set_here s.views id w (below s.views id v at),
          a ∙ (ap (λ (z : View J A). z.is_host) is ∙ r.hosts.1),
          b ∙ (ap (λ (z : View J A). z.live) is ∙ r.hosts.2),
          c ∙ ap (λ (z : View J A). z.shut) is,
          d ∙ ap (λ (z : View J A). z.out) is,
        ),
      ))
      (λ other. (r.host, (set_else s.views id 0 w other ∙ r.hosts.0, r.hosts.1, r.hosts.2, refl, refl)))

  pub host_shut : (s : S) (r : IsOrderly of s) (id : ℕ) (v : View J A) → get_elem? s.views id ≡ some v → v.shut ≡ true → r.host.shut ≡ true
  host_shut s r id v at = (r.seats id v at).sees

  -- a hand is no host
  pub no_host : (s : S) (r : IsOrderly of s) (id : ℕ) (v : View J A) → get_elem? s.views id ≡ some v → v.is_host ≡ false → 0 ≢ id
  no_host s r id v at hand e = let is : v ≡ r.host = some-injective v r.host (sym at ∙ (ap (get_elem? s.views) (sym e) ∙ r.hosts.0)) in
      let f : true ≡ false = sym r.hosts.1 ∙ (ap (λ (z : View J A). z.is_host) (sym is) ∙ hand) in true-ne-false f

  -- a look that takes nothing
  pub looks : (s : S) (r : IsOrderly of s) (id p n : ℕ) (v : View J A) → get_elem? s.views id ≡ some v
      → IsOrderly of record { words = set s.words p (get_or s.words p 0); homes = s.homes; views = set s.views id (looked v p n) }
  looks s r id p n v at = let h = host_after s r id v (looked v p n) at refl refl refl refl in
      subst (λ (ws : List ℕ). IsOrderly of record { words = ws; homes = s.homes; views = set s.views id (looked v p n) }) (sym (set-get_or s.words p 0))
      (stays of s r id v (looked v p n) h.0 s.words at refl (λ _ _. refl) (r.shut_shows ∙ ap bit (sym h.1.3)) h.1.0 h.1.1 h.1.2 (λ e. h.1.3 ∙ e) h.1.4 refl (λ e. h.1.3 ∙ host_shut s r id v at e) refl refl refl refl refl)

  -- a step that changes nothing
  pub stands : (s : S) (r : IsOrderly of s) (id p : ℕ) (v : View J A) → get_elem? s.views id ≡ some v → IsOrderly of record { words = set s.words p (get_or s.words p 0); homes = s.homes; views = set s.views id v }
  stands s r id p v at = let h = host_after s r id v v at refl refl refl refl in
      subst (λ (ws : List ℕ). IsOrderly of record { words = ws; homes = s.homes; views = set s.views id v }) (sym (set-get_or s.words p 0))
      (stays of s r id v v h.0 s.words at refl (λ _ _. refl) (r.shut_shows ∙ ap bit (sym h.1.3)) h.1.0 h.1.1 h.1.2 (λ e. h.1.3 ∙ e) h.1.4 refl (λ e. h.1.3 ∙ host_shut s r id v at e) refl refl refl refl refl)

  -- a seat takes the slot of a place
  grabs : (s : S) (r : IsOrderly of s) (id p n : ℕ) (v : View J A) (st st' : Stage J A) → get_elem? s.views id ≡ some v → v.using ≡ None → get_elem? r.cells p ≡ some (0, st)
      → job_at of st' ≡ job_at of st → ((wt : A → ℕ) → weight_at wt st' ≡ weight_at wt st) → Suits (suc id) st' → (v.is_host ≡ false → v.live ≡ 1)
      → IsOrderly of record { words = set s.words p (face st'); homes = set s.homes p none; views = set s.views id (uses (looked v p n) p st') }
  grabs s r id p n v st st' at rests cell same_job same_count suits alive =
      let w = uses (looked v p n) p st' in let h = host_after s r id v w at refl refl refl refl in let k = r.places p (0, st) cell in let seat = r.seats id v at in
      moved of s r id p v w h.0 0 (suc id) st st' (set s.homes p none) at cell (λ _ _ e. omega arith) (λ q x e. search (rests, e)) (λ q x e. let f = same_use (p, st') (q, x) e in (f.0, f.1, refl))
      (length-set s.homes p none) (λ q ne. set_else s.homes p q none ne) (w, set_here s.views id w (below s.views id v at), refl) suits
      h.1.0 h.1.1 h.1.2 h.1.3 (ap length h.1.4) (ap (λ (l : List (Option J)). get_elem? l p) h.1.4 ∙ (k.known ∙ ap some (sym same_job))) (λ q _. ap (λ (l : List (Option J)). get_elem? l q) h.1.4)
      refl refl refl refl (λ no gone. absurd (omega (arith, alive no, gone))) (λ no. (seat.hand no).0) (λ wt. ap (λ (z : ℕ). total wt v.answers + total wt v.collected + z) (sym (same_count wt)))

  -- a seat gives the slot of a place back
  lays : (s : S) (r : IsOrderly of s) (id p : ℕ) (v w h : View J A) (st st' : Stage J A) (x : Option (Entry J A)) → get_elem? s.views id ≡ some v → v.using ≡ Some (p, st) → w.using ≡ None
      → IsInside st' x → Suits 0 st' → Lies (set s.homes p (some x)) (set s.views id w) p 0 st'
      → get_elem? (set s.views id w) 0 ≡ some h → h.is_host ≡ true → h.live ≡ 0 → h.shut ≡ r.host.shut
      → length h.out ≡ length r.host.out → get_elem? h.out p ≡ some (job_at of st') → ((q : ℕ) → q ≢ p → get_elem? h.out q ≡ get_elem? r.host.out q)
      → w.is_host ≡ v.is_host → w.shut ≡ v.shut → w.live ≡ v.live → w.hands ≡ v.hands
      → (w.is_host ≡ false → w.live ≡ 0 → (w.answers ≡ []) × (w.using ≡ None)) → (w.is_host ≡ false → w.collected ≡ [])
      → ((wt : A → ℕ) → total wt w.answers + total wt v.collected + weight_at wt st ≡ total wt v.answers + total wt w.collected + weight_at wt st')
      → IsOrderly of record { words = set s.words p (face st'); homes = set s.homes p (some x); views = set s.views id w }
  lays s r id p v w h st st' x at has rests inside suits lies a b c d e f g =
      let seat = r.seats id v at in
      moved of s r id p v w h (suc id) 0 st st' (set s.homes p (some x)) at (seat.used p st has) (λ k ne e. ne (omega arith)) (λ q y e. (same_use (p, st) (q, y) (sym has ∙ e)).0) (λ q y e. search (rests, e))
      (length-set s.homes p (some x)) (λ q ne. set_else s.homes p q (some x) ne) lies suits a b c d e f g

  -- a host at rest has no slot
  no_slot : (s : S) (p j : ℕ) (st : Stage J A) (v : View J A) → get_elem? s.views 0 ≡ some v → v.using ≡ None → suc j ≤ 1 → Lies s.homes s.views p (suc j) st → ⊥
  no_slot s p zero st v at rests le k = let is : v ≡ k.0 = some-injective v k.0 (sym at ∙ k.1) in none_some (p, st) (sym rests ∙ (ap (λ (z : View J A). z.using) is ∙ k.2))
  no_slot s p (suc j) st v at rests le k = omega arith

  abbrev Looks : S → ℕ → ℕ → Mine J A → (ℕ → Mine J A → Type 0) → Type 0
  Looks s p id me told = Goes s p id me told (get_or s.words p 0)

  known_out : (s : S) (r : IsOrderly of s) (p h : ℕ) (st : Stage J A) (v : View J A) → get_elem? s.views 0 ≡ some v → get_elem? r.cells p ≡ some (h, st) → get_elem? v.out p ≡ some (job_at of st)
  known_out s r p h st v at cell = ap (λ (z : View J A). get_elem? z.out p) (some-injective v r.host (sym at ∙ r.hosts.0)) ∙ (r.places p (h, st) cell).known

  -- in post: the host looks at a place, and takes the slot where it is empty
  fill : (s : S) (r : IsOrderly of s) (p : ℕ) (me : Mine J A) → get_elem? s.views 0 ≡ some me.0 → me.0.using ≡ None → (h : ℕ) (st : Stage J A) → get_elem? r.cells p ≡ some (h, st)
      → Looks s p 0 me (filled (step (length s.homes) p 0 0 none) me)
  fill s r p me at rests zero Empty cell = let k = r.places p (0, Empty) cell in let y : ℕ = get_or s.words p 0 in (
    uses (looked me.0 p y) p Empty,
    takes p None,
    k.lies.1 ∙ ap (λ (z : Option (Entry J A)). some (some z)) k.lies.2,
    subst (λ (z : ℕ). IsOrderly of record { words = set s.words p z; homes = set s.homes p none; views = set s.views 0 (uses (looked me.0 p y) p Empty) }) (sym k.shows)
        (grabs s r 0 p y me.0 Empty Empty at rests cell refl (λ _. refl) (omega arith) (λ no. absurd (no_host s r 0 me.0 at no refl))),
    ((λ _. (known_out s r p 0 Empty me.0 at cell, refl)), λ ne. absurd (ne k.shows)),
  )
  fill s r p me at rests (suc j) Empty cell = let k = r.places p (suc j, Empty) cell in absurd (no_slot s p j Empty me.0 at rests k.suits k.lies)
  fill s r p me at rests h (Ready job) cell = let k = r.places p (h, Ready job) cell in let y : ℕ = get_or s.words p 0 in
      (looked me.0 p y, keeps, tt, looks s r 0 p y me.0 at, ((λ e. absurd (omega (arith, k.shows, e))), λ _. ((job, known_out s r p h (Ready job) me.0 at cell), refl)))
  fill s r p me at rests h (Held job) cell = let k = r.places p (h, Held job) cell in let y : ℕ = get_or s.words p 0 in
      (looked me.0 p y, keeps, tt, looks s r 0 p y me.0 at, ((λ e. absurd (omega (arith, k.shows, e))), λ _. ((job, known_out s r p h (Held job) me.0 at cell), refl)))
  fill s r p me at rests h (Answered turn) cell = let k = r.places p (h, Answered turn) cell in let y : ℕ = get_or s.words p 0 in
      (looked me.0 p y, keeps, tt, looks s r 0 p y me.0 at, ((λ e. absurd (omega (arith, k.shows, e))), λ _. ((of turn, known_out s r p h (Answered turn) me.0 at cell), refl)))

  cell_at : (s : S) (r : IsOrderly of s) (p n : ℕ) → length s.homes ≡ n → p < n → (c : Cell J A) × (get_elem? r.cells p ≡ some c)
  cell_at s r p n long near = there r.cells p (omega (r.cells_long, arith))

  pub fills : (n p : ℕ) (me : Mine J A) → p < n → me.0.using ≡ None → Allows (IsOrderly of) n 0 me p (λ y. y) (filled (step n p 0 0 none) me)
  fills n p me near rests s r long at _ = let c = cell_at s r p n long near in fill s r p me at rests c.0.0 c.0.1 c.1

  -- in collect: the host looks at a place, and takes the slot where it is answered
  find : (s : S) (r : IsOrderly of s) (p : ℕ) (me : Mine J A) → get_elem? s.views 0 ≡ some me.0 → me.0.using ≡ None → (h : ℕ) (st : Stage J A) → get_elem? r.cells p ≡ some (h, st)
      → Looks s p 0 me (found of (step (length s.homes) p 0 0 none) me)
  find s r p me at rests zero (Answered turn) cell = let k = r.places p (0, Answered turn) cell in let y : ℕ = get_or s.words p 0 in (
    uses (looked me.0 p y) p (Answered turn),
    takes p (Some (Turn turn)),
    k.lies.1 ∙ ap (λ (z : Option (Entry J A)). some (some z)) k.lies.2,
    subst (λ (z : ℕ). IsOrderly of record { words = set s.words p z; homes = set s.homes p none; views = set s.views 0 (uses (looked me.0 p y) p (Answered turn)) }) (sym k.shows)
        (grabs s r 0 p y me.0 (Answered turn) (Answered turn) at rests cell refl (λ _. refl) (omega arith) (λ no. absurd (no_host s r 0 me.0 at no refl))),
    ((λ _. (turn, known_out s r p 0 (Answered turn) me.0 at cell, refl)), λ ne. absurd (ne k.shows)),
  )
  find s r p me at rests (suc j) (Answered turn) cell = let k = r.places p (suc j, Answered turn) cell in absurd (no_slot s p j (Answered turn) me.0 at rests k.suits k.lies)
  find s r p me at rests h (Ready job) cell = let k = r.places p (h, Ready job) cell in let y : ℕ = get_or s.words p 0 in
      (looked me.0 p y, keeps, tt, looks s r 0 p y me.0 at, ((λ e. absurd (omega (arith, k.shows, e))), λ _. refl))
  find s r p me at rests h (Held job) cell = let k = r.places p (h, Held job) cell in let y : ℕ = get_or s.words p 0 in
      (looked me.0 p y, keeps, tt, looks s r 0 p y me.0 at, ((λ e. absurd (omega (arith, k.shows, e))), λ _. refl))
  find s r p me at rests h Empty cell = let k = r.places p (h, Empty) cell in let y : ℕ = get_or s.words p 0 in
      (looked me.0 p y, keeps, tt, looks s r 0 p y me.0 at, ((λ e. absurd (omega (arith, k.shows, e))), λ _. refl))

  pub finds : (n p : ℕ) (me : Mine J A) → p < n → me.0.using ≡ None → Allows (IsOrderly of) n 0 me p (λ y. y) (found of (step n p 0 0 none) me)
  finds n p me near rests s r long at _ = let c = cell_at s r p n long near in find s r p me at rests c.0.0 c.0.1 c.1

  -- a hand looks whether a place is ready
  pub glances : (n id p : ℕ) (me : Mine J A) → Allows (IsOrderly of) n id me p (λ y. y) (glanced (step n p 0 0 none) me)
  glances n id p me s r long at _ = let y : ℕ = get_or s.words p 0 in dite (ℕ_discrete y 1)
      (λ hit. (me.0, keeps, tt, stands s r id p me.0 at, ((λ _. refl), λ ne. absurd (ne hit))))
      (λ miss. (looked me.0 p y, keeps, tt, looks s r id p y me.0 at, ((λ e. absurd (miss e)), λ _. refl)))

  -- a hand that finds READY
  claim : (s : S) (r : IsOrderly of s) (id p : ℕ) (me : Mine J A) → get_elem? s.views id ≡ some me.0 → me.0.is_host ≡ false → me.0.live ≡ 1 → me.0.using ≡ None → get_or s.words p 0 ≡ 1 → (h : ℕ) (st : Stage J A) → get_elem? r.cells p ≡ some (h, st)
      → Goes s p id me (claimed (step (length s.homes) p 1 2 none) me) 2
  claim s r id p me at hand live rests hit zero (Ready job) cell = let k = r.places p (0, Ready job) cell in let y : ℕ = get_or s.words p 0 in (
    uses (looked me.0 p y) p (Held job),
    takes p (Some (Job job)),
    k.lies.1 ∙ ap (λ (z : Option (Entry J A)). some (some z)) k.lies.2,
    grabs s r id p y me.0 (Ready job) (Held job) at rests cell refl (λ _. refl) (let ne = no_host s r id me.0 at hand in let pos : 0 ≢ id = ne in omega (arith, pos)) (λ _. live),
    ((λ _. (job, refl)), λ ne. absurd (ne hit)),
  )
  claim s r id p me at hand live rests hit (suc j) (Ready job) cell = let k = r.places p (suc j, Ready job) cell in absurd (omega (arith, k.suits))
  claim s r id p me at hand live rests hit h (Held job) cell = let k = r.places p (h, Held job) cell in absurd (omega (arith, k.shows, hit))
  claim s r id p me at hand live rests hit h (Answered turn) cell = let k = r.places p (h, Answered turn) cell in absurd (omega (arith, k.shows, hit))
  claim s r id p me at hand live rests hit h Empty cell = let k = r.places p (h, Empty) cell in absurd (omega (arith, k.shows, hit))

  pub claims : (n id p : ℕ) (me : Mine J A) → p < n → me.0.is_host ≡ false → me.0.live ≡ 1 → me.0.using ≡ None → Allows (IsOrderly of) n id me p (λ y. either (eqb y 1) 2 y) (claimed (step n p 1 2 none) me)
  claims n id p me near hand live rests s r long at _ = let c = cell_at s r p n long near in let y : ℕ = get_or s.words p 0 in
      exchanged y 1 2 (Goes s p id me (claimed (step n p 1 2 none) me))
      (λ hit. claim s r id p me at hand live rests hit c.0.0 c.0.1 c.1)
      (λ miss. (looked me.0 p y, keeps, tt, looks s r id p y me.0 at, ((λ e. absurd (miss e)), λ _. refl)))

  abbrev Gives : S → ℕ → ℕ → View J A → (Mine J A → Mine J A → Type 0) → ℕ → List (ℕ × Option (Entry J A)) → Type 0
  Gives s p id v told new cs = Goes s p id (v, cs) (λ _. told (v, cs)) new

  -- the host's own view
  pub own : (s : S) (r : IsOrderly of s) (v : View J A) → get_elem? s.views 0 ≡ some v → v ≡ r.host
  own s r v at = some-injective v r.host (sym at ∙ r.hosts.0)

  pub posts : (n p : ℕ) (me : Mine J A) (job : J) (more : List (ℕ × Option (Entry J A))) → me.0.using ≡ Some (p, Empty) → me.1 ≡ (p, Some (Job job)) ∷ more
      → Allows (IsOrderly of) n 0 me p (λ _. 1) (λ _. posted (step n p 1 0 none) me 1)
  posts n p me job more has carries s r long at _ =
      let v = me.0 in let w = outs v p (Some job) in let is = own s r v at in let seat = r.seats 0 v at in let cell = seat.used p Empty has in let k = r.places p (1, Empty) cell in
      let known = known_out s r p 1 Empty v at cell in let near : p < length s.homes = omega (arith, below r.cells p (1, Empty) cell, r.cells_long) in
      let host : v.is_host ≡ true = ap (λ (z : View J A). z.is_host) is ∙ r.hosts.1 in
      subst (Gives s p 0 v (λ m. posted (step n p 1 0 none) m 1) 1) (sym carries) (
        w,
        gives,
        tt,
        lays s r 0 p v w w Empty (Ready job) (Some (Job job)) at has refl refl refl (Some (Job job), set_here s.homes p (some (Some (Job job))) near, refl)
            (set_here s.views 0 w (below s.views 0 v at)) host (ap (λ (z : View J A). z.live) is ∙ r.hosts.2) (ap (λ (z : View J A). z.shut) is) (length-set v.out p (Some job) ∙ ap (λ (z : View J A). length z.out) is)
            (set_here v.out p (Some job) (below v.out p None known)) (λ q ne. set_else v.out p q (Some job) ne ∙ ap (λ (z : View J A). get_elem? z.out q) is) refl refl refl refl (λ hand _. absurd (true-ne-false (sym host ∙ hand))) (λ hand. (seat.hand hand).0) (λ _. refl),
        refl,
      )

  pub clears : (n p : ℕ) (me : Mine J A) (turn : A) (more : List (ℕ × Option (Entry J A))) → me.0.using ≡ Some (p, Answered turn) → me.1 ≡ (p, None) ∷ more
      → Allows (IsOrderly of) n 0 me p (λ _. 0) (λ _. cleared (step n p 0 0 none) me 0)
  clears n p me turn more has carries s r long at _ =
      let v = me.0 in let w = collects (outs v p None) (turn ∷ []) in let is = own s r v at in let seat = r.seats 0 v at in let cell = seat.used p (Answered turn) has in
      let known = known_out s r p 1 (Answered turn) v at cell in let near : p < length s.homes = omega (arith, below r.cells p (1, Answered turn) cell, r.cells_long) in
      let host : v.is_host ≡ true = ap (λ (z : View J A). z.is_host) is ∙ r.hosts.1 in
      subst (Gives s p 0 v (λ m. cleared (step n p 0 0 none) m 0) 0) (sym carries) (
        w,
        gives,
        tt,
        lays s r 0 p v w w (Answered turn) Empty None at has refl refl (omega arith) (None, set_here s.homes p (some None) near, refl)
            (set_here s.views 0 w (below s.views 0 v at)) host (ap (λ (z : View J A). z.live) is ∙ r.hosts.2) (ap (λ (z : View J A). z.shut) is) (length-set v.out p None ∙ ap (λ (z : View J A). length z.out) is)
            (set_here v.out p None (below v.out p (Some (of turn)) known)) (λ q ne. set_else v.out p q None ne ∙ ap (λ (z : View J A). get_elem? z.out q) is) refl refl refl refl (λ hand _. absurd (true-ne-false (sym host ∙ hand)))
            (λ hand. absurd (true-ne-false (sym host ∙ hand))) (λ wt. let t = total_snoc wt v.collected turn in omega arith),
        (λ i. (collects (outs v p None) (turns_used (sym has i)), more)),
      )

  pub answers : (n id p : ℕ) (me : Mine J A) (job : J) (turn : A) (more : List (ℕ × Option (Entry J A))) → of turn ≡ job → me.0.live ≡ 1 → me.0.is_host ≡ false → me.0.using ≡ Some (p, Held job) → me.1 ≡ (p, Some (Turn turn)) ∷ more
      → Allows (IsOrderly of) n id me p (λ _. 3) (λ _. answered (step n p 3 0 none) me 3)
  answers n id p me job turn more same live hand has carries s r long at _ =
      let v = me.0 in let w = answers_with v (turn ∷ []) in let seat = r.seats id v at in let cell = seat.used p (Held job) has in let k = r.places p (suc id, Held job) cell in
      let near : p < length s.homes = omega (arith, below r.cells p (suc id, Held job) cell, r.cells_long) in let h = host_after s r id v w at refl refl refl refl in
      subst (Gives s p id v (λ m. answered (step n p 3 0 none) m 3) 3) (sym carries) (
        w,
        gives,
        tt,
        lays s r id p v w h.0 (Held job) (Answered turn) (Some (Turn turn)) at has refl refl (omega arith) (Some (Turn turn), set_here s.homes p (some (Some (Turn turn))) near, refl)
            h.1.0 h.1.1 h.1.2 h.1.3 (ap length h.1.4) (ap (λ (l : List (Option J)). get_elem? l p) h.1.4 ∙ (k.known ∙ ap (λ (z : J). some (Some z)) (sym same)))
            (λ q _. ap (λ (l : List (Option J)). get_elem? l q) h.1.4) refl refl refl refl (λ _ gone. absurd (omega (arith, live, gone))) (λ no_host. (seat.hand no_host).0) (λ wt. let t = total_snoc wt v.answers turn in omega arith),
        refl,
      )

  -- the same, at the number of the host's seat
  pub host_fills : (n id p : ℕ) (me : Mine J A) → id ≡ 0 → p < n → me.0.using ≡ None → Allows (IsOrderly of) n id me p (λ y. y) (filled (step n p 0 0 none) me)
  host_fills n id p me is near rests = subst (λ (z : ℕ). Allows (IsOrderly of) n z me p (λ y. y) (filled (step n p 0 0 none) me)) (sym is) (fills n p me near rests)

  pub host_finds : (n id p : ℕ) (me : Mine J A) → id ≡ 0 → p < n → me.0.using ≡ None → Allows (IsOrderly of) n id me p (λ y. y) (found of (step n p 0 0 none) me)
  host_finds n id p me is near rests = subst (λ (z : ℕ). Allows (IsOrderly of) n z me p (λ y. y) (found of (step n p 0 0 none) me)) (sym is) (finds n p me near rests)

  pub host_posts : (n id p : ℕ) (me : Mine J A) (job : J) (more : List (ℕ × Option (Entry J A))) → id ≡ 0 → me.0.using ≡ Some (p, Empty) → me.1 ≡ (p, Some (Job job)) ∷ more
      → Allows (IsOrderly of) n id me p (λ _. 1) (λ _. posted (step n p 1 0 none) me 1)
  host_posts n id p me job more is has carries = subst (λ (z : ℕ). Allows (IsOrderly of) n z me p (λ _. 1) (λ _. posted (step n p 1 0 none) me 1)) (sym is) (posts n p me job more has carries)

  pub host_clears : (n id p : ℕ) (me : Mine J A) (turn : A) (more : List (ℕ × Option (Entry J A))) → id ≡ 0 → me.0.using ≡ Some (p, Answered turn) → me.1 ≡ (p, None) ∷ more
      → Allows (IsOrderly of) n id me p (λ _. 0) (λ _. cleared (step n p 0 0 none) me 0)
  host_clears n id p me turn more is has carries = subst (λ (z : ℕ). Allows (IsOrderly of) n z me p (λ _. 0) (λ _. cleared (step n p 0 0 none) me 0)) (sym is) (clears n p me turn more has carries)
