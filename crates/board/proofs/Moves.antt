-- What stays of the board's rule when a place or a seat moves.
use Rattle.std.proofs.Common.{Bool, true, false, ◌≡◌, ℕ, zero, suc, ◌+◌, ◌<◌, ◌≢◌, List, [], ◌∷◌, ◌++◌, length, get_or, set, sym, ap, ◌∙◌, subst, ⊎_elim, arith, length-set, get_or-set_other, get_or-set_same}
use mathlib.Core.Option.{none, some, some-injective, some-ne-none}
use mathlib.Core.Option as maybe
use mathlib.Core.Logic.{dite}
use native.Mathlib.Decide.{ℕ_discrete}
use lib.ListN.{get_elem?}
use Rattle.std.specs.Prelude.{Option, Some, None}
use Rattle.atomic_table.specs.Table.{State}
use Rattle.atomic_table.proofs.Lists.{at_set, set_here, set_else}
use Rattle.board.specs.declared.view.Entry.{Entry}
use Rattle.board.specs.declared.view.Stage.{Stage}
use Rattle.board.specs.declared.view.View.{View}
use Rattle.board.specs.Rule.{total, bit, face, weight_at, Cell, Lies, Suits, job_at, IsPlace, IsSeat, IsOrderly}

pub total_set : {X : Type 0} (f : X → ℕ) (l : List X) (i : ℕ) (a b : X) → get_elem? l i ≡ some a → total f (set l i b) + f a ≡ total f l + f b
total_set f [] i a b e = absurd (some-ne-none a (sym e))
total_set f (x ∷ xs) zero a b e = let same : f x ≡ f a = ap f (some-injective x a e) in omega arith
total_set f (x ∷ xs) (suc i) a b e = let more = total_set f xs i a b e in omega arith

pub total_snoc : {X : Type 0} (f : X → ℕ) (l : List X) (x : X) → total f (l ++ x ∷ []) ≡ total f l + f x
total_snoc f [] x = omega arith
total_snoc f (y ∷ ys) x = let more = total_snoc f ys x in omega arith

pub total_join : {X : Type 0} (f : X → ℕ) (l m : List X) → total f (l ++ m) ≡ total f l + total f m
total_join f [] m = omega arith
total_join f (y ∷ ys) m = let more = total_join f ys m in omega arith

pub below : {X : Type 0} (l : List X) (i : ℕ) (a : X) → get_elem? l i ≡ some a → i < length l
below [] i a e = absurd (some-ne-none a (sym e))
below (x ∷ xs) zero a e = omega arith
below (x ∷ xs) (suc i) a e = let more = below xs i a e in omega arith

abbrev pub Homes : Type 0 → Type 0 → Type 0
Homes J A = List (maybe.Option (Option (Entry J A)))

module _ {J A : Type 0} (of : A → J) where
  -- another place stays, where the seat id had no slot but that of p
  place_stays : (words words' : List ℕ) (homes homes' : Homes J A) (views : List (View J A)) (out out' : List (Option J)) (id p q : ℕ) (v w : View J A) (h : ℕ) (st : Stage J A)
      → get_elem? views id ≡ some v → q ≢ p → ((k : ℕ) (x : Stage J A) → v.using ≡ Some (k, x) → k ≡ p)
      → get_or words' q 0 ≡ get_or words q 0 → get_elem? homes' q ≡ get_elem? homes q → get_elem? out' q ≡ get_elem? out q
      → IsPlace of words homes views out q (h, st) → IsPlace of words' homes' (set views id w) out' q (h, st)
  place_stays words words' homes homes' views out out' id p q v w zero st at ne mine word home job k =
      record { shows = word ∙ k.shows; known = job ∙ k.known; lies = (k.lies.0, home ∙ k.lies.1, k.lies.2); suits = k.suits }
  place_stays words words' homes homes' views out out' id p q v w (suc j) st at ne mine word home job k =
      let u : View J A = k.lies.0 in
      record {
        shows = word ∙ k.shows;
        known = job ∙ k.known;
        lies = (u, dite (ℕ_discrete j id) (λ e. absurd (ne (mine q st (ap (λ (z : View J A). z.using) (some-injective v u (sym at ∙ (ap (get_elem? views) (sym e) ∙ k.lies.1))) ∙ k.lies.2)))) (λ other. set_else views id j w other ∙ k.lies.1), k.lies.2);
        suits = k.suits;
      }

  seat_stays : (cells : List (Cell J A)) (shut shut' : Bool) (p h h' : ℕ) (st st' : Stage J A) (k : ℕ) (u : View J A) → get_elem? cells p ≡ some (h, st) → h ≢ suc k → (shut ≡ true → shut' ≡ true)
      → IsSeat of cells shut k u → IsSeat of (set cells p (h', st')) shut' k u
  seat_stays cells shut shut' p h h' st st' k u at other longer seat = record {
    used = λ q x e. let was = seat.used q x e in dite (ℕ_discrete q p)
        (λ same. absurd (other (ap (λ (c : Cell J A). c.0) (some-injective (h, st) (suc k, x) (sym at ∙ (ap (get_elem? cells) (sym same) ∙ was))))))
        (λ ne. set_else cells p q (h', st') ne ∙ was);
    alone = seat.alone;
    sees = λ e. longer (seat.sees e);
    lives = seat.lives;
    hand = seat.hand;
  }

  -- one place and one seat change
  pub moved : (s : State (Option (Entry J A)) (View J A)) (r : IsOrderly of s) (id p : ℕ) (v w host' : View J A) (h h' : ℕ) (st st' : Stage J A) (homes' : Homes J A)
      → get_elem? s.views id ≡ some v → get_elem? r.cells p ≡ some (h, st) → ((k : ℕ) → k ≢ id → h ≢ suc k)
      → ((q : ℕ) (x : Stage J A) → v.using ≡ Some (q, x) → q ≡ p)
      → ((q : ℕ) (x : Stage J A) → w.using ≡ Some (q, x) → (q ≡ p) × (x ≡ st') × (h' ≡ suc id))
      → length homes' ≡ length s.homes → ((q : ℕ) → q ≢ p → get_elem? homes' q ≡ get_elem? s.homes q) → Lies homes' (set s.views id w) p h' st' → Suits h' st'
      → get_elem? (set s.views id w) 0 ≡ some host' → host'.is_host ≡ true → host'.live ≡ 0 → host'.shut ≡ r.host.shut
      → length host'.out ≡ length r.host.out → get_elem? host'.out p ≡ some (job_at of st') → ((q : ℕ) → q ≢ p → get_elem? host'.out q ≡ get_elem? r.host.out q)
      → w.is_host ≡ v.is_host → w.shut ≡ v.shut → w.live ≡ v.live → w.hands ≡ v.hands
      → (w.is_host ≡ false → w.live ≡ 0 → (w.answers ≡ []) × (w.using ≡ None)) → (w.is_host ≡ false → w.collected ≡ [])
      → ((wt : A → ℕ) → total wt w.answers + total wt v.collected + weight_at wt st ≡ total wt v.answers + total wt w.collected + weight_at wt st')
      → IsOrderly of record { words = set s.words p (face st'); homes = homes'; views = set s.views id w }
  moved s r id p v w host' h h' st st' homes' at cell loose vmine wmine long homes_stay lies suits host_at is_host not_live shut_is out_is out_here out_stay host_is shut_same live_same hands_same lives hand balance =
      let n : ℕ = length s.homes in let near : p < length r.cells = below r.cells p (h, st) cell in let near' : p < n = omega (r.cells_long, arith) in let seat = r.seats id v at in
      let wl : length s.words ≡ n + 1 = r.words_long in
      record {
        cells = set r.cells p (h', st');
        host = host';
        hosts = (host_at, is_host, not_live);
        cells_long = length-set r.cells p (h', st') ∙ (r.cells_long ∙ sym long);
        words_long = length-set s.words p (face st') ∙ (r.words_long ∙ ap (λ (z : ℕ). z + 1) (sym long));
        out_long = out_is ∙ (r.out_long ∙ sym long);
        shut_shows = ap (λ (z : ℕ). get_or (set s.words p (face st')) z 0) long ∙ (get_or-set_other s.words p n (face st') 0 (λ e. omega arith) ∙ (r.shut_shows ∙ ap bit (sym shut_is)));
        places = λ q c e. ⊎_elim
            (λ t. subst (λ (z : ℕ × Cell J A). IsPlace of (set s.words p (face st')) homes' (set s.views id w) host'.out z.0 z.1) (λ i. (sym t.0 i, t.1 i))
            record { shows = get_or-set_same s.words p (face st') 0 (omega arith); known = out_here; lies = lies; suits = suits })
            (λ t. place_stays s.words (set s.words p (face st')) s.homes homes' s.views r.host.out host'.out id p q v w c.0 c.1 at t.0 vmine (get_or-set_other s.words p q (face st') 0 t.0) (homes_stay q t.0) (out_stay q t.0) (r.places q c t.1))
            (at_set r.cells p q (h', st') c e);
        seats = λ k u e. ⊎_elim
            (λ t. subst (λ (z : ℕ × View J A). IsSeat of (set r.cells p (h', st')) host'.shut z.0 z.1) (λ i. (sym t.0 i, t.1 i))
            record {
              used = λ q x is. let m = wmine q x is in ap (get_elem? (set r.cells p (h', st'))) m.0 ∙ (set_here r.cells p (h', st') near ∙ (λ i. some (m.2 i, sym m.1 i)));
              alone = λ is. seat.alone (sym host_is ∙ is);
              sees = λ is. shut_is ∙ seat.sees (sym shut_same ∙ is);
              lives = lives;
              hand = λ no. (hand no, hands_same ∙ (seat.hand (sym host_is ∙ no)).1);
            })
            (λ t. seat_stays r.cells r.host.shut host'.shut p h h' st st' k u cell (loose k t.0) (λ is. shut_is ∙ is) (r.seats k u t.1))
            (at_set s.views id k w u e);
        answered = λ wt. let a = total_set (λ (z : View J A). total wt z.answers) s.views id v w at in let b = total_set (λ (z : View J A). total wt z.collected) s.views id v w at in
            let c = total_set (λ (z : Cell J A). weight_at wt z.1) r.cells p (h, st) (h', st') cell in let o = r.answered wt in let f = balance wt in omega arith;
        handed = let a = total_set (λ (z : View J A). z.live) s.views id v w at in let b = total_set (λ (z : View J A). z.hands) s.views id v w at in let o = r.handed in omega arith;
      }

  -- seats change and no place does; the word after the places may
  pub reseats : (s : State (Option (Entry J A)) (View J A)) (r : IsOrderly of s) (host' : View J A) (words' : List ℕ) (views' : List (View J A))
      → length words' ≡ length s.words → ((q : ℕ) → q < length s.homes → get_or words' q 0 ≡ get_or s.words q 0) → get_or words' (length s.homes) 0 ≡ bit host'.shut
      → get_elem? views' 0 ≡ some host' → host'.is_host ≡ true → host'.live ≡ 0 → host'.out ≡ r.host.out
      → ((k : ℕ) (u : View J A) → get_elem? s.views k ≡ some u → (x : ℕ × Stage J A) → u.using ≡ Some x → (u' : View J A) × (get_elem? views' k ≡ some u') × (u'.using ≡ Some x))
      → ((k : ℕ) (u : View J A) → get_elem? views' k ≡ some u → IsSeat of r.cells host'.shut k u)
      → ((wt : A → ℕ) → total (λ v. total wt v.answers) views' + total (λ v. total wt v.collected) s.views ≡ total (λ v. total wt v.answers) s.views + total (λ v. total wt v.collected) views')
      → total (λ v. v.live) views' ≡ total (λ v. v.hands) views'
      → IsOrderly of record { words = words'; homes = s.homes; views = views' }
  reseats s r host' words' views' long same shown host_at is_host not_live out_is stay seats balance handed =
      record {
        cells = r.cells;
        host = host';
        hosts = (host_at, is_host, not_live);
        cells_long = r.cells_long;
        words_long = long ∙ r.words_long;
        out_long = ap length out_is ∙ r.out_long;
        shut_shows = shown;
        places = λ q c e. let k = r.places q c e in let near : q < length r.cells = below r.cells q c e in
            record {
              shows = same q (omega (arith, r.cells_long)) ∙ k.shows;
              known = ap (λ (l : List (Option J)). get_elem? l q) out_is ∙ k.known;
              lies = lies_stay q c.0 c.1 k.lies;
              suits = k.suits;
            };
        seats = seats;
        answered = λ wt. let o = r.answered wt in let f = balance wt in omega arith;
        handed = handed;
      }
    where
      lies_stay : (q h : ℕ) (st : Stage J A) → Lies s.homes s.views q h st → Lies s.homes views' q h st
      lies_stay q zero st k = k
      lies_stay q (suc j) st k = stay j k.0 k.1 (q, st) k.2

  pub stays : (s : State (Option (Entry J A)) (View J A)) (r : IsOrderly of s) (id : ℕ) (v w host' : View J A) (words' : List ℕ)
      → get_elem? s.views id ≡ some v → length words' ≡ length s.words → ((q : ℕ) → q < length s.homes → get_or words' q 0 ≡ get_or s.words q 0) → get_or words' (length s.homes) 0 ≡ bit host'.shut
      → get_elem? (set s.views id w) 0 ≡ some host' → host'.is_host ≡ true → host'.live ≡ 0 → (r.host.shut ≡ true → host'.shut ≡ true) → host'.out ≡ r.host.out
      → w.using ≡ v.using → (w.shut ≡ true → host'.shut ≡ true)
      → w.is_host ≡ v.is_host → w.live ≡ v.live → w.hands ≡ v.hands → w.answers ≡ v.answers → w.collected ≡ v.collected
      → IsOrderly of record { words = words'; homes = s.homes; views = set s.views id w }
  stays s r id v w host' words' at long same shown host_at is_host not_live longer out_is using_same shut_is host_is live_same hands_same answers_same collected_same = let seat = r.seats id v at in
      reseats s r host' words' (set s.views id w) long same shown host_at is_host not_live out_is
      (λ k u e x uses. dite (ℕ_discrete k id)
      (λ same_k. let is : v ≡ u = some-injective v u (sym at ∙ (ap (get_elem? s.views) (sym same_k) ∙ e)) in
      (w, ap (get_elem? (set s.views id w)) same_k ∙ set_here s.views id w (below s.views id v at), using_same ∙ (ap (λ (z : View J A). z.using) is ∙ uses)))
      (λ other. (u, set_else s.views id k w other ∙ e, uses)))
      (λ k u e. ⊎_elim
      (λ t. subst (λ (z : ℕ × View J A). IsSeat of r.cells host'.shut z.0 z.1) (λ i. (sym t.0 i, t.1 i))
      record {
        used = λ q x is. seat.used q x (sym using_same ∙ is);
        alone = λ is. seat.alone (sym host_is ∙ is);
        sees = shut_is;
        lives = λ no gone. let f = seat.lives (sym host_is ∙ no) (sym live_same ∙ gone) in (answers_same ∙ f.0, using_same ∙ f.1);
        hand = λ no. let f = seat.hand (sym host_is ∙ no) in (collected_same ∙ f.0, hands_same ∙ f.1);
      })
      (λ t. let f = r.seats k u t.1 in record { used = f.used; alone = f.alone; sees = λ is. longer (f.sees is); lives = f.lives; hand = f.hand })
      (at_set s.views id k w u e))
      (λ wt. let a = total_set (λ (z : View J A). total wt z.answers) s.views id v w at in let b = total_set (λ (z : View J A). total wt z.collected) s.views id v w at in
      let e = ap (total wt) answers_same in let f = ap (total wt) collected_same in omega arith)
      (let a = total_set (λ (z : View J A). z.live) s.views id v w at in let b = total_set (λ (z : View J A). z.hands) s.views id v w at in let o = r.handed in omega arith)
