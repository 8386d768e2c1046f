-- What the host keeps as it hands jobs out and takes turns back.
use Rattle.std.proofs.Common.{◌≡◌, ◌≢◌, ⊎_elim, ℕ, zero, suc, ◌+◌, ◌-◌, ◌<◌, List, [], ◌∷◌, ◌++◌, length, set, replicate, Option, Some, None, refl, sym, ◌∙◌, ap, subst, arith, length-set}
use mathlib.Core.Option.{some, some-injective, some-ne-none}
use mathlib.Core.Logic.{dite}
use native.Mathlib.Decide.{ℕ_discrete}
use lib.ListN.{get_elem?}
use Rattle.atomic_table.proofs.Lists.{set_here, set_else}
use Rattle.board.specs.Places.{opened, AllOut, IsLeft, Leaves, count_in, weight_in, Looked, HasPosted, HasCollected}
use Rattle.board.specs.Rule.{total}
use Rattle.board.specs.declared.view.View.{View}
use Rattle.board.proofs.Looks.{looked_same, looked_by_same}
use Rattle.board.specs.declared.view.Entry.{Entry}
use Rattle.board.proofs.Moves.{total_set, total_snoc, below}
use Rattle.board.proofs.Taking.{there}
use Rattle.engine_semantics.specs.Value.{In}
use Rattle.keys.specs.Jobs.{JobView, Outcome, Made, turns_made}
use Rattle.keys.specs.declared.key.Key.{Key}
use Rattle.node.specs.Graphs.{GraphView}
use Rattle.node.proofs.Lists.{some_is, none_some, not_in}
use Rattle.round_nodes.specs.TurnCounts.{HasMade}
use Rattle.round_nodes.specs.Nodes.{node_at}
use Rattle.round_nodes.specs.declared.table.Node.{Node}
use Rattle.round_nodes.specs.declared.table.Phase.TheVariants as phase
use Rattle.round.specs.Here.{IsResting}
use Rattle.round.specs.Rounds.{round_view, AgreesWith, IsStalled, IsOfJobOut, HandsOut, TakesBack, KeepsJobs, KeepsAllJobs}
use Rattle.round.specs.Turning.{IsOutWith}
use Rattle.round.specs.declared.rounds.Round.{Round}
use Rattle.pool.specs.Serving.{made_in, one_out, jobs_out, IsSameHost, IsShutOnly, IsServing}

-- where a job is out at each place, as many are out as there are places
all_count : (l : List (Option JobView)) → ((p : ℕ) → p < length l → (job : JobView) × (get_elem? l p ≡ some (Some job))) → total one_out l ≡ length l
all_count [] f = refl
all_count (x ∷ xs) f = let here = f 0 (omega arith) in let one : one_out x ≡ 1 = ap one_out (some-injective x (Some here.0) here.1) in
    let more = all_count xs (λ p d. f (suc p) (omega (arith, d))) in omega arith

pub has_room : (v : View JobView Outcome) (n : ℕ) → length v.out ≡ n → jobs_out v < n → AllOut n v → ⊥
has_room v n long room all = let c = all_count v.out (λ p d. all p (omega (arith, d, long))) in omega (arith, c, long, room)

-- where none is out, none is at any place
none_at : (l : List (Option JobView)) → total one_out l ≡ 0 → (p : ℕ) (job : JobView) → get_elem? l p ≡ some (Some job) → ⊥
none_at [] z p job e = some-ne-none (Some job) (sym e)
none_at (x ∷ xs) z zero job e = let one : one_out x ≡ 1 = ap one_out (some-injective x (Some job) e) in absurd (omega (arith, one, z))
none_at (x ∷ xs) z (suc p) job e = none_at xs (omega (arith, z)) p job e

none_in : (xs : List Key) → ((k : Key) → In k xs → ⊥) → xs ≡ []
none_in [] f = refl
none_in (x ∷ xs) f = absurd (f x here)
  where
    here : In x (x ∷ xs)
    here = Rattle.engine_semantics.specs.Value.first

not_both : (n : Node) → n.phase ≡ phase.Running → n.phase ≡ phase.Out → ⊥
not_both n a b = no (sym a ∙ b)
  where
    no : phase.Running ≡ phase.Out → ⊥
    no e = cc

module _ {R S : Type 0} where
  -- with no job out and none ready the round is stalled
  pub is_stalled : (graph : GraphView) (round : Round R S) (v : View JobView Outcome) (roots : List Key) (own places hands out handed : ℕ) → IsServing graph round v roots own places hands out handed → out ≡ 0
      → (round_view round).table.ready.keys ≡ [] → IsStalled (round_view round)
  is_stalled graph round v roots own places hands out handed s none ready =
      (ready, none_in (round_view round).out (λ k i. let at = s.posted k i in none_at v.out (s.counted ∙ none) at.0 at.1 at.2))

  -- a key that is ready has no job out
  ready_not_out : (graph : GraphView) (round : Round R S) (key : Key) (other : JobView) → AgreesWith graph round → In key (round_view round).table.ready.keys → IsOfJobOut graph (round_view round) other → key ≡ other.key → ⊥
  ready_not_out graph round key other beside i o e = let n = beside.0.whole.ready_now key i in
      not_both o.node (subst (λ (m : Node). m.phase ≡ phase.Running) (some_is (sym n.1 ∙ ap (node_at round.table.nodes) e ∙ o.there)) n.2) o.out

  -- a job was handed out and posted
  pub given : (n cleared : ℕ) (graph : GraphView) (before later : Round R S) (v w : View JobView Outcome) (p : ℕ) (job : JobView) (key : Key) → AgreesWith graph later → KeepsAllJobs graph (round_view before) (round_view later)
      → HandsOut graph key (round_view before) (round_view later) (Some job) → HasPosted n cleared v p job w
      → (roots : List Key) (own places hands out handed : ℕ) → IsServing graph before v roots own places hands out handed → IsServing graph later w roots own places hands (out + 1) (handed + 1)
  given n cleared graph before later v w p job key beside others h did roots own places hands out handed s =
      let u = did.1.0 in let same = looked_by_same _ 0 did.1.1.0 v u did.1.1.3 in let was : get_elem? v.out p ≡ some None = did.0 in
      let out_is : w.out ≡ set v.out p (Some job) = ap (λ (z : View JobView Outcome). z.out) did.1.2 ∙ ap (λ (l : List (Option JobView)). set l p (Some job)) same.0 in
      let here : get_elem? w.out p ≡ some (Some job) = ap (λ (l : List (Option JobView)). get_elem? l p) out_is ∙ set_here v.out p (Some job) (below v.out p None was) in
      let before_at : (q : ℕ) → q ≢ p → (found : JobView) → get_elem? w.out q ≡ some (Some found) → get_elem? v.out q ≡ some (Some found) =
      (λ q ne found e. sym (set_else v.out p q (Some job) ne) ∙ (ap (λ (l : List (Option JobView)). get_elem? l q) (sym out_is) ∙ e)) in
      let collected : w.collected ≡ v.collected = ap (λ (z : View JobView Outcome). z.collected) did.1.2 ∙ same.2 in
      record {
        beside = beside;
        same_roots = h.4 ∙ s.same_roots;
        made = subst (HasMade later.table) (ap (λ (l : List Outcome). own + made_in l) (sym collected)) (h.5 (own + made_in v.collected) s.made);
        posted = λ k i. ⊎_elim
            (λ old. let at = s.posted k old in
            (at.0, at.1, ap (λ (l : List (Option JobView)). get_elem? l at.0) out_is ∙ (set_else v.out p at.0 (Some job) (λ e. none_some (some-injective None (Some at.1) (sym was ∙ (ap (get_elem? v.out) (sym e) ∙ at.2)))) ∙ at.2), at.3))
            (λ new. (p, job, here, h.1 ∙ new))
            (h.3.from k i);
        sized = ap length out_is ∙ (length-set v.out p (Some job) ∙ s.sized);
        staffed = ap (λ (z : View JobView Outcome). z.hands) did.1.2 ∙ (same.3 ∙ s.staffed);
        none_answered = ap (λ (z : View JobView Outcome). z.answers) did.1.2 ∙ (same.1 ∙ s.none_answered);
        counted = let t = total_set one_out v.out p None (Some job) was in let a = ap (total one_out) out_is in let c = s.counted in omega (arith, t, a, c);
        handed_out = let a = ap made_in collected in let h = s.handed_out in omega (arith, a, h);
        known = λ q found e. dite (ℕ_discrete q p)
            (λ same_place. subst (IsOfJobOut graph (round_view later)) (some_is (some-injective (Some job) (Some found) (sym here ∙ (ap (get_elem? w.out) (sym same_place) ∙ e))))
            (subst (λ (k : Key). IsOutWith graph later.table k job.answers) (sym h.1) h.2))
            (λ ne. others found (s.known q found (before_at q ne found e)));
        apart = λ q r found other e f same_key. dite (ℕ_discrete q p)
            (λ q_here. dite (ℕ_discrete r p)
            (λ r_here. q_here ∙ sym r_here)
            (λ r_else. absurd (ready_not_out graph before key other s.beside h.0 (s.known r other (before_at r r_else other f))
            (sym h.1 ∙ (ap (λ (j : JobView). j.key) (some_is (some-injective (Some job) (Some found) (sym here ∙ (ap (get_elem? w.out) (sym q_here) ∙ e)))) ∙ same_key)))))
            (λ q_else. dite (ℕ_discrete r p)
            (λ r_here. absurd (ready_not_out graph before key found s.beside h.0 (s.known q found (before_at q q_else found e))
            (sym h.1 ∙ (ap (λ (j : JobView). j.key) (some_is (some-injective (Some job) (Some other) (sym here ∙ (ap (get_elem? w.out) (sym r_here) ∙ f)))) ∙ sym same_key))))
            (λ r_else. s.apart q r found other (before_at q q_else found e) (before_at r r_else other f) same_key));
      }

  -- a job was handed out, and the host made its turn and took it back
  pub made_here : (old new : GraphView) (before between later : Round R S) (v : View JobView Outcome) (job : JobView) (key : Key) → HandsOut old key (round_view before) (round_view between) (Some job)
      → KeepsAllJobs old (round_view before) (round_view between) → AgreesWith new later → KeepsJobs job.key old new (round_view between) (round_view later) → TakesBack (round_view between) (round_view later) job.key
      → (roots : List Key) (own places hands out handed : ℕ) → IsServing old before v roots own places hands out handed → IsServing new later v roots (own + 1) places hands out (handed + 1)
  made_here old new before between later v job key h kept beside others back roots own places hands out handed s = record {
    beside = beside;
    same_roots = back.0 ∙ (h.4 ∙ s.same_roots);
    made = subst (HasMade later.table) (omega arith) (back.2 (own + made_in v.collected) (h.5 (own + made_in v.collected) s.made));
    posted = λ k i. ⊎_elim (s.posted k) (λ same. absurd (back.1.gone (subst (λ (x : Key). In x (round_view later).out) (sym (h.1 ∙ same)) i))) (h.3.from k (back.1.from k i));
    sized = s.sized;
    staffed = s.staffed;
    none_answered = s.none_answered;
    counted = s.counted;
    handed_out = let e = s.handed_out in omega (arith, e);
    known = λ p other e. let was = s.known p other e in others other (λ same. ready_not_out old before key other s.beside h.0 was (sym h.1 ∙ same)) (kept other was);
    apart = s.apart;
  }

  -- nothing was collected
  pub looked_in_vain : (graph : GraphView) (round : Round R S) (v w : View JobView Outcome) (n : ℕ) → Looked 3 n v w
      → (roots : List Key) (own places hands out handed : ℕ) → IsServing graph round v roots own places hands out handed → IsServing graph round w roots own places hands out handed
  looked_in_vain graph round v w n did roots own places hands out handed s = let same = looked_same 3 n v w did in record {
    beside = s.beside;
    same_roots = s.same_roots;
    made = subst (HasMade round.table) (ap (λ (l : List Outcome). own + made_in l) (sym same.2)) s.made;
    posted = λ k i. let at = s.posted k i in (at.0, at.1, ap (λ (l : List (Option JobView)). get_elem? l at.0) same.0 ∙ at.2, at.3);
    sized = ap length same.0 ∙ s.sized;
    staffed = same.3 ∙ s.staffed;
    none_answered = same.1 ∙ s.none_answered;
    counted = ap (total one_out) same.0 ∙ s.counted;
    handed_out = let a = ap made_in same.2 in let h = s.handed_out in omega (arith, a, h);
    known = λ p job e. s.known p job (ap (λ (l : List (Option JobView)). get_elem? l p) (sym same.0) ∙ e);
    apart = λ p q job other e f. s.apart p q job other (ap (λ (l : List (Option JobView)). get_elem? l p) (sym same.0) ∙ e) (ap (λ (l : List (Option JobView)). get_elem? l q) (sym same.0) ∙ f);
  }

  -- a turn was collected and taken back
  pub taken : (old new : GraphView) (before later : Round R S) (v w : View JobView Outcome) (p : ℕ) (turn : Outcome) → AgreesWith new later → KeepsJobs turn.asked.key old new (round_view before) (round_view later)
      → TakesBack (round_view before) (round_view later) turn.asked.key → turn.ending ≡ Made → HasCollected (λ t. t.asked) v p turn w
      → (roots : List Key) (own places hands out handed : ℕ) → IsServing old before v roots own places hands out handed → IsServing new later w roots own places hands (out - 1) handed × (0 < out)
  taken old new before later v w p turn beside others back made did roots own places hands out handed s =
      let u = did.1.0 in let same = looked_same 3 p v u did.1.1 in let was : get_elem? v.out p ≡ some (Some turn.asked) = did.0 in
      let out_is : w.out ≡ set v.out p None = ap (λ (z : View JobView Outcome). z.out) did.1.2 ∙ ap (λ (l : List (Option JobView)). set l p None) same.0 in
      let collected : w.collected ≡ v.collected ++ turn ∷ [] = ap (λ (z : View JobView Outcome). z.collected) did.1.2 ∙ ap (λ (l : List Outcome). l ++ turn ∷ []) same.2 in
      let gone : get_elem? w.out p ≡ some None = ap (λ (l : List (Option JobView)). get_elem? l p) out_is ∙ set_here v.out p None (below v.out p (Some turn.asked) was) in
      let not_here : (q : ℕ) (job : JobView) → get_elem? w.out q ≡ some (Some job) → q ≡ p → ⊥ = (λ q job e same_place. none_some (some-injective None (Some job) (sym gone ∙ (ap (get_elem? w.out) (sym same_place) ∙ e)))) in
      let before_at : (q : ℕ) (job : JobView) → get_elem? w.out q ≡ some (Some job) → get_elem? v.out q ≡ some (Some job) =
      (λ q job e. sym (set_else v.out p q None (λ same_place. not_here q job e same_place)) ∙ (ap (λ (l : List (Option JobView)). get_elem? l q) (sym out_is) ∙ e)) in
      let one : made_in v.collected + 1 ≡ made_in w.collected =
      (let a = ap made_in collected in let b = total_snoc (λ (t : Outcome). turns_made t.ending) v.collected turn in let c = ap turns_made made in omega (arith, a, b, c)) in
      let t = total_set one_out v.out p (Some turn.asked) None was in let a = ap (total one_out) out_is in let c = s.counted in (
        record {
          beside = beside;
          same_roots = back.0 ∙ s.same_roots;
          made = subst (HasMade later.table) (omega (arith, one)) (back.2 (own + made_in v.collected) s.made);
          posted = λ k i. let at = s.posted k (back.1.from k i) in (
            at.0,
            at.1,
            ap (λ (l : List (Option JobView)). get_elem? l at.0) out_is
                ∙ (set_else v.out p at.0 None (λ e. back.1.gone (subst (λ (x : Key). In x (round_view later).out) (sym at.3 ∙ ap (λ (j : JobView). j.key) (some_is (some-injective (Some at.1) (Some turn.asked) (sym at.2 ∙ (ap (get_elem? v.out) e ∙ was))))) i)) ∙ at.2),
            at.3,
          );
          sized = ap length out_is ∙ (length-set v.out p None ∙ s.sized);
          staffed = ap (λ (z : View JobView Outcome). z.hands) did.1.2 ∙ (same.3 ∙ s.staffed);
          none_answered = ap (λ (z : View JobView Outcome). z.answers) did.1.2 ∙ (same.1 ∙ s.none_answered);
          counted = omega (arith, t, a, c);
          handed_out = let h = s.handed_out in omega (arith, one, h, t, a, c);
          known = λ q job e. let old_q = before_at q job e in
              others job (λ same_key. not_here q job e (sym (s.apart p q turn.asked job was old_q same_key))) (s.known q job old_q);
          apart = λ q r job other e f. s.apart q r job other (before_at q job e) (before_at r other f);
        },
        omega (arith, t, a, c),
      )

rep_none : (n : ℕ) → total one_out (replicate n None) ≡ 0
rep_none zero = refl
rep_none (suc n) = let more = rep_none n in omega arith

pub rep_long : {X : Type 0} (n : ℕ) (x : X) → length (replicate n x) ≡ n
rep_long zero x = refl
rep_long (suc n) x = ap suc (rep_long n x)

-- a round of which the first turns were made, with a new board
pub begins : {R S : Type 0} (graph : GraphView) (round : Round R S) (v : View JobView Outcome) (roots : List Key) (first n : ℕ) → v ≡ opened n v.hands
    → IsResting graph round roots first → IsServing graph round v roots first n v.hands 0 first
begins graph round v roots first n new rests =
    let out : v.out ≡ replicate n None = ap (λ (z : View JobView Outcome). z.out) new in let collected : v.collected ≡ [] = ap (λ (z : View JobView Outcome). z.collected) new in
    let none : made_in v.collected ≡ 0 = ap made_in collected in
    record {
      beside = rests.beside;
      same_roots = rests.same_roots;
      made = subst (HasMade round.table) (omega (arith, none)) rests.made;
      posted = λ k i. absurd (not_in i rests.none_out);
      sized = ap length out ∙ rep_long n None;
      staffed = refl;
      none_answered = ap (λ (z : View JobView Outcome). z.answers) new;
      counted = ap (total one_out) out ∙ rep_none n;
      handed_out = omega (arith, none);
      known = λ p job e. absurd (none_at v.out (ap (total one_out) out ∙ rep_none n) p job e);
      apart = λ p q job other e f same. absurd (none_at v.out (ap (total one_out) out ∙ rep_none n) p job e);
    }

all_none : (wt : Outcome → ℕ) (items : List (Option (Entry JobView Outcome))) → ((p : ℕ) (x : Option (Entry JobView Outcome)) → get_elem? items p ≡ some x → x ≡ None) → total (weight_in wt) items ≡ 0
all_none wt [] f = refl
all_none wt (x ∷ xs) f = let e : weight_in {J = JobView} wt x ≡ 0 = ap (weight_in wt) (f 0 x refl) in let more = all_none wt xs (λ p. f (suc p)) in omega arith

-- where no job is out, nothing is left on the board
pub none_left : (wt : Outcome → ℕ) (v : View JobView Outcome) (items : List (Option (Entry JobView Outcome))) → jobs_out v ≡ 0 → length v.out ≡ length items → IsLeft (λ t. t.asked) v items → total (weight_in wt) items ≡ 0
none_left wt v items z long left = all_none wt items (λ p x e. let near = below items p x e in let o = there v.out p (omega (arith, near, long)) in go p x e o.0 o.1)
  where
    go : (p : ℕ) (x : Option (Entry JobView Outcome)) → get_elem? items p ≡ some x → (o : Option JobView) → get_elem? v.out p ≡ some o → x ≡ None
    go p x e (Some job) at = absurd (none_at v.out z p job at)
    go p x e None at = let l = left p None at in some-injective x l.0 (sym e ∙ l.1) ∙ l.2

-- as many are left on the board as are out
total_same : {X Y : Type 0} (f : X → ℕ) (g : Y → ℕ) (xs : List X) (ys : List Y) → length xs ≡ length ys
    → ((p : ℕ) (x : X) (y : Y) → get_elem? xs p ≡ some x → get_elem? ys p ≡ some y → f x ≡ g y) → total f xs ≡ total g ys
total_same f g [] [] e h = refl
total_same f g [] (y ∷ ys) e h = absurd (omega (arith, e))
total_same f g (x ∷ xs) [] e h = absurd (omega (arith, e))
total_same f g (x ∷ xs) (y ∷ ys) e h = let one = h 0 x y refl refl in let more = total_same f g xs ys (omega (arith, e)) (λ p. h (suc p)) in omega arith

left_one : (o : Option JobView) (x : Option (Entry JobView Outcome)) → Leaves (λ t. t.asked) o x → count_in x ≡ one_out o
left_one None x l = ap count_in l
left_one (Some job) x l = ⊎_elim (λ e. ap count_in e) (λ t. ap count_in t.2) l

pub all_left : (v : View JobView Outcome) (items : List (Option (Entry JobView Outcome))) → length v.out ≡ length items → IsLeft (λ t. t.asked) v items → total count_in items ≡ jobs_out v
all_left v items long left = total_same count_in one_out items v.out (sym long)
    (λ p x o e f. let l = left p o f in left_one o x (subst (Leaves (λ t. t.asked) o) (sym (some-injective x l.0 (sym e ∙ l.1))) l.2))

-- a host that posted, looked in vain or collected has as many places and hands
pub posted_same : (n cleared : ℕ) (v w : View JobView Outcome) (p : ℕ) (job : JobView) → HasPosted n cleared v p job w → IsSameHost v w
posted_same n cleared v w p job did = let u = did.1.0 in let same = looked_by_same _ 0 did.1.1.0 v u did.1.1.3 in (
  ap (λ (z : View JobView Outcome). length z.out) did.1.2 ∙ (length-set u.out p (Some job) ∙ ap length same.0),
  ap (λ (z : View JobView Outcome). z.hands) did.1.2 ∙ same.3,
  ap (λ (z : View JobView Outcome). z.answers) did.1.2 ∙ same.1,
)

pub vain_same : (v w : View JobView Outcome) (n : ℕ) → Looked 3 n v w → IsSameHost v w
vain_same v w n did = let same = looked_same 3 n v w did in (ap length same.0, same.3, same.1)

pub collected_same : (v w : View JobView Outcome) (p : ℕ) (turn : Outcome) → HasCollected (λ t. t.asked) v p turn w → IsSameHost v w
collected_same v w p turn did = let u = did.1.0 in let same = looked_same 3 p v u did.1.1 in (
  ap (λ (z : View JobView Outcome). length z.out) did.1.2 ∙ (length-set u.out p None ∙ ap length same.0),
  ap (λ (z : View JobView Outcome). z.hands) did.1.2 ∙ same.3,
  ap (λ (z : View JobView Outcome). z.answers) did.1.2 ∙ same.1,
)

pub same_then : (u v w : View JobView Outcome) → IsSameHost u v → IsSameHost v w → IsSameHost u w
same_then u v w a b = (b.0 ∙ a.0, b.1 ∙ a.1, b.2 ∙ a.2)

pub shut_same : (v w : View JobView Outcome) → IsShutOnly v w → IsSameHost v w
shut_same v w a = (ap length a.0, a.1, a.2)

-- a host that did nothing but shut the board
pub serves_shut : {R S : Type 0} (graph : GraphView) (round : Round R S) (v w : View JobView Outcome) → IsShutOnly v w
    → (roots : List Key) (own places hands out handed : ℕ) → IsServing graph round v roots own places hands out handed → IsServing graph round w roots own places hands out handed
serves_shut graph round v w same roots own places hands out handed s = record {
  beside = s.beside;
  same_roots = s.same_roots;
  made = subst (HasMade round.table) (ap (λ (l : List Outcome). own + made_in l) (sym same.3)) s.made;
  posted = λ k i. let at = s.posted k i in (at.0, at.1, ap (λ (l : List (Option JobView)). get_elem? l at.0) same.0 ∙ at.2, at.3);
  sized = ap length same.0 ∙ s.sized;
  staffed = same.1 ∙ s.staffed;
  none_answered = same.2 ∙ s.none_answered;
  counted = ap (total one_out) same.0 ∙ s.counted;
  handed_out = let a = ap made_in same.3 in let h = s.handed_out in omega (arith, a, h);
  known = λ p job e. s.known p job (ap (λ (l : List (Option JobView)). get_elem? l p) (sym same.0) ∙ e);
  apart = λ p q job other e f. s.apart p q job other (ap (λ (l : List (Option JobView)). get_elem? l p) (sym same.0) ∙ e) (ap (λ (l : List (Option JobView)). get_elem? l q) (sym same.0) ∙ f);
}
