-- A list of choices, one more.
use Rattle.std.proofs.Common.{◌≡◌, ◌⊎◌, inl, inr, ℕ, ◌+◌, ◌-◌, ◌<◌, ◌≤◌, nat_lt, List, [], ◌∷◌, ◌++◌, Bool, true, false, Err, refl, sym, ◌∙◌, ap, subst, arith, length}
use Rattle.std.specs.Result.{IsErrOf}
use Rattle.engine_semantics.specs.Value.{In, first, AllDiffer}
use Rattle.engine_semantics.specs.Choices as choices
use Rattle.keys.specs.Jobs.{Outcome}
use Rattle.keys.specs.declared.key.Key.{Key}
use Rattle.node.specs.Graphs.{GraphView}
use Rattle.round_nodes.proofs.Settlings.{in_map}
use Rattle.round_nodes.specs.Nodes.{IsOpen}
use Rattle.round_nodes.specs.TurnCounts.{HasMade}
use Rattle.round.specs.Playing.{turn_keys, AreOutTurns, IsPlaying, HasHanded, CountsIf}
use Rattle.round.specs.Replays.{choice_view, newest_after, hands, hand_of}
use Rattle.round.specs.declared.choice.Choice.{Choice}
use Rattle.round.specs.Rounds.{RoundView, round_view, IsStalled}
use Rattle.round.specs.declared.rounds.Round.{Round}

pub newest_snoc : (earlier : List (choices.Choice Key)) (made : List Choice) (c : Choice) → newest_after earlier (made ++ c ∷ []) ≡ choice_view c ∷ newest_after earlier made
newest_snoc earlier [] c = refl
newest_snoc earlier (x ∷ made) c = newest_snoc (choice_view x ∷ earlier) made c

pub hands_snoc : (made : List Choice) (c : Choice) → hands (made ++ c ∷ []) ≡ hands made + hand_of c
hands_snoc [] c = let z : hand_of c + 0 ≡ 0 + hand_of c = omega arith in z
hands_snoc (x ∷ made) c = let h = hands_snoc made c in omega (arith, h)

-- no turn is out where no job is
pub none_out : (graph : GraphView) (s : RoundView) (turns : List Outcome) → turns ≡ [] → s.out ≡ [] → AreOutTurns graph s turns
none_out graph s turns e o = record {
  each = λ t i. elim (subst (λ (xs : List Outcome). In t xs) e i) [ ];
  all = λ k i. elim (subst (λ (xs : List Key). In k xs) o i) [ ];
  differ = subst (λ (xs : List Outcome). AllDiffer (turn_keys xs)) (sym e) tt;
}

-- where a round is not at a stall, a node is open
pub one_open : {R S : Type 0} (graph : GraphView) (round : Round R S) (turns : List Outcome) → IsPlaying graph round turns → (IsStalled (round_view round) → ⊥) → (k : Key) × IsOpen round.table.nodes k
one_open graph round turns p n = go round.table.ready.keys refl round.out refl
  where
    go : (ready : List Key) → round.table.ready.keys ≡ ready → (out : List Key) → round.out ≡ out → (k : Key) × IsOpen round.table.nodes k
    go [] e [] f = absurd (n (e, f))
    go (k ∷ ks) e out f = let y = p.0.0.whole.ready_now k (subst (λ (xs : List Key). In k xs) (sym e) first) in (k, (y.0, y.1))
    go [] e (k ∷ ks) f =
        let x = in_map (λ (t : Outcome). t.asked.key) turns (p.1.all k (subst (λ (xs : List Key). In k xs) (sym f) first)) in
        let o = p.1.each x.0 x.1 in
        (x.0.asked.key, (o.node, o.there))

-- where no job is out, no turn is
pub no_turns : {R S : Type 0} (graph : GraphView) (round : Round R S) (turns : List Outcome) → IsPlaying graph round turns → (round_view round).out ≡ [] → turns ≡ []
no_turns graph round turns p none = go turns refl
  where
    go : (ts : List Outcome) → turns ≡ ts → turns ≡ []
    go [] e = e
    go (t ∷ ts) e =
        let o = p.1.each t (subst (λ (xs : List Outcome). In t xs) (sym e) first) in
        elim (subst (λ (xs : List Key). In t.asked.key xs) none (p.0.0.only_out t.asked.key o.node o.there o.out)) [ ]

-- where no turn is out, the round has counted all that were handed out
pub all_back : {R S : Type 0} (round : Round R S) (turns : List Outcome) (handed : ℕ) → turns ≡ [] → HasHanded round turns handed → HasMade round.table handed
all_back round turns handed e h =
    let l : length turns ≡ 0 = ap length e in
    let s = h.2 in
    let same : h.0 ≡ handed = omega (arith, s, l) in
    subst (HasMade round.table) same h.1

-- before the first choice
pub none_handed : {R S : Type 0} (round : Round R S) (turns : List Outcome) → turns ≡ [] → HasMade round.table 0 → HasHanded round turns 0
none_handed round turns e m = let l : length turns ≡ 0 = ap length e in let s : 0 + length turns ≡ 0 = omega (arith, l) in (0, m, s)

-- the count of turns, one choice more
pub counted_on : (went : Bool) (more old new before now base : ℕ) → went ≡ true → CountsIf went more old new → old ≡ base + before → now ≡ before + more → new ≡ base + now
counted_on true more old new before now base t c o n = let d : new ≡ old + more = c in omega (arith, d, o, n)
counted_on false more old new before now base t c o n = cc

counted_here : (went : Bool) (more old new : ℕ) → went ≡ false → CountsIf went more old new → new ≡ old
counted_here true more old new f c = cc
counted_here false more old new f c = c

-- no choice more
pub counted_still : (went : Bool) (more old new before base : ℕ) → went ≡ false → CountsIf went more old new → old ≡ base + before → new ≡ base + before
counted_still went more old new before base f c o = counted_here went more old new f c ∙ o

-- what is left and what was made are the budget
pub within_left : (left made budget : ℕ) → left + made ≡ budget → made ≤ budget
within_left left made budget s = omega (arith, s)

-- where nothing is left, the budget is spent
pub none_left : (left made budget : ℕ) → left ≡ 0 → left + made ≡ budget → made ≡ budget
none_left left made budget e s = omega (arith, e, s)

-- a number below the next one is this one, or below it
pub below_next : (m n : ℕ) → m < n + 1 → (m < n) ⊎ (m ≡ n)
below_next m n h = go (nat_lt m n) refl
  where
    go : (b : Bool) → nat_lt m n ≡ b → (m < n) ⊎ (m ≡ n)
    go true e = inl (grind (arith, e))
    go false e = inr (grind (arith, e, h))

-- one choice more
pub one_spent : (left hand before later more budget : ℕ) → hand ≡ more → more ≤ left → later ≡ before + more → left + before ≡ budget → left - hand + later ≡ budget
one_spent left hand before later more budget h l e s = omega (arith, h, l, e, s)

-- an error is the same whatever else the answer could be
pub err_of : {T U E : Type 0} (stop e : E) → IsErrOf {T = T} (Err stop) e → IsErrOf {T = U} (Err stop) e
err_of {T} {U} {E} stop e q = let same : stop ≡ e = of_path q in subst (λ (x : E). IsErrOf {T = U} (Err x) e) (sym same) refl
  where
    of_path : IsErrOf {T = T} (Err stop) e → stop ≡ e
    of_path h = cc
