-- How an evaluation by workers ends.
use Rattle.std.proofs.Common.{◌≡◌, ℕ, suc, List, [], ◌∷◌, All, Option, Result, Ok, Err, refl, sym, ◌∙◌, ap, subst, arith}
use Rattle.std.specs.Prelude.{IfOk, IfErr, IsErrOf, IsErr, IsErrAnd, OnOk}
use Rattle.std.specs.declared.alloc.Global.{Global}
use Rattle.std.specs.declared.vec.Vec.{Vec}
use Rattle.atomic_table.specs.Seated.{TableId}
use Rattle.board.specs.Places.{IsHandAtRest, IsNewHand, IsNewHost, opened}
use Rattle.board.specs.Rule.{total}
use Rattle.board.specs.declared.board.Hand.{Hand}
use Rattle.board.specs.declared.board.Host.{Host}
use Rattle.engine_semantics.specs.Reply.{Reply}
use Rattle.keys.specs.declared.key.Key.{Key}
use Rattle.keys.specs.declared.value.Value.{Value}
use Rattle.node.specs.Graphs.{GraphView}
use Rattle.pool.specs.Evaluations.{HasCounted, HasEnded}
use Rattle.pool.specs.Serving.{made_in}
use Rattle.pool.specs.declared.context.Evaluation.{Evaluation}
use Rattle.pool.specs.declared.host_state.HostState.{HostState}
use Rattle.round.specs.Call.{Calls}
use Rattle.round.specs.Rounds.{round_view}
use Rattle.round_nodes.specs.declared.run.Run.{Run}
use Rattle.round.specs.declared.stop.Stop.{Stop}
use Rattle.round.specs.declared.stop.Stop.TheVariants as stop
use Rattle.base_types.specs.Refusals.{memory}
use Rattle.base_types.specs.declared.memory.Memory.{Memory}

-- the stop of what ended with one
abbrev stop_of : {T : Type 0} → Result T Stop → Stop
stop_of (Ok x) = stop.Memory memory
stop_of (Err e) = e

differ : (m : Memory) → stop.Memory m ≡ stop.Budget → ⊥
differ m e = cc

pub memory_is_not_budget : {T : Type 0} {m : Memory} → IsErrOf {T = T} (Err (stop.Memory m)) stop.Budget → ⊥
memory_is_not_budget {m = m} e = differ m (ap stop_of e)

-- what ended well did not stop
pub no_stop : {T : Type 0} {x : T} {s : Stop} → IsErrOf (Ok x) s → ⊥
no_stop e = cc

-- what ended with an error did not end well
pub not_ok : {T E : Type 0} (P : Type 0) (r : Result T E) → IsErr r → OnOk r P
not_ok P (Ok x) e = cc
not_ok P (Err e) f = tt

pub same_stop : {T U : Type 0} (e s : Stop) → IsErrOf {T = T} (Err e) s → IsErrOf {T = U} (Err e) s
same_stop e s p = ap Err (ap stop_of p)

pub if_ok : {T E : Type 0} {P Q : T → Type 0} (r : Result T E) → ((x : T) → P x → Q x) → IfOk r P → IfOk r Q
if_ok (Ok x) f p = f x p
if_ok (Err e) f p = tt

pub if_err : {T E : Type 0} {P Q : E → Type 0} (r : Result T E) → ((x : E) → P x → Q x) → IfErr r P → IfErr r Q
if_err (Ok x) f p = tt
if_err (Err e) f p = f e p

pub on_ok : {T E P Q : Type 0} (r : Result T E) → (P → Q) → OnOk r P → OnOk r Q
on_ok (Ok x) f p = f p
on_ok (Err e) f p = tt

-- what is true of these roots and this graph
pub moved : (P : List Key → GraphView → Type 0) (roots other : List Key) (old entry : GraphView) → other ≡ roots → entry ≡ old → P other entry → P roots old
moved P roots other old entry same at p = subst (λ rs. P rs old) same (subst (P other) at p)

-- an evaluation that ended since an allocation failed
pub ended_for_memory : {R S T : Type 0} (next : Key → List Value → Reply Key Value) (read : Key → Option Value) (evaluation : Evaluation R S) (graph : GraphView) (budget : ℕ) (r : Result T Stop) (runs_in : T → List Run)
    → IsErr r × IsErrAnd r (λ e. e ≡ stop.Memory memory) → Calls next read (round_view evaluation.round).roots evaluation.before.value graph (Err stop.Budget) → HasEnded next read evaluation graph budget r runs_in
ended_for_memory next read evaluation graph budget (Ok x) runs_in f h = absurd f.1
ended_for_memory next read evaluation graph budget (Err e) runs_in f h = record {
  law = tt;
  within = tt;
  stopped = h;
  open_root = λ b. absurd (differ memory (sym f.1 ∙ ap stop_of b));
  spent = λ b. absurd (differ memory (sym f.1 ∙ ap stop_of b));
}

pub counted_for_memory : {R S : Type 0} (budget : ℕ) (state : HostState R S) (r : Result (Vec Run Global) Stop) → IsErr r × IsErrAnd r (λ e. e ≡ stop.Memory memory) → HasCounted budget state r
counted_for_memory budget state (Ok x) f = absurd f.1
counted_for_memory budget state (Err e) f = record { spent = λ b. absurd (differ memory (sym f.1 ∙ ap stop_of b)); done = tt; few = tt }

module _ {R S : Type 0} (id : TableId) where
  -- a new host has given out as many hands as it has counted
  pub own_hands : (host : Host R S) (places hands : ℕ) → IsNewHost id places hands host.seat → IsNewHost id places host.seat.me.0.hands host.seat
  own_hands host places hands new = (new.0, new.1 ∙ ap (λ n. (opened places n, [])) (sym (ap (λ m. m.0.hands) new.1)))

  -- hands that have done nothing yet are at rest, and have answered no turn
  pub all_rest : (hands : List (Hand R S)) → All (λ h. IsNewHand id h.seat) hands → All (λ h. IsHandAtRest id h.seat) hands
  all_rest hands new = λ k d l. let n = new k d l in (n.0, (ap (λ m. m.0.using) n.1, ap (λ m. m.1) n.1))

  pub none_made : (hands : List (Hand R S)) → All (λ h. IsNewHand id h.seat) hands → total (λ h. made_in h.seat.me.0.answers) hands ≡ 0
  none_made [] new = refl
  none_made (x ∷ xs) new = let here : made_in x.seat.me.0.answers ≡ 0 = ap (λ m. made_in m.0.answers) (new 0 x (omega arith)).1 in
      let more = none_made xs (λ k d l. new (suc k) d (omega (arith, l))) in omega (arith, here, more)
