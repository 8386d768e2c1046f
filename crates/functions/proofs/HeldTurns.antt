-- Turns that continue from a kept evaluation, and what a turn keeps.
use Rattle.std.proofs.Common.{◌≡◌, ℕ, List, ◌++◌, length, take, drop, None, Some, ◌∙◌, ap, sym, subst, arith, length-append, append_assoc}
use Rattle.std.specs.Arc.{arc_value}
use Rattle.std.specs.Global.{Box}
use Rattle.std.specs.declared.sync.Arc.{Arc}
use Rattle.std.specs.declared.alloc.Global.{Global}
use Rattle.std.proofs.Math.Seq.{take-append_seam}
use Rattle.std.proofs.lemmas.List.{length-map, take-append-drop}
use Rattle.keys.specs.Turns.{values, IsTurn}
use Rattle.keys.specs.declared.key.Key.{Key}
use Rattle.keys.specs.declared.rules.Turn.TheVariants as turn
use Rattle.keys.specs.declared.value.Value.{Value}
use Rattle.std.specs.declared.vec.Vec.{Vec}
use Rattle.functions.specs.declared.loading.ResumePoint.{ResumePoint}
use Rattle.functions.specs.declared.reply.Continuation.{Continuation}
use Rattle.functions.specs.declared.reply.FileTurn.TheVariants as reply
use Rattle.functions.specs.Goes.{table_of, Follows, GoesOn, IsMade}
use Rattle.functions.specs.NodeStates.{IsHeld, fits}
use Rattle.functions.specs.Next.{next}

-- what is kept continues by the answers after those that it has taken
pub held_on : (held : ResumePoint) (k : Key) (answers : List Value) → IsHeld held k answers → Follows (next k) answers (table_of held.continuation) (drop held.taken answers)
held_on held k answers h = λ more.
    ap (λ l. next k (l ++ more)) (sym (take-append-drop held.taken answers)) ∙ ap (next k) (append_assoc (take held.taken answers) (drop held.taken answers) more)
    ∙ h.is.goes (drop held.taken answers ++ more)

-- what waits after all answers is kept from there
pub holds_from : (taken : ℕ) (continuation : Continuation) (k : Key) (answers more : List Value) → taken ≡ length answers → GoesOn (next k) answers continuation
    → IsHeld (record { taken = taken; continuation = continuation }) k (answers ++ more)
holds_from taken continuation k answers more size h = record {
  within = omega (arith, size, length-append answers more);
  is = subst (λ l. GoesOn (next k) l continuation) (sym (ap (λ n. take n (answers ++ more)) size ∙ take-append_seam answers more)) h;
}

module _ (k own : Key) (answers : List (Arc Value Global)) (same : own ≡ k) where
  -- a group that is asked for with nothing kept
  pub asks_plainly : (group : Vec Key Global) → IsMade (next k) (values answers) (reply.Ask group) → IsTurn fits next k (values answers) (turn.Ask (record { key = own; resume_point = None }) group)
  asks_plainly group h = (h, λ more. (same, tt))

  -- a group that is asked for with something kept
  pub asks_holding : (group : Vec Key Global) (continuation : Continuation) (taken : ℕ) (held : Box ResumePoint) → held.value ≡ record { taken = taken; continuation = continuation } → taken ≡ length answers
      → IsMade (next k) (values answers) (reply.Wait group continuation) → IsTurn fits next k (values answers) (turn.Ask (record { key = own; resume_point = Some held }) group)
  asks_holding group continuation taken held is size h =
      let many : length (values answers) ≡ length answers = length-map answers (λ (x : Arc Value Global). arc_value x) in
      (h.0, λ more. (same, subst (λ it. IsHeld it k (values answers ++ more)) (sym is) (holds_from taken continuation k (values answers) more (size ∙ sym many) h.1)))
