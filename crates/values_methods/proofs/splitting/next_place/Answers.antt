use Rattle.std.proofs.Common.{◌≡◌, ◌-◌, ℕ, List, Some, None, length, take, drop, sym, subst, ◌∙◌, arith}
use Rattle.std.proofs.lemmas.List.{take_rest}
use Rattle.memchr.specs.Find.{FindsNeedle, Nowhere, OccursAt}
use Rattle.values_methods.proofs.Separators.{near_found, near_more, far_found, far_none}
use Rattle.values_methods.proofs.splitting.next_place.Goals as goal

pub returns-then-is_at : goal.returns-then-is_at
returns-then-is_at c = near_found c.args.old.now c.requires.some c.args.rest.now c.loop-at.at (omega (arith, c.loop-at-test.true, c.min-near.ensures)) (sym c.is_at.ensures ∙ c.if-is_at.true) c.loop-at.invariant

pub loop-at-preserved : goal.loop-at-preserved
loop-at-preserved c = near_more c.args.old.now c.requires.some c.args.rest.now c.loop-at.at (sym c.is_at.ensures ∙ c.if-is_at.false) c.loop-at.invariant

pub returns-in-Some : goal.returns-in-Some
returns-in-Some c =
    let rest = c.args.rest.now in
    let n = c.min-near.result in
    let same : c.loop-at.at ≡ n = omega (arith, c.loop-at.auto.at-end, c.loop-at-test.false) in
    let found = subst (λ (r : List ℕ). FindsNeedle r c.args.old.now 0 (Some c.in-Some.place)) (take_rest rest n) (subst (λ (s : List ℕ). FindsNeedle (take (length rest - n) (drop n rest)) s 0 (Some c.in-Some.place)) c.requires.same c.in-Some.ensures) in
    far_found c.args.old.now c.requires.some rest n c.in-Some.place (omega (arith, c.min-near.ensures)) (subst (λ (i : ℕ). Nowhere (OccursAt rest c.args.old.now) 0 i) same c.loop-at.invariant) found

pub returns-in-None : goal.returns-in-None
returns-in-None c =
    let rest = c.args.rest.now in
    let n = c.min-near.result in
    let same : c.loop-at.at ≡ n = omega (arith, c.loop-at.auto.at-end, c.loop-at-test.false) in
    let none = subst (λ (r : List ℕ). FindsNeedle r c.args.old.now 0 None) (take_rest rest n) (subst (λ (s : List ℕ). FindsNeedle (take (length rest - n) (drop n rest)) s 0 None) c.requires.same c.in-None.ensures) in
    far_none c.args.old.now c.requires.some rest n (omega (arith, c.min-near.ensures)) (subst (λ (i : ℕ). Nowhere (OccursAt rest c.args.old.now) 0 i) same c.loop-at.invariant) none
