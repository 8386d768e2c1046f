-- Pieces of two evaluations of which the second ends as the first does, or the first waits for answers that it has not.
use Rattle.std.proofs.Common.{◌≡◌, ℕ, List, [], ◌∷◌, Bool, true, false, refl, sym, ap, subst}
use Rattle.std.specs.Prelude.{if◌then◌else◌}
use Rattle.syntax_grammar.specs.declared.kind.FileKind.{FileKind}
use Rattle.syntax_grammar.specs.declared.kind.FileKind.TheVariants as k
use Rattle.values_semantics.specs.declared.val.Val.{Val}
use Rattle.evaluator_semantics.specs.World.{World, Here, Ends, ended, failed, waits, Runs, then_runs, on_heap}
use Rattle.values_semantics.specs.Functions.{the_items}
use Rattle.evaluator_semantics.specs.Loops.{Collection, gather, over, locks, unlocks}
use Rattle.evaluator_semantics.specs.Packages.{if_build}
use Rattle.evaluator_semantics.proofs.Quiet.{DoesNotWait, Quiet, ends_quiet, fails_quiet, heap_quiet, then_quiet}

-- what is said of the patterns that a piece waits for
abbrev pub Asks : Type 1
Asks = List (List ℕ) → Type 0

abbrev pub AtMost : {A : Type 0} → Asks → Ends A → Ends A → Type 0
AtMost Q (ended a w) e = e ≡ ended a w
AtMost Q (failed c s) e = e ≡ failed c s
AtMost Q (waits ps) e = Q ps

pub record Below {A : Type 0} (Q : Asks) (e f : Ends A) : Type 0 where
  pub at : AtMost Q e f

at_most_itself : {A : Type 0} (Q : Asks) (e : Ends A) → DoesNotWait e → AtMost Q e e
at_most_itself Q (ended a w) q = refl
at_most_itself Q (failed c s) q = refl
at_most_itself Q (waits ps) q = absurd q

pub same : {A : Type 0} {Q : Asks} (e : Ends A) → Quiet e → Below Q e e
same {Q = Q} e q = record { at = at_most_itself Q e q.at }

pub waiting : {A : Type 0} {Q : Asks} (ps : List (List ℕ)) (f : Ends A) → Q ps → Below Q (waits ps) f
waiting ps f h = record { at = h }

then_at_most : {A B : Type 0} (Q : Asks) (k l : A → Runs B) → ((a : A) (w : World) → Below Q (k a w) (l a w)) → (e f : Ends A) → AtMost Q e f → AtMost Q (then_runs e k) (then_runs f l)
then_at_most Q k l h (ended a w) f p = subst (λ x. AtMost Q (k a w) (then_runs x l)) (sym p) (h a w).at
then_at_most Q k l h (failed c s) f p = ap (λ x. then_runs x l) p
then_at_most Q k l h (waits ps) f p = p

-- one piece after another
pub both : {A B : Type 0} {Q : Asks} {e f : Ends A} {k l : A → Runs B} → Below Q e f → ((a : A) (w : World) → Below Q (k a w) (l a w)) → Below Q (then_runs e k) (then_runs f l)
both {Q = Q} {e = e} {f = f} {k = k} {l = l} p h = record { at = then_at_most Q k l h e f p.at }

-- where the first piece is the same
pub after : {A B : Type 0} {Q : Asks} (e : Ends A) → Quiet e → {k l : A → Runs B} → ((a : A) (w : World) → Below Q (k a w) (l a w)) → Below Q (then_runs e k) (then_runs e l)
after e q h = both (same e q) h

pub choose : {A : Type 0} {Q : Asks} (b : Bool) (m n i j : Runs A) (w : World) → Below Q (m w) (n w) → Below Q (i w) (j w) → Below Q ((if b then m else i) w) ((if b then n else j) w)
choose true m n i j w p q = p
choose false m n i j w p q = q

pub by_kind : {Q : Asks} (kind : FileKind) (here : Here) (m n : Runs Val) (w : World) → (kind ≡ k.Build → Below Q (m w) (n w)) → Below Q (if_build kind here m w) (if_build kind here n w)
by_kind k.Build here m n w p = p refl
by_kind k.Bzl here m n w p = same _ (fails_quiet 23 here.site)

pub going_over : {A : Type 0} {Q : Asks} (x : Val) (here : Here) {m n : List Val → Runs A} → ((xs : List Val) (w : World) → Below Q (m xs w) (n xs w)) → (w : World) → Below Q (over x m here w) (over x n here w)
going_over x here p w = after (on_heap here (the_items x) w) (heap_quiet here (the_items x) w) λ xs u. after (on_heap here (locks x) u) (heap_quiet here (locks x) u) λ _ v. both (p xs v) λ a z. same _ (then_quiet (on_heap here (unlocks x) z) _ (heap_quiet here (unlocks x) z) λ _ s. ends_quiet a s)

pub gathering : {Q : Asks} (m n : Val → Collection → Runs Collection) → ((x : Val) (g : Collection) (w : World) → Below Q (m x g w) (n x g w)) → (xs : List Val) (g : Collection) (w : World) → Below Q (gather m xs g w) (gather n xs g w)
gathering m n p [] g w = same _ (ends_quiet g w)
gathering m n p (x ∷ xs) g w = both (p x g w) λ h u. gathering m n p xs h u
