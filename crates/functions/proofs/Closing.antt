-- Pieces of an evaluation that, by enough right answers, wait for no glob.
use Rattle.std.proofs.Common.{◌≡◌, ℕ, List, [], ◌∷◌, Bool, true, false, refl, sym, ap, subst, ◌∙◌}
use Rattle.std.specs.Prelude.{if◌then◌else◌}
use Rattle.syntax_grammar.specs.declared.kind.FileKind.{FileKind}
use Rattle.syntax_grammar.specs.declared.kind.FileKind.TheVariants as k
use Rattle.values_semantics.specs.declared.val.Val.{Val}
use Rattle.values_semantics.specs.Functions.{the_items}
use Rattle.evaluator_semantics.specs.World.{World, Here, Ends, ended, failed, waits, Runs, then_runs, on_heap}
use Rattle.evaluator_semantics.specs.Environment.{Answers}
use Rattle.evaluator_semantics.specs.Laws.{KnowsMore}
use Rattle.evaluator_semantics.specs.Loops.{Collection, gather, over, locks, unlocks}
use Rattle.evaluator_semantics.specs.Packages.{if_build}
use Rattle.evaluator_semantics.proofs.Quiet.{DoesNotWait, Quiet, ends_quiet, fails_quiet, heap_quiet, then_quiet}
use Rattle.functions.proofs.RightAnswers.{Right}

module _ (found : List ℕ → List (List ℕ)) where
  -- right answers that know more than these, by which a piece waits for nothing
  pub record Enough {A : Type 0} (m : Answers → Ends A) (a : Answers) : Type 0 where
    pub answers : Answers
    pub right : Right found answers
    pub knows : KnowsMore a answers
    pub ends : DoesNotWait (m answers)

  -- A piece with two properties: some right answers suffice for it, and by more answers than suffice it ends the same.
  pub record Closes {A : Type 0} (m : Answers → Ends A) : Type 0 where
    pub stays : (a b : Answers) → KnowsMore a b → DoesNotWait (m a) → m b ≡ m a
    pub closes : (a : Answers) → Right found a → Enough m a

  -- wherever it begins
  abbrev pub Closing : {A : Type 0} → (Answers → Runs A) → Type 0
  Closing m = (w : World) → Closes (λ a. m a w)

  -- a piece that looks at no answer, and waits for none
  pub same : {A : Type 0} (e : Ends A) → Quiet e → Closes (λ a. e)
  same e q = record {
    stays = λ a b more done. refl;
    closes = λ a right. record { answers = a; right = right; knows = λ p paths e. e; ends = q.at };
  }

  module _ {A B : Type 0} {m : Answers → Ends A} {k : Answers → A → Runs B} (first : Closes m) (rest : (x : A) (w : World) → Closes (λ a. k a x w)) where
    both_stay : (a b : Answers) → KnowsMore a b → (e f : Ends A) → (DoesNotWait e → f ≡ e) → DoesNotWait (then_runs e (k a)) → then_runs f (k b) ≡ then_runs e (k a)
    both_stay a b more (ended x w) f same done = ap (λ e. then_runs e (k b)) (same tt) ∙ (rest x w).stays a b more done
    both_stay a b more (failed c s) f same done = ap (λ e. then_runs e (k b)) (same tt)
    both_stay a b more (waits ps) f same done = absurd done

    both_close : (a : Answers) (one : Enough m a) (e : Ends A) → m one.answers ≡ e → Enough (λ a. then_runs (m a) (k a)) a
    both_close a one (ended x w) same =
        let two = (rest x w).closes one.answers one.right in
        let later : m two.answers ≡ ended x w = first.stays one.answers two.answers two.knows one.ends ∙ same in
        record {
          answers = two.answers;
          right = two.right;
          knows = λ p paths e. two.knows p paths (one.knows p paths e);
          ends = subst (λ (e : Ends A). DoesNotWait (then_runs e (k two.answers))) (sym later) two.ends;
        }
    both_close a one (failed c s) same =
        record { answers = one.answers; right = one.right; knows = one.knows; ends = subst (λ (e : Ends A). DoesNotWait (then_runs e (k one.answers))) (sym same) tt }
    both_close a one (waits ps) same = absurd (subst (λ (e : Ends A). DoesNotWait e) same one.ends)

    -- one piece after another
    pub both : Closes (λ a. then_runs (m a) (k a))
    both = record {
      stays = λ a b more done. both_stay a b more (m a) (m b) (first.stays a b more) done;
      closes = λ a right. let one = first.closes a right in both_close a one (m one.answers) refl;
    }

  -- where the first piece looks at no answer
  pub after : {A B : Type 0} (e : Ends A) → Quiet e → {k : Answers → A → Runs B} → ((x : A) (w : World) → Closes (λ a. k a x w)) → Closes (λ a. then_runs e (k a))
  after e q h = both (same e q) h

  pub choose : {A : Type 0} (b : Bool) (m n : Answers → Runs A) (w : World) → Closes (λ a. m a w) → Closes (λ a. n a w) → Closes (λ a. (if b then m a else n a) w)
  choose true m n w p q = p
  choose false m n w p q = q

  pub by_kind : (kind : FileKind) (here : Here) (m : Answers → Runs Val) (w : World) → Closes (λ a. m a w) → Closes (λ a. if_build kind here (m a) w)
  by_kind k.Build here m w p = p
  by_kind k.Bzl here m w p = same _ (fails_quiet 23 here.site)

  pub going_over : {A : Type 0} (x : Val) (here : Here) {m : Answers → List Val → Runs A} → ((xs : List Val) → Closing (λ a. m a xs)) → Closing (λ a. over x (m a) here)
  going_over x here p w =
      after (on_heap here (the_items x) w) (heap_quiet here (the_items x) w) λ xs u.
      after (on_heap here (locks x) u) (heap_quiet here (locks x) u) λ _ v.
      both (p xs v) λ y z. same _ (then_quiet (on_heap here (unlocks x) z) _ (heap_quiet here (unlocks x) z) λ _ s. ends_quiet y s)

  pub gathering : (m : Answers → Val → Collection → Runs Collection) → ((x : Val) (g : Collection) → Closing (λ a. m a x g)) → (xs : List Val) (g : Collection) → Closing (λ a. gather (m a) xs g)
  gathering m p [] g w = same _ (ends_quiet g w)
  gathering m p (x ∷ xs) g w = both (p x g w) λ h u. gathering m p xs h u
