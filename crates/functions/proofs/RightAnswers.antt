-- Answers to globs that are right, and further right ones.
use Rattle.std.proofs.Common.{◌≡◌, ℕ, List, [], ◌∷◌, Bool, true, false, cond, ◌||◌, Some, refl, sym, ap, ◌∙◌}
use Rattle.std.specs.Prelude.{is_some}
use Rattle.std.specs.List.{AllByRecursion}
use lib.Pointwise.{bytes_decides}
use Rattle.values_semantics.specs.Comparing.{same_text}
use Rattle.evaluator_semantics.specs.Environment.{Answers}
use Rattle.evaluator_semantics.specs.Globs.{answer_to, queries_without_result}
use Rattle.evaluator_semantics.specs.Laws.{KnowsMore}

same_option : {A : Type 0} {x y z : A} → Some x ≡ Some y → x ≡ z → y ≡ z
same_option e h = cc

-- with each pattern of these answered
pub HasAll : List (List ℕ) → Answers → Type 0
HasAll ps answers = AllByRecursion (λ p. is_some (answer_to p answers) ≡ true) ps

module _ (found : List ℕ → List (List ℕ)) where
  -- each answer is what its pattern finds
  abbrev pub Right : Answers → Type 0
  Right answers = (p : List ℕ) (below : List (List ℕ)) → answer_to p answers ≡ Some below → below ≡ found p

  pub none_right : Right []
  none_right p below e = absurd cc

  one_right : (p : List ℕ) (answers : Answers) → Right answers → Right ((p, found p) ∷ answers)
  one_right p answers h q below e = go (same_text q p) refl e
    where
      go : (b : Bool) → same_text q p ≡ b → cond b (Some (found p)) (answer_to q answers) ≡ Some below → below ≡ found q
      go true s e = same_option e (ap found (sym ((bytes_decides q p).0 s)))
      go false s e = h q below e

  one_known : (p : List ℕ) (answers : Answers) → Right answers → KnowsMore answers ((p, found p) ∷ answers)
  one_known p answers h q paths e = go (same_text q p) refl
    where
      go : (b : Bool) → same_text q p ≡ b → cond b (Some (found p)) (answer_to q answers) ≡ Some paths
      go true s = ap (λ (xs : List (List ℕ)). Some xs) (ap found (sym ((bytes_decides q p).0 s)) ∙ sym (h q paths e))
      go false s = e

  -- the patterns answered before the answers that are there
  abbrev pub with_found : List (List ℕ) → Answers → Answers
  with_found [] answers = answers
  with_found (p ∷ ps) answers = (p, found p) ∷ with_found ps answers

  pub all_right : (ps : List (List ℕ)) (answers : Answers) → Right answers → Right (with_found ps answers)
  all_right [] answers h = h
  all_right (p ∷ ps) answers h = one_right p (with_found ps answers) (all_right ps answers h)

  pub all_known : (ps : List (List ℕ)) (answers : Answers) → Right answers → KnowsMore answers (with_found ps answers)
  all_known [] answers h = λ q paths e. e
  all_known (p ∷ ps) answers h = λ q paths e. one_known p (with_found ps answers) (all_right ps answers h) q paths (all_known ps answers h q paths e)

  own_answer : (p : List ℕ) (answers : Answers) → is_some (answer_to p ((p, found p) ∷ answers)) ≡ true
  own_answer p answers = ap (λ b. is_some (cond b (Some (found p)) (answer_to p answers))) ((bytes_decides p p).1 refl)

  still : (q p : List ℕ) (answers : Answers) → is_some (answer_to q answers) ≡ true → is_some (answer_to q ((p, found p) ∷ answers)) ≡ true
  still q p answers h = go (same_text q p)
    where
      go : (b : Bool) → is_some (cond b (Some (found p)) (answer_to q answers)) ≡ true
      go true = refl
      go false = h

  all_still : (qs : List (List ℕ)) (p : List ℕ) (answers : Answers) → HasAll qs answers → HasAll qs ((p, found p) ∷ answers)
  unfolding HasAll
  all_still [] p answers h = tt
  all_still (q ∷ qs) p answers h = (still q p answers h.0, all_still qs p answers h.1)

  pub all_answered : (ps : List (List ℕ)) (answers : Answers) → HasAll ps (with_found ps answers)
  unfolding HasAll
  all_answered [] answers = tt
  all_answered (p ∷ ps) answers = (own_answer p (with_found ps answers), all_still ps p (with_found ps answers) (all_answered ps answers))

-- where each is answered, none is asked for
pub none_left : (ps : List (List ℕ)) (answers : Answers) → HasAll ps answers → queries_without_result answers [] ps ≡ []
unfolding HasAll
none_left [] answers h = refl
none_left (p ∷ ps) answers h = ap (λ b. cond (b || false) (queries_without_result answers [] ps) (p ∷ queries_without_result answers (p ∷ []) ps)) h.0 ∙ none_left ps answers h.1
