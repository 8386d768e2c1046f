-- The patterns of a call of `glob` that have no answer: they have none, and each occurs once.
use Rattle.std.proofs.Common.{◌≡◌, ◌≢◌, ℕ, List, [], ◌∷◌, Bool, true, false, refl, sym, subst}
use Rattle.std.specs.Prelude.{if◌then◌else◌, is_some, ◌||◌}
use Rattle.std.specs.List.{AllByRecursion}
use lib.Pointwise.{bytes_decides}
use Rattle.values_semantics.specs.Comparing.{same_text}
use Rattle.syntax_grammar.specs.declared.kind.FileKind.TheVariants as k
use Rattle.evaluator_semantics.specs.Names.{has_name}
use Rattle.evaluator_semantics.specs.Environment.{Env, Answers}
use Rattle.evaluator_semantics.specs.Globs.{answer_to, queries_without_result}
use Rattle.evaluator_semantics.specs.Laws.{AllDiffer, IsAsked}

all_weaker : {P Q : List ℕ → Type 0} → ((x : List ℕ) → P x → Q x) → (xs : List (List ℕ)) → AllByRecursion P xs → AllByRecursion Q xs
all_weaker f [] h = tt
all_weaker f (x ∷ xs) h = (f x h.0, all_weaker f xs h.1)

neither : (b c : Bool) → (b || c) ≡ false → (b ≡ false) × (c ≡ false)
neither true c e = cc
neither false c e = (refl, e)

none_answered : (answers : Answers) (seen ps : List (List ℕ)) → AllByRecursion (λ p. is_some (answer_to p answers) ≡ false) (queries_without_result answers seen ps)
none_answered answers seen [] = tt
none_answered answers seen (p ∷ ps) = go (is_some (answer_to p answers) || has_name p seen) refl (none_answered answers seen ps) (none_answered answers (p ∷ seen) ps)
  where
    Open : List ℕ → Type 0
    Open q = is_some (answer_to q answers) ≡ false

    go : (b : Bool) → (is_some (answer_to p answers) || has_name p seen) ≡ b → AllByRecursion Open (queries_without_result answers seen ps) → AllByRecursion Open (queries_without_result answers (p ∷ seen) ps)
        → AllByRecursion Open (if b then queries_without_result answers seen ps else p ∷ queries_without_result answers (p ∷ seen) ps)
    go true e h k = h
    go false e h k = ((neither _ _ e).0, k)

other_name : (p q : List ℕ) (seen : List (List ℕ)) (b : Bool) → same_text q p ≡ b → (if b then true else has_name q seen) ≡ false → (p ≢ q) × (has_name q seen ≡ false)
other_name p q seen true e h = cc
other_name p q seen false e h = ((λ same. let t : same_text q p ≡ true = (bytes_decides q p).1 (sym same) in cc), h)

none_seen : (answers : Answers) (seen ps : List (List ℕ)) → AllByRecursion (λ p. has_name p seen ≡ false) (queries_without_result answers seen ps)
none_seen answers seen [] = tt
none_seen answers seen (p ∷ ps) = go (is_some (answer_to p answers) || has_name p seen) refl (none_seen answers seen ps) (none_seen answers (p ∷ seen) ps)
  where
    go : (b : Bool) → (is_some (answer_to p answers) || has_name p seen) ≡ b → AllByRecursion (λ q. has_name q seen ≡ false) (queries_without_result answers seen ps)
        → AllByRecursion (λ q. has_name q (p ∷ seen) ≡ false) (queries_without_result answers (p ∷ seen) ps)
        → AllByRecursion (λ q. has_name q seen ≡ false) (if b then queries_without_result answers seen ps else p ∷ queries_without_result answers (p ∷ seen) ps)
    go true e h k = h
    go false e h k = ((neither _ _ e).1, all_weaker (λ q g. (other_name p q seen (same_text q p) refl g).1) (queries_without_result answers (p ∷ seen) ps) k)

all_differ : (answers : Answers) (seen ps : List (List ℕ)) → AllDiffer (queries_without_result answers seen ps)
all_differ answers seen [] = tt
all_differ answers seen (p ∷ ps) = go (is_some (answer_to p answers) || has_name p seen) (all_differ answers seen ps) (all_differ answers (p ∷ seen) ps)
  where
    go : (b : Bool) → AllDiffer (queries_without_result answers seen ps) → AllDiffer (queries_without_result answers (p ∷ seen) ps) → AllDiffer (if b then queries_without_result answers seen ps else p ∷ queries_without_result answers (p ∷ seen) ps)
    go true h k = h
    go false h k = (all_weaker (λ q g. (other_name p q seen (same_text q p) refl g).0) (queries_without_result answers (p ∷ seen) ps) (none_seen answers (p ∷ seen) ps), k)

-- where some pattern has no answer, in a BUILD file, these are asked for
pub asked : (env : Env) (ps : List (List ℕ)) (p : List ℕ) (rest : List (List ℕ)) → env.kind ≡ k.Build → queries_without_result env.globs [] ps ≡ p ∷ rest → IsAsked env (p ∷ rest)
asked env ps p rest b e = record {
  in_build = b;
  some = λ f. cc;
  unanswered = subst (λ xs. AllByRecursion (λ p. is_some (answer_to p env.globs) ≡ false) xs) e (none_answered env.globs [] ps);
  differ = subst AllDiffer e (all_differ env.globs [] ps);
}
