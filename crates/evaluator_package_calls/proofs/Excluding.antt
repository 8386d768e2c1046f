-- The paths that are kept where two tests agree.
use Rattle.std.proofs.Common.{◌≡◌, ◌∙◌, ℕ, Bool, cond, not, List, [], ◌∷◌, ap, refl}
use Rattle.evaluator_package_calls.specs.GlobResults.{kept_unless}

-- tests that agree keep the same paths
pub kept_alike : (p q : List ℕ → Bool) → ((path : List ℕ) → p path ≡ q path) → (paths : List (List ℕ)) → kept_unless p paths ≡ kept_unless q paths
kept_alike p q alike [] = refl
kept_alike p q alike (path ∷ paths) =
    ap (λ t. cond (not t) (path ∷ kept_unless p paths) (kept_unless p paths)) (alike path)
    ∙ ap (λ (kept : List (List ℕ)). cond (not (q path)) (path ∷ kept) kept) (kept_alike p q alike paths)
