-- A written text without a backslash stands for itself.
use Rattle.std.proofs.Common.{◌≡◌, ℕ, List, [], ◌∷◌, Bool, true, false, refl, ap}
use Rattle.std.specs.Prelude.{◌==◌, ◌||◌}
use Rattle.syntax_tokens.specs.Escapes.{has_escape}
use Rattle.syntax_tokens.specs.Strings.{unescaped}

one_more : (b : ℕ) (bs : List ℕ) (e : Bool) → (b == 92) ≡ e → (e || has_escape bs) ≡ false → (has_escape bs ≡ false → unescaped bs ≡ bs) → unescaped (b ∷ bs) ≡ b ∷ bs
one_more b bs true is h more = cc
one_more b bs false is h more = rw is (ap (λ xs. b ∷ xs) (more h))

pub as_written : (bs : List ℕ) → has_escape bs ≡ false → unescaped bs ≡ bs
as_written [] h = refl
as_written (b ∷ bs) h = one_more b bs (b == 92) refl h (as_written bs)
