-- Tokens written one after the other.
use Rattle.std.proofs.Common.{◌≡◌, List, ◌++◌, ap, ◌∙◌, append_assoc}
use Rattle.json.specs.Token.{Token}

-- more, after what was written
pub then : (x y z a b : List Token) → y ≡ x ++ a → z ≡ y ++ b → z ≡ x ++ (a ++ b)
then x y z a b p q = q ∙ ap (λ ts. ts ++ b) p ∙ append_assoc x a b
