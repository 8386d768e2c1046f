-- A list that is made turn by turn, as its definition makes it.
use Rattle.std.proofs.Common.{◌≡◌, List, [], ◌∷◌, ◌++◌, refl, ap, sym, ◌∙◌, append_assoc}
use Rattle.std.proofs.lemmas.List.{append-nil}
use Rattle.values_semantics.specs.Outcome.{Out, Does, gives, faults, and_then}

-- what comes after the members that are there
abbrev pub behind : {S B : Type 0} → List B → Out S (List B) → Out S (List B)
behind done out = and_then out (λ ys. gives (done ++ ys))

-- a member, and then the others
abbrev pub turn : {S B : Type 0} → Out S B → Does S (List B) → Out S (List B)
turn first rest = and_then first (λ y s. and_then (rest s) (λ ys. gives (y ∷ ys)))

one_more : {S B : Type 0} (done : List B) (y : B) (out : Out S (List B)) → behind done (and_then out (λ ys. gives (y ∷ ys))) ≡ behind (done ++ y ∷ []) out
one_more done y (gives ys s) = ap (λ zs. gives zs s) (sym (append_assoc done (y ∷ []) ys))
one_more done y (faults c) = refl

-- a member that is made joins those that are there
pub made : {S B : Type 0} (done : List B) (first : Out S B) (rest : Does S (List B)) (y : B) (t : S) (whole : Out S (List B)) → behind done (turn first rest) ≡ whole → first ≡ gives y t → behind (done ++ y ∷ []) (rest t) ≡ whole
made done first rest y t whole h e = sym (one_more done y (rest t)) ∙ (sym (ap (λ o. behind done (turn o rest)) e) ∙ h)

-- where none is left, the members that are there are all
pub ended : {S B : Type 0} (done : List B) (s : S) (whole : Out S (List B)) → behind done (gives [] s) ≡ whole → whole ≡ gives done s
ended done s whole h = sym h ∙ ap (λ zs. gives zs s) (append-nil done)
