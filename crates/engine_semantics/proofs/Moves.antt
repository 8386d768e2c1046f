-- A state stays true of the choices where one key changes.
use Rattle.std.proofs.Common.{◌≡◌, ◌≢◌, ◌⊎◌, inl, inr, ℕ, suc, true, false, List, ◌∷◌, Option, Some, None, refl, sym, subst, arith}
use Rattle.engine_semantics.specs.Choices.{Choice, Hand, Back, Backs, nothing, back, other, IsOut, handed, still}
use Rattle.engine_semantics.specs.States.{HasBacks}

-- of k, two lists of choices tell the same
pub record TellsAlike {K : Type 0} (k : K) (cs new : List (Choice K)) : Type 0 where
  pub backs : (n : ℕ) → Backs k n cs → Backs k n new
  pub backs_before : (n : ℕ) → Backs k n new → Backs k n cs
  pub out : IsOut k cs → IsOut k new
  pub out_before : IsOut k new → IsOut k cs

pub alike : {K : Type 0} (k : K) (cs : List (Choice K)) → TellsAlike k cs cs
alike k cs = record { backs = λ n b. b; backs_before = λ n b. b; out = λ o. o; out_before = λ o. o }

pub alike_hand : {K : Type 0} {k j : K} {cs : List (Choice K)} → k ≢ j → TellsAlike k cs (Hand j ∷ cs)
alike_hand {K} {k} {j} {cs} d = record { backs = λ n b. other b; backs_before = before; out = λ o. still (λ e. cc) o; out_before = out_before }
  where
    before : (n : ℕ) → Backs k n (Hand j ∷ cs) → Backs k n cs
    before n nothing = nothing
    before n (other b) = b

    out_go : {c : Choice K} {ds : List (Choice K)} → IsOut k (c ∷ ds) → c ≡ Hand j → IsOut k ds
    out_go handed e = absurd (d (cc))
    out_go (still n o) e = o

    out_before : IsOut k (Hand j ∷ cs) → IsOut k cs
    out_before o = out_go o refl

pub alike_back : {K : Type 0} {k j : K} {cs : List (Choice K)} → k ≢ j → TellsAlike k cs (Back j ∷ cs)
alike_back {K} {k} {j} {cs} d = record { backs = λ n b. other b; backs_before = λ n b. before b refl; out = λ o. still (λ e. d (cc)) o; out_before = λ o. out_go o refl }
  where
    before : {n : ℕ} {c : Choice K} {ds : List (Choice K)} → Backs k n (c ∷ ds) → c ≡ Back j → Backs k n ds
    before nothing e = nothing
    before (back b) e = absurd (d (cc))
    before (other b) e = b

    out_go : {c : Choice K} {ds : List (Choice K)} → IsOut k (c ∷ ds) → c ≡ Back j → IsOut k ds
    out_go handed e = cc
    out_go (still n o) e = o

-- of k itself
pub has_hand : {K : Type 0} {k : K} {n : ℕ} {cs : List (Choice K)} → HasBacks k n cs → HasBacks k n (Hand k ∷ cs)
has_hand {K} {k} {n} {cs} h = record { taken = other h.taken; no_more = λ b. h.no_more (before b refl) }
  where
    before : {m : ℕ} {c : Choice K} {ds : List (Choice K)} → Backs k m (c ∷ ds) → c ≡ Hand k → Backs k m ds
    before nothing e = nothing
    before (back b) e = cc
    before (other b) e = b

pub has_back : {K : Type 0} {k : K} {n : ℕ} {cs : List (Choice K)} → HasBacks k n cs → HasBacks k (suc n) (Back k ∷ cs)
has_back {K} {k} {n} {cs} h = record { taken = back h.taken; no_more = λ b. h.no_more (before b refl refl) }
  where
    lower : {m i : ℕ} {ds : List (Choice K)} → Backs k m ds → m ≡ suc i → Backs k i ds
    lower nothing e = absurd (omega arith)
    lower {i = i} (back {n = x} {cs = ds} b) e = let q : x ≡ i = omega arith in other (subst (λ (y : ℕ). Backs k y ds) q b)
    lower (other b) e = other (lower b e)

    before : {m i : ℕ} {c : Choice K} {ds : List (Choice K)} → Backs k m (c ∷ ds) → c ≡ Back k → m ≡ suc i → Backs k i ds
    before nothing h e = absurd (omega arith)
    before {i = i} {ds = ds} (back {n = x} b) h e = let q : x ≡ i = omega arith in subst (λ (y : ℕ). Backs k y ds) q b
    before (other b) h e = lower b e

pub not_out_back : {K : Type 0} {k : K} {cs : List (Choice K)} → ¬ IsOut k (Back k ∷ cs)
not_out_back {K} {k} {cs} o = go o refl
  where
    go : {c : Choice K} {ds : List (Choice K)} → IsOut k (c ∷ ds) → c ≡ Back k → ⊥
    go handed e = cc
    go (still n o) e = n e
