-- The keys of frozen tuples.
use Rattle.std.proofs.Common.{◌≡◌, ℕ, suc, List, [], ◌∷◌, ◌++◌, length, map, refl, sym, ap, ◌∙◌, append_assoc}
use Rattle.values_semantics.specs.declared.key.Part.{Part}
use Rattle.values_semantics.specs.declared.key.Part.TheVariants as p
use Rattle.values_semantics.specs.Freezing.{tuple, how_many, frozen_key, frozen_keys}
use Rattle.values_freeze.specs.declared.frozen.Frozen.{Frozen}
use Rattle.values_freeze.specs.View.{frozen_of, members_of}

pub how_many_members : (fs : List Frozen) → how_many (members_of (map frozen_of fs)) ≡ length fs
how_many_members [] = refl
how_many_members (f ∷ fs) = ap suc (how_many_members fs)

-- a tuple's key is the number of its members, and then their keys
pub tuple_keyed : (old pushed new : List Part) (fs : List Frozen) (n : ℕ) → pushed ≡ old ++ p.Tuple n ∷ [] → n ≡ length fs → new ≡ pushed ++ frozen_keys (members_of (map frozen_of fs)) → new ≡ old ++ frozen_key (tuple (members_of (map frozen_of fs)))
tuple_keyed old pushed new fs n e count h =
    h ∙ (ap (λ l. l ++ frozen_keys (members_of (map frozen_of fs))) e ∙ (append_assoc old (p.Tuple n ∷ []) (frozen_keys (members_of (map frozen_of fs)))
    ∙ ap (λ m. old ++ (p.Tuple m ∷ frozen_keys (members_of (map frozen_of fs)))) (count ∙ sym (how_many_members fs))))
