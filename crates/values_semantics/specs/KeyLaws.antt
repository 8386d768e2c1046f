-- Equal parts are one part, and equal keys are one key.
use Rattle.std.proofs.Common.{◌==◌, ◌≡◌, List, Bool, true, false, refl, ap}
use Rattle.std.specs.Bool.{Decides, beq}
use Rattle.std.specs.Cmp.{IsEquivalence, decided, signed_Decides, unsigned_Decides}
use Rattle.std.specs.Hash as fed
use lib.Pointwise.{pointwise, pointwise_decides, bytes_decides}
use Rattle.values_semantics.specs.declared.key.Part.{Part}
use Rattle.values_semantics.specs.declared.key.Part.TheVariants as p
use Rattle.values_semantics.specs.Keys.{same_part, same_key}
use Rattle.values_semantics.specs.HashInput.{text_fed, part_fed}

beq_Decides : (a b : Bool) → Decides (beq a b) (a ≡ b)
beq_Decides true true = (λ h. refl, λ h. refl)
beq_Decides true false = (λ h. cc, λ h. cc)
beq_Decides false true = (λ h. cc, λ h. cc)
beq_Decides false false = (λ h. refl, λ h. refl)

pub parts_decide : (a b : Part) → Decides (same_part a b) (a ≡ b)
parts_decide p.Nothing p.Nothing = (λ h. refl, λ h. refl)
parts_decide (p.Bool a) (p.Bool b) = (λ h. ap p.Bool ((beq_Decides a b).0 h), λ e. (beq_Decides a b).1 (cc))
parts_decide (p.Int a) (p.Int b) = (λ h. ap p.Int ((signed_Decides a b).0 h), λ e. (signed_Decides a b).1 (cc))
parts_decide (p.Text a) (p.Text b) = (λ h. ap p.Text ((bytes_decides a b).0 h), λ e. (bytes_decides a b).1 (cc))
parts_decide (p.Tuple a) (p.Tuple b) = (λ h. ap p.Tuple ((unsigned_Decides a b).0 h), λ e. (unsigned_Decides a b).1 (cc))
parts_decide a b = (λ h. cc, λ h. cc)

pub parts_equiv : IsEquivalence same_part
parts_equiv = decided same_part parts_decide

pub keys_decide : (a b : List Part) → Decides (same_key a b) (a ≡ b)
keys_decide = pointwise_decides parts_decide

pub keys_equiv : IsEquivalence same_key
keys_equiv = decided same_key keys_decide

pub parts_alike : fed.Alike same_part part_fed
parts_alike = fed.same_Alike part_fed parts_decide

pub keys_alike : fed.Alike same_key (fed.slice part_fed)
keys_alike = fed.items_Alike parts_alike

pub texts_alike : fed.Alike (pointwise ◌==◌) text_fed
texts_alike = fed.same_Alike text_fed bytes_decides
