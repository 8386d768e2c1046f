-- Blocks are the same bytes exactly where their texts, and their targets, are equal.
use Rattle.std.proofs.Common.{◌≡◌, ℕ, Bool, true, false, nat_eq, List, refl, sym, ◌∙◌, ap}
use Rattle.std.specs.Bool.{Decides}
use Rattle.std.specs.Cmp.Lexicographic.{pointwise}
use lib.Pointwise.{pointwise_decides, bytes_decides}
use Rattle.values_modules.specs.Equal.{text_eq, target_eq}
use Rattle.values_modules.specs.EqualLaws.{targets_decide}
use Rattle.values_modules.specs.Blocks.{block_bytes, texts_in}
use Rattle.values_modules.specs.Encoding.{target_texts, targets_in}

same_test : {P Q : Type 0} (b c : Bool) → Decides b P → Decides c Q → (P → Q) → (Q → P) → b ≡ c
same_test true true p q f g = refl
same_test true false p q f g = sym (q.1 (f (p.0 refl)))
same_test false true p q f g = p.1 (g (q.0 refl))
same_test false false p q f g = refl

pub same_texts : (a b : List ℕ) → a ≡ block_bytes (texts_in a) → b ≡ block_bytes (texts_in b) → pointwise nat_eq a b ≡ pointwise text_eq (texts_in a) (texts_in b)
same_texts a b v w =
    same_test (pointwise nat_eq a b) (pointwise text_eq (texts_in a) (texts_in b)) (bytes_decides a b) (pointwise_decides bytes_decides (texts_in a) (texts_in b)) (λ e. ap texts_in e) (λ e. v ∙ ap block_bytes e ∙ sym w)

pub same_targets : (a b : List (List ℕ)) → a ≡ target_texts (targets_in a) → b ≡ target_texts (targets_in b) → pointwise text_eq a b ≡ pointwise target_eq (targets_in a) (targets_in b)
same_targets a b v w =
    same_test (pointwise text_eq a b) (pointwise target_eq (targets_in a) (targets_in b)) (pointwise_decides bytes_decides a b) (pointwise_decides targets_decide (targets_in a) (targets_in b)) (λ e. ap targets_in e) (λ e. v ∙ ap target_texts e ∙ sym w)
