-- Labels that are read for their text alone.
use Rattle.std.proofs.Common.{◌≡◌, ℕ, List, Option, Some, None, option_map, refl, ap}
use Rattle.std.specs.Option.{unwrap_or}
use Rattle.labels.specs.Labels.{Target, label_text}
use Rattle.values_semantics.specs.Outcome.{good, bad, then_checked, or_bad}

-- where a label is found, its text is good
pub spelled : (t : List ℕ) (found : Option Target) → option_map label_text found ≡ Some t → then_checked (or_bad 15 found) (λ l. good (label_text l)) ≡ good t
spelled t None h = cc
spelled t (Some l) h = ap (λ o. good (unwrap_or o t)) h

-- where none is found, that is fault 15
pub misspelled : (found : Option Target) → found ≡ None → then_checked (or_bad 15 found) (λ l. good (label_text l)) ≡ bad 15
misspelled None h = refl
misspelled (Some l) h = cc
