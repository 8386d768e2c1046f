-- Strings that are text.
use Rattle.std.proofs.Common.{◌≡◌, ℕ, List, ap, sym, ◌∙◌}
use Rattle.std.specs.Prelude.{IsUtf8}
use Rattle.std.specs.Str.Lossy.{utf8_lossy}
use Rattle.std.proofs.lemmas.Str.{utf8_lossy-IsUtf8}

pub as_text : (text slice bytes : List ℕ) → (text ≡ slice) × IsUtf8 slice → slice ≡ bytes → text ≡ utf8_lossy bytes
as_text text slice bytes h same = h.0 ∙ sym (utf8_lossy-IsUtf8 slice h.1) ∙ ap utf8_lossy same
