-- A text none of whose bytes is over 127.
use Rattle.std.proofs.Common.{◌≡◌, ℕ, suc, zero, ◌+◌, ◌<◌, ◌≤◌, Some, None, List, [], ◌∷◌, if◌then◌else◌, refl, sym, ap, ◌∙◌, arith}
use Rattle.std.specs.Prelude.{slice_index, ◌==◌}
use Rattle.std.specs.Str.{IsAscii}
use Rattle.std.proofs.lemmas.Bool.{le-ltb}
use Rattle.syntax_tokens.specs.Reading.{foreign}

pub is_ascii : (most : ℕ) (bytes : List ℕ) → ((k : ℕ) → slice_index bytes k ≤ most) → most < 128 → IsAscii bytes
is_ascii most bytes h m k = omega (arith, h k, m)

pub none_foreign : (most line : ℕ) (bytes : List ℕ) → ((k : ℕ) → slice_index bytes k ≤ most) → most < 128 → None ≡ foreign line bytes
none_foreign most line [] h m = refl
none_foreign most line (b ∷ bs) h m =
    none_foreign most (if b == 10 then line + 1 else line) bs (λ k. h (suc k)) m
    ∙ ap (λ t. if t then Some line else foreign (if b == 10 then line + 1 else line) bs) (sym (le-ltb 127 b (omega (arith, h zero, m))))
