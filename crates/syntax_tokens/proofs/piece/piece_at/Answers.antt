use Rattle.std.proofs.Common.{◌≡◌, ℕ, List, ◌∷◌, subst}
use Rattle.std.specs.Str.{IsAscii}
use Rattle.std.proofs.lemmas.Str.{IsAscii-drop}
use Rattle.syntax_tokens.proofs.piece.piece_at.Goals as goal

ascii_rest : (b : ℕ) (bs whole : List ℕ) → whole ≡ b ∷ bs → IsAscii whole → IsAscii bs
ascii_rest b bs whole is h = IsAscii-drop (b ∷ bs) 1 (subst IsAscii is h)

pub string_at-requires : goal.string_at-requires
string_at-requires c = ascii_rest c.in_ok-first.first.now c.in_ok-first.rest.now c.args.bytes.now c.in_ok-first.ensures.cases.0 c.requires
