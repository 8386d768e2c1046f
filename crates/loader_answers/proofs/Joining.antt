-- The line that replies with packages.
use Rattle.std.proofs.Common.{◌≡◌, false, List, [], ◌∷◌, ◌++◌, refl, codes}
use Rattle.serde_json.specs.Data.{Data}
use Rattle.serde_json.specs.View.{items_of}
use Rattle.json.specs.Print.{escape_byte}
use Rattle.serde_json.specs.Written.{compact_text, items_text}
use Rattle.loader_replies.specs.Answers.{packages_data}

-- the beginning of the line, and the rest of the array
pub line_begins : (ds : List Data) → compact_text (packages_data ds) ≡ codes "{\"packages\":[" ++ (items_text false (items_of ds) ++ 125 ∷ [])
unfolding escape_byte
line_begins ds = refl
