-- What the texts of keys determine, for keys whose directories and patterns have no space.
use Rattle.std.specs.Prelude.{◌≡◌}
use Rattle.std.specs.Ordering.{nat_cmp, on, then_cmp}
use Rattle.std.specs.Cmp.Lexicographic.{slice_cmp}
use Rattle.keys.specs.Keys.{kind, key_name, key_text, key_cmp, IsReadable}
use Rattle.keys.specs.declared.key.Key.{Key}

-- keys with equal texts are equal keys
abbrev pub TextsTellApart : Type 0
TextsTellApart = (a b : Key) → IsReadable a → IsReadable b → key_text a ≡ key_text b → a ≡ b

-- keys are ordered by kind, and then by the bytes that are after the kind's word
abbrev pub AreInOrderOfTexts : Type 0
AreInOrderOfTexts = (a b : Key) → IsReadable a → IsReadable b → key_cmp a b ≡ then_cmp (on kind nat_cmp) (on key_name (slice_cmp nat_cmp)) a b
