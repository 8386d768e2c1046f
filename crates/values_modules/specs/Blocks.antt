-- Texts in one block of bytes, each with its length before it.
use Rattle.std.specs.Prelude.{ℕ, zero, suc, ◌+◌, ◌/◌, ◌%◌, ◌==◌, List, [], ◌∷◌, ◌++◌, length, take, drop, replicate, if◌then◌else◌}

-- a length: the byte 255 as often as 255 is in it, followed by the remainder
abbrev pub number_bytes : ℕ → List ℕ
number_bytes n = replicate (n / 255) 255 ++ n % 255 ∷ []

abbrev pub text_bytes : List ℕ → List ℕ
text_bytes text = number_bytes (length text) ++ text

abbrev pub block_bytes : List (List ℕ) → List ℕ
block_bytes [] = []
block_bytes (text ∷ texts) = text_bytes text ++ block_bytes texts

-- the length with which bytes begin
abbrev pub number_in : List ℕ → ℕ
number_in [] = 0
number_in (b ∷ bytes) = if b == 255 then 255 + number_in bytes else b

-- the bytes after it
abbrev pub after_number : List ℕ → List ℕ
after_number [] = []
after_number (b ∷ bytes) = if b == 255 then after_number bytes else bytes

-- the texts in at most this many bytes
abbrev pub texts_within : ℕ → List ℕ → List (List ℕ)
texts_within zero bytes = []
texts_within (suc n) [] = []
texts_within (suc n) (b ∷ bytes) =
    take (number_in (b ∷ bytes)) (after_number (b ∷ bytes)) ∷ texts_within n (drop (number_in (b ∷ bytes)) (after_number (b ∷ bytes)))

abbrev pub texts_in : List ℕ → List (List ℕ)
texts_in bytes = texts_within (length bytes) bytes
