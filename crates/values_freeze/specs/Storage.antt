-- How the logic stores a frozen value.
use Rattle.std.specs.Prelude.{ℕ, ℤ, pos, negsuc, ◌==◌, true, false, List, [], ◌∷◌, if◌then◌else◌}
use Rattle.std.proofs.Common.{◌≡◌, refl, ap, ◌∙◌}
use Rattle.std.specs.Coded.{Coded, code_by, coded×, coded_ℕ, coded_ℤ, coded_list}
use Rattle.values_semantics.specs.Freezing.{Fz, Fzs, Pairs, nothing, boolean, whole, built_in, text, list, tuple, dict, function, no_members, member, no_pairs, pair}
use Rattle.values_semantics.specs.Builtins.{builtin_number, builtin_at}
use Rattle.values_semantics.proofs.Builtins.{numbered}

-- ---- how the logic stores them: as the tokens of their parts, the parts before what they make

abbrev pub Token : Type 0
Token = ℕ × (ℕ × (ℤ × List (List ℕ)))

abbrev pub token_code : Coded Token
token_code = coded× coded_ℕ (coded× coded_ℕ (coded× coded_ℤ (coded_list (coded_list coded_ℕ))))

pub data Item : Type 0 where
  frozen : Fz → Item
  members : Fzs → Item
  pairs : Pairs → Item

abbrev text_of : List (List ℕ) → List ℕ
text_of [] = []
text_of (t ∷ ts) = t

abbrev texts_after : List (List ℕ) → List (List ℕ)
texts_after [] = []
texts_after (t ∷ ts) = ts

abbrev put_nothing : ℕ → ℤ → List (List ℕ) → List Item → List Item
put_nothing n z ts st = frozen nothing ∷ st

abbrev put_boolean_true : ℕ → ℤ → List (List ℕ) → List Item → List Item
put_boolean_true n z ts st = frozen (boolean true) ∷ st

abbrev put_boolean_false : ℕ → ℤ → List (List ℕ) → List Item → List Item
put_boolean_false n z ts st = frozen (boolean false) ∷ st

abbrev put_whole : ℕ → ℤ → List (List ℕ) → List Item → List Item
put_whole n z ts st = frozen (whole z) ∷ st

abbrev put_built_in : ℕ → ℤ → List (List ℕ) → List Item → List Item
put_built_in n z ts st = frozen (built_in (builtin_at n)) ∷ st

abbrev put_text : ℕ → ℤ → List (List ℕ) → List Item → List Item
put_text n z ts st = frozen (text (text_of ts)) ∷ st

abbrev put_list : ℕ → ℤ → List (List ℕ) → List Item → List Item
put_list n z ts (members a0 ∷ st) = frozen (list a0) ∷ st
put_list n z ts st = st

abbrev put_tuple : ℕ → ℤ → List (List ℕ) → List Item → List Item
put_tuple n z ts (members a0 ∷ st) = frozen (tuple a0) ∷ st
put_tuple n z ts st = st

abbrev put_dict : ℕ → ℤ → List (List ℕ) → List Item → List Item
put_dict n z ts (pairs a0 ∷ st) = frozen (dict a0) ∷ st
put_dict n z ts st = st

abbrev put_function : ℕ → ℤ → List (List ℕ) → List Item → List Item
put_function n z ts st = frozen (function (text_of ts) (text_of (texts_after ts))) ∷ st

abbrev put_no_members : ℕ → ℤ → List (List ℕ) → List Item → List Item
put_no_members n z ts st = members no_members ∷ st

abbrev put_member : ℕ → ℤ → List (List ℕ) → List Item → List Item
put_member n z ts (members a1 ∷ frozen a0 ∷ st) = members (member a0 a1) ∷ st
put_member n z ts st = st

abbrev put_no_pairs : ℕ → ℤ → List (List ℕ) → List Item → List Item
put_no_pairs n z ts st = pairs no_pairs ∷ st

abbrev put_pair : ℕ → ℤ → List (List ℕ) → List Item → List Item
put_pair n z ts (pairs a2 ∷ frozen a1 ∷ frozen a0 ∷ st) = pairs (pair a0 a1 a2) ∷ st
put_pair n z ts st = st

abbrev put : ℕ → ℕ → ℤ → List (List ℕ) → List Item → List Item
put t n z ts st =
    if t == 0 then put_nothing n z ts st
    else (if t == 1 then put_boolean_true n z ts st
    else (if t == 2 then put_boolean_false n z ts st
    else (if t == 3 then put_whole n z ts st
    else (if t == 4 then put_built_in n z ts st
    else (if t == 5 then put_text n z ts st
    else (if t == 6 then put_list n z ts st
    else (if t == 7 then put_tuple n z ts st
    else (if t == 8 then put_dict n z ts st
    else (if t == 9 then put_function n z ts st
    else (if t == 10 then put_no_members n z ts st
    else (if t == 11 then put_member n z ts st
    else (if t == 12 then put_no_pairs n z ts st
    else put_pair n z ts st))))))))))))

abbrev run : List Token → List Item → List Item
run [] st = st
run (t ∷ rest) st = run rest (put t.0 t.1.0 t.1.1.0 t.1.1.1 st)

-- the tokens of a value, before others
abbrev mutual
  tokens_frozen : Fz → List Token → List Token
  tokens_frozen nothing rest = (0, (0, ((pos 0), []))) ∷ rest
  tokens_frozen (boolean true) rest = (1, (0, ((pos 0), []))) ∷ rest
  tokens_frozen (boolean false) rest = (2, (0, ((pos 0), []))) ∷ rest
  tokens_frozen (whole a0) rest = (3, (0, (a0, []))) ∷ rest
  tokens_frozen (built_in a0) rest = (4, ((builtin_number a0), ((pos 0), []))) ∷ rest
  tokens_frozen (text a0) rest = (5, (0, ((pos 0), a0 ∷ []))) ∷ rest
  tokens_frozen (list a0) rest = tokens_members a0 ((6, (0, ((pos 0), []))) ∷ rest)
  tokens_frozen (tuple a0) rest = tokens_members a0 ((7, (0, ((pos 0), []))) ∷ rest)
  tokens_frozen (dict a0) rest = tokens_pairs a0 ((8, (0, ((pos 0), []))) ∷ rest)
  tokens_frozen (function a0 a1) rest = (9, (0, ((pos 0), a0 ∷ a1 ∷ []))) ∷ rest

  tokens_members : Fzs → List Token → List Token
  tokens_members no_members rest = (10, (0, ((pos 0), []))) ∷ rest
  tokens_members (member a0 a1) rest = tokens_frozen a0 (tokens_members a1 ((11, (0, ((pos 0), []))) ∷ rest))

  tokens_pairs : Pairs → List Token → List Token
  tokens_pairs no_pairs rest = (12, (0, ((pos 0), []))) ∷ rest
  tokens_pairs (pair a0 a1 a2) rest = tokens_frozen a0 (tokens_frozen a1 (tokens_pairs a2 ((13, (0, ((pos 0), []))) ∷ rest)))

-- read back, they are the value
mutual
  pub read_frozen : (a : Fz) (rest : List Token) (st : List Item) → run (tokens_frozen a rest) st ≡ run rest (frozen a ∷ st)
  read_frozen nothing rest st = refl
  read_frozen (boolean true) rest st = refl
  read_frozen (boolean false) rest st = refl
  read_frozen (whole a0) rest st = refl
  read_frozen (built_in a0) rest st = ap (λ x. run rest (frozen (built_in x) ∷ st)) (numbered a0)
  read_frozen (text a0) rest st = refl
  read_frozen (list a0) rest st = read_members a0 ((6, (0, ((pos 0), []))) ∷ rest) st
  read_frozen (tuple a0) rest st = read_members a0 ((7, (0, ((pos 0), []))) ∷ rest) st
  read_frozen (dict a0) rest st = read_pairs a0 ((8, (0, ((pos 0), []))) ∷ rest) st
  read_frozen (function a0 a1) rest st = refl

  pub read_members : (a : Fzs) (rest : List Token) (st : List Item) → run (tokens_members a rest) st ≡ run rest (members a ∷ st)
  read_members no_members rest st = refl
  read_members (member a0 a1) rest st = read_frozen a0 (tokens_members a1 ((11, (0, ((pos 0), []))) ∷ rest)) st ∙ (read_members a1 ((11, (0, ((pos 0), []))) ∷ rest) (frozen a0 ∷ st))

  pub read_pairs : (a : Pairs) (rest : List Token) (st : List Item) → run (tokens_pairs a rest) st ≡ run rest (pairs a ∷ st)
  read_pairs no_pairs rest st = refl
  read_pairs (pair a0 a1 a2) rest st = read_frozen a0 (tokens_frozen a1 (tokens_pairs a2 ((13, (0, ((pos 0), []))) ∷ rest))) st ∙ (read_frozen a1 (tokens_pairs a2 ((13, (0, ((pos 0), []))) ∷ rest)) (frozen a0 ∷ st) ∙ (read_pairs a2 ((13, (0, ((pos 0), []))) ∷ rest) (frozen a1 ∷ frozen a0 ∷ st)))

abbrev first_frozen : List Item → Fz
first_frozen (frozen a ∷ st) = a
first_frozen st = nothing

abbrev pub frozen_code : Coded Fz
frozen_code = code_by (List Token) (coded_list token_code) (λ a. tokens_frozen a []) (λ ts. first_frozen (run ts [])) (λ a. ap first_frozen (read_frozen a [] []))

abbrev first_members : List Item → Fzs
first_members (members a ∷ st) = a
first_members st = no_members

abbrev pub members_code : Coded Fzs
members_code = code_by (List Token) (coded_list token_code) (λ a. tokens_members a []) (λ ts. first_members (run ts [])) (λ a. ap first_members (read_members a [] []))
