-- How the logic stores the tree of a function.
use Rattle.std.specs.Prelude.{ℕ, ℤ, pos, negsuc, ◌==◌, List, [], ◌∷◌, if◌then◌else◌}
use Rattle.std.proofs.Common.{◌≡◌, refl, ap, ◌∙◌}
use Rattle.std.specs.Coded.{Coded, code_by, coded×, coded_ℕ, coded_ℤ, coded_list}
use Rattle.syntax_tree.specs.Tree.{Ex, Exs, Bound, Clauses, Cl, name, int, str, literal, tuple, list, dict, list_of, dict_of, unary, binary, choice, index, slice, call, method, no_exs, ex, no_bound, bound, no_clauses, clause, for_in, only_if, St, Suite, Branches, Br, pass, break, continue, return, eval, assign, augment, if_else, for_each, no_more, next, no_branches, more_branches, branch, Pa, Fn}
use Rattle.values_modules.specs.Same.{literal_number, unary_number, binary_number}
use Rattle.values_modules.specs.SameLaws.{literal_at, literal_back, unary_at, unary_back, binary_at, binary_back}

-- ---- how the logic stores them: as the tokens of their parts, the parts before what they make

abbrev pub Token : Type 0
Token = ℕ × (ℕ × (ℤ × List (List ℕ)))

abbrev pub token_code : Coded Token
token_code = coded× coded_ℕ (coded× coded_ℕ (coded× coded_ℤ (coded_list (coded_list coded_ℕ))))

pub data Item : Type 0 where
  an_ex : Ex → Item
  some_exs : Exs → Item
  a_bound : Bound → Item
  some_clauses : Clauses → Item
  a_clause : Cl → Item
  a_statement : St → Item
  a_suite : Suite → Item
  some_branches : Branches → Item
  a_branch : Br → Item

abbrev text_of : List (List ℕ) → List ℕ
text_of [] = []
text_of (t ∷ ts) = t

abbrev texts_after : List (List ℕ) → List (List ℕ)
texts_after [] = []
texts_after (t ∷ ts) = ts

abbrev number_of : ℤ → ℕ
number_of (pos n) = n
number_of (negsuc n) = 0

abbrev put_name : ℕ → ℤ → List (List ℕ) → List Item → List Item
put_name n z ts st = an_ex (name (text_of ts)) ∷ st

abbrev put_int : ℕ → ℤ → List (List ℕ) → List Item → List Item
put_int n z ts st = an_ex (int z) ∷ st

abbrev put_str : ℕ → ℤ → List (List ℕ) → List Item → List Item
put_str n z ts st = an_ex (str (text_of ts)) ∷ st

abbrev put_literal : ℕ → ℤ → List (List ℕ) → List Item → List Item
put_literal n z ts st = an_ex (literal (literal_at n)) ∷ st

abbrev put_tuple : ℕ → ℤ → List (List ℕ) → List Item → List Item
put_tuple n z ts (some_exs a0 ∷ st) = an_ex (tuple a0) ∷ st
put_tuple n z ts st = st

abbrev put_list : ℕ → ℤ → List (List ℕ) → List Item → List Item
put_list n z ts (some_exs a0 ∷ st) = an_ex (list a0) ∷ st
put_list n z ts st = st

abbrev put_dict : ℕ → ℤ → List (List ℕ) → List Item → List Item
put_dict n z ts (some_exs a1 ∷ some_exs a0 ∷ st) = an_ex (dict a0 a1) ∷ st
put_dict n z ts st = st

abbrev put_list_of : ℕ → ℤ → List (List ℕ) → List Item → List Item
put_list_of n z ts (some_clauses a1 ∷ an_ex a0 ∷ st) = an_ex (list_of a0 a1) ∷ st
put_list_of n z ts st = st

abbrev put_dict_of : ℕ → ℤ → List (List ℕ) → List Item → List Item
put_dict_of n z ts (some_clauses a2 ∷ an_ex a1 ∷ an_ex a0 ∷ st) = an_ex (dict_of a0 a1 a2) ∷ st
put_dict_of n z ts st = st

abbrev put_unary : ℕ → ℤ → List (List ℕ) → List Item → List Item
put_unary n z ts (an_ex a1 ∷ st) = an_ex (unary (unary_at n) a1) ∷ st
put_unary n z ts st = st

abbrev put_binary : ℕ → ℤ → List (List ℕ) → List Item → List Item
put_binary n z ts (an_ex a2 ∷ an_ex a1 ∷ st) = an_ex (binary (binary_at n) a1 a2) ∷ st
put_binary n z ts st = st

abbrev put_choice : ℕ → ℤ → List (List ℕ) → List Item → List Item
put_choice n z ts (an_ex a2 ∷ an_ex a1 ∷ an_ex a0 ∷ st) = an_ex (choice a0 a1 a2) ∷ st
put_choice n z ts st = st

abbrev put_index : ℕ → ℤ → List (List ℕ) → List Item → List Item
put_index n z ts (an_ex a1 ∷ an_ex a0 ∷ st) = an_ex (index a0 a1) ∷ st
put_index n z ts st = st

abbrev put_slice : ℕ → ℤ → List (List ℕ) → List Item → List Item
put_slice n z ts (a_bound a2 ∷ a_bound a1 ∷ an_ex a0 ∷ st) = an_ex (slice a0 a1 a2) ∷ st
put_slice n z ts st = st

abbrev put_call : ℕ → ℤ → List (List ℕ) → List Item → List Item
put_call n z ts (some_exs a1 ∷ an_ex a0 ∷ st) = an_ex (call a0 a1 ts) ∷ st
put_call n z ts st = st

abbrev put_method : ℕ → ℤ → List (List ℕ) → List Item → List Item
put_method n z ts (some_exs a2 ∷ an_ex a0 ∷ st) = an_ex (method a0 (text_of ts) a2 (texts_after ts)) ∷ st
put_method n z ts st = st

abbrev put_no_exs : ℕ → ℤ → List (List ℕ) → List Item → List Item
put_no_exs n z ts st = some_exs no_exs ∷ st

abbrev put_ex : ℕ → ℤ → List (List ℕ) → List Item → List Item
put_ex n z ts (some_exs a1 ∷ an_ex a0 ∷ st) = some_exs (ex a0 a1) ∷ st
put_ex n z ts st = st

abbrev put_no_bound : ℕ → ℤ → List (List ℕ) → List Item → List Item
put_no_bound n z ts st = a_bound no_bound ∷ st

abbrev put_bound : ℕ → ℤ → List (List ℕ) → List Item → List Item
put_bound n z ts (an_ex a0 ∷ st) = a_bound (bound a0) ∷ st
put_bound n z ts st = st

abbrev put_no_clauses : ℕ → ℤ → List (List ℕ) → List Item → List Item
put_no_clauses n z ts st = some_clauses no_clauses ∷ st

abbrev put_clause : ℕ → ℤ → List (List ℕ) → List Item → List Item
put_clause n z ts (some_clauses a1 ∷ a_clause a0 ∷ st) = some_clauses (clause a0 a1) ∷ st
put_clause n z ts st = st

abbrev put_for_in : ℕ → ℤ → List (List ℕ) → List Item → List Item
put_for_in n z ts (an_ex a1 ∷ an_ex a0 ∷ st) = a_clause (for_in a0 a1) ∷ st
put_for_in n z ts st = st

abbrev put_only_if : ℕ → ℤ → List (List ℕ) → List Item → List Item
put_only_if n z ts (an_ex a0 ∷ st) = a_clause (only_if a0) ∷ st
put_only_if n z ts st = st

abbrev put_pass : ℕ → ℤ → List (List ℕ) → List Item → List Item
put_pass n z ts st = a_statement (pass n) ∷ st

abbrev put_break : ℕ → ℤ → List (List ℕ) → List Item → List Item
put_break n z ts st = a_statement (break n) ∷ st

abbrev put_continue : ℕ → ℤ → List (List ℕ) → List Item → List Item
put_continue n z ts st = a_statement (continue n) ∷ st

abbrev put_return : ℕ → ℤ → List (List ℕ) → List Item → List Item
put_return n z ts (a_bound a1 ∷ st) = a_statement (return n a1) ∷ st
put_return n z ts st = st

abbrev put_eval : ℕ → ℤ → List (List ℕ) → List Item → List Item
put_eval n z ts (an_ex a1 ∷ st) = a_statement (eval n a1) ∷ st
put_eval n z ts st = st

abbrev put_assign : ℕ → ℤ → List (List ℕ) → List Item → List Item
put_assign n z ts (an_ex a2 ∷ an_ex a1 ∷ st) = a_statement (assign n a1 a2) ∷ st
put_assign n z ts st = st

abbrev put_augment : ℕ → ℤ → List (List ℕ) → List Item → List Item
put_augment n z ts (an_ex a3 ∷ an_ex a1 ∷ st) = a_statement (augment n a1 (binary_at (number_of z)) a3) ∷ st
put_augment n z ts st = st

abbrev put_if_else : ℕ → ℤ → List (List ℕ) → List Item → List Item
put_if_else n z ts (a_suite a1 ∷ some_branches a0 ∷ st) = a_statement (if_else a0 a1) ∷ st
put_if_else n z ts st = st

abbrev put_for_each : ℕ → ℤ → List (List ℕ) → List Item → List Item
put_for_each n z ts (a_suite a3 ∷ an_ex a2 ∷ an_ex a1 ∷ st) = a_statement (for_each n a1 a2 a3) ∷ st
put_for_each n z ts st = st

abbrev put_no_more : ℕ → ℤ → List (List ℕ) → List Item → List Item
put_no_more n z ts st = a_suite no_more ∷ st

abbrev put_next : ℕ → ℤ → List (List ℕ) → List Item → List Item
put_next n z ts (a_suite a1 ∷ a_statement a0 ∷ st) = a_suite (next a0 a1) ∷ st
put_next n z ts st = st

abbrev put_no_branches : ℕ → ℤ → List (List ℕ) → List Item → List Item
put_no_branches n z ts st = some_branches no_branches ∷ st

abbrev put_more_branches : ℕ → ℤ → List (List ℕ) → List Item → List Item
put_more_branches n z ts (some_branches a1 ∷ a_branch a0 ∷ st) = some_branches (more_branches a0 a1) ∷ st
put_more_branches n z ts st = st

abbrev put_branch : ℕ → ℤ → List (List ℕ) → List Item → List Item
put_branch n z ts (a_suite a2 ∷ an_ex a1 ∷ st) = a_branch (branch n a1 a2) ∷ st
put_branch n z ts st = st

abbrev put : ℕ → ℕ → ℤ → List (List ℕ) → List Item → List Item
put t n z ts st =
    if t == 0 then put_name n z ts st
    else (if t == 1 then put_int n z ts st
    else (if t == 2 then put_str n z ts st
    else (if t == 3 then put_literal n z ts st
    else (if t == 4 then put_tuple n z ts st
    else (if t == 5 then put_list n z ts st
    else (if t == 6 then put_dict n z ts st
    else (if t == 7 then put_list_of n z ts st
    else (if t == 8 then put_dict_of n z ts st
    else (if t == 9 then put_unary n z ts st
    else (if t == 10 then put_binary n z ts st
    else (if t == 11 then put_choice n z ts st
    else (if t == 12 then put_index n z ts st
    else (if t == 13 then put_slice n z ts st
    else (if t == 14 then put_call n z ts st
    else (if t == 15 then put_method n z ts st
    else (if t == 16 then put_no_exs n z ts st
    else (if t == 17 then put_ex n z ts st
    else (if t == 18 then put_no_bound n z ts st
    else (if t == 19 then put_bound n z ts st
    else (if t == 20 then put_no_clauses n z ts st
    else (if t == 21 then put_clause n z ts st
    else (if t == 22 then put_for_in n z ts st
    else (if t == 23 then put_only_if n z ts st
    else (if t == 24 then put_pass n z ts st
    else (if t == 25 then put_break n z ts st
    else (if t == 26 then put_continue n z ts st
    else (if t == 27 then put_return n z ts st
    else (if t == 28 then put_eval n z ts st
    else (if t == 29 then put_assign n z ts st
    else (if t == 30 then put_augment n z ts st
    else (if t == 31 then put_if_else n z ts st
    else (if t == 32 then put_for_each n z ts st
    else (if t == 33 then put_no_more n z ts st
    else (if t == 34 then put_next n z ts st
    else (if t == 35 then put_no_branches n z ts st
    else (if t == 36 then put_more_branches n z ts st
    else put_branch n z ts st))))))))))))))))))))))))))))))))))))

abbrev run : List Token → List Item → List Item
run [] st = st
run (t ∷ rest) st = run rest (put t.0 t.1.0 t.1.1.0 t.1.1.1 st)

-- the tokens of a value, before others
abbrev mutual
  tokens_an_ex : Ex → List Token → List Token
  tokens_an_ex (name a0) rest = (0, (0, ((pos 0), a0 ∷ []))) ∷ rest
  tokens_an_ex (int a0) rest = (1, (0, (a0, []))) ∷ rest
  tokens_an_ex (str a0) rest = (2, (0, ((pos 0), a0 ∷ []))) ∷ rest
  tokens_an_ex (literal a0) rest = (3, ((literal_number a0), ((pos 0), []))) ∷ rest
  tokens_an_ex (tuple a0) rest = tokens_some_exs a0 ((4, (0, ((pos 0), []))) ∷ rest)
  tokens_an_ex (list a0) rest = tokens_some_exs a0 ((5, (0, ((pos 0), []))) ∷ rest)
  tokens_an_ex (dict a0 a1) rest = tokens_some_exs a0 (tokens_some_exs a1 ((6, (0, ((pos 0), []))) ∷ rest))
  tokens_an_ex (list_of a0 a1) rest = tokens_an_ex a0 (tokens_some_clauses a1 ((7, (0, ((pos 0), []))) ∷ rest))
  tokens_an_ex (dict_of a0 a1 a2) rest = tokens_an_ex a0 (tokens_an_ex a1 (tokens_some_clauses a2 ((8, (0, ((pos 0), []))) ∷ rest)))
  tokens_an_ex (unary a0 a1) rest = tokens_an_ex a1 ((9, ((unary_number a0), ((pos 0), []))) ∷ rest)
  tokens_an_ex (binary a0 a1 a2) rest = tokens_an_ex a1 (tokens_an_ex a2 ((10, ((binary_number a0), ((pos 0), []))) ∷ rest))
  tokens_an_ex (choice a0 a1 a2) rest = tokens_an_ex a0 (tokens_an_ex a1 (tokens_an_ex a2 ((11, (0, ((pos 0), []))) ∷ rest)))
  tokens_an_ex (index a0 a1) rest = tokens_an_ex a0 (tokens_an_ex a1 ((12, (0, ((pos 0), []))) ∷ rest))
  tokens_an_ex (slice a0 a1 a2) rest = tokens_an_ex a0 (tokens_a_bound a1 (tokens_a_bound a2 ((13, (0, ((pos 0), []))) ∷ rest)))
  tokens_an_ex (call a0 a1 a2) rest = tokens_an_ex a0 (tokens_some_exs a1 ((14, (0, ((pos 0), a2))) ∷ rest))
  tokens_an_ex (method a0 a1 a2 a3) rest = tokens_an_ex a0 (tokens_some_exs a2 ((15, (0, ((pos 0), a1 ∷ a3))) ∷ rest))

  tokens_some_exs : Exs → List Token → List Token
  tokens_some_exs no_exs rest = (16, (0, ((pos 0), []))) ∷ rest
  tokens_some_exs (ex a0 a1) rest = tokens_an_ex a0 (tokens_some_exs a1 ((17, (0, ((pos 0), []))) ∷ rest))

  tokens_a_bound : Bound → List Token → List Token
  tokens_a_bound no_bound rest = (18, (0, ((pos 0), []))) ∷ rest
  tokens_a_bound (bound a0) rest = tokens_an_ex a0 ((19, (0, ((pos 0), []))) ∷ rest)

  tokens_some_clauses : Clauses → List Token → List Token
  tokens_some_clauses no_clauses rest = (20, (0, ((pos 0), []))) ∷ rest
  tokens_some_clauses (clause a0 a1) rest = tokens_a_clause a0 (tokens_some_clauses a1 ((21, (0, ((pos 0), []))) ∷ rest))

  tokens_a_clause : Cl → List Token → List Token
  tokens_a_clause (for_in a0 a1) rest = tokens_an_ex a0 (tokens_an_ex a1 ((22, (0, ((pos 0), []))) ∷ rest))
  tokens_a_clause (only_if a0) rest = tokens_an_ex a0 ((23, (0, ((pos 0), []))) ∷ rest)

abbrev mutual
  tokens_a_statement : St → List Token → List Token
  tokens_a_statement (pass a0) rest = (24, (a0, ((pos 0), []))) ∷ rest
  tokens_a_statement (break a0) rest = (25, (a0, ((pos 0), []))) ∷ rest
  tokens_a_statement (continue a0) rest = (26, (a0, ((pos 0), []))) ∷ rest
  tokens_a_statement (return a0 a1) rest = tokens_a_bound a1 ((27, (a0, ((pos 0), []))) ∷ rest)
  tokens_a_statement (eval a0 a1) rest = tokens_an_ex a1 ((28, (a0, ((pos 0), []))) ∷ rest)
  tokens_a_statement (assign a0 a1 a2) rest = tokens_an_ex a1 (tokens_an_ex a2 ((29, (a0, ((pos 0), []))) ∷ rest))
  tokens_a_statement (augment a0 a1 a2 a3) rest = tokens_an_ex a1 (tokens_an_ex a3 ((30, (a0, ((pos (binary_number a2)), []))) ∷ rest))
  tokens_a_statement (if_else a0 a1) rest = tokens_some_branches a0 (tokens_a_suite a1 ((31, (0, ((pos 0), []))) ∷ rest))
  tokens_a_statement (for_each a0 a1 a2 a3) rest = tokens_an_ex a1 (tokens_an_ex a2 (tokens_a_suite a3 ((32, (a0, ((pos 0), []))) ∷ rest)))

  tokens_a_suite : Suite → List Token → List Token
  tokens_a_suite no_more rest = (33, (0, ((pos 0), []))) ∷ rest
  tokens_a_suite (next a0 a1) rest = tokens_a_statement a0 (tokens_a_suite a1 ((34, (0, ((pos 0), []))) ∷ rest))

  tokens_some_branches : Branches → List Token → List Token
  tokens_some_branches no_branches rest = (35, (0, ((pos 0), []))) ∷ rest
  tokens_some_branches (more_branches a0 a1) rest = tokens_a_branch a0 (tokens_some_branches a1 ((36, (0, ((pos 0), []))) ∷ rest))

  tokens_a_branch : Br → List Token → List Token
  tokens_a_branch (branch a0 a1 a2) rest = tokens_an_ex a1 (tokens_a_suite a2 ((37, (a0, ((pos 0), []))) ∷ rest))

-- read back, they are the value
mutual
  pub read_an_ex : (a : Ex) (rest : List Token) (st : List Item) → run (tokens_an_ex a rest) st ≡ run rest (an_ex a ∷ st)
  read_an_ex (name a0) rest st = refl
  read_an_ex (int a0) rest st = refl
  read_an_ex (str a0) rest st = refl
  read_an_ex (literal a0) rest st = ap (λ x. run rest (an_ex (literal x) ∷ st)) (literal_back a0)
  read_an_ex (tuple a0) rest st = read_some_exs a0 ((4, (0, ((pos 0), []))) ∷ rest) st
  read_an_ex (list a0) rest st = read_some_exs a0 ((5, (0, ((pos 0), []))) ∷ rest) st
  read_an_ex (dict a0 a1) rest st = read_some_exs a0 (tokens_some_exs a1 ((6, (0, ((pos 0), []))) ∷ rest)) st ∙ (read_some_exs a1 ((6, (0, ((pos 0), []))) ∷ rest) (some_exs a0 ∷ st))
  read_an_ex (list_of a0 a1) rest st = read_an_ex a0 (tokens_some_clauses a1 ((7, (0, ((pos 0), []))) ∷ rest)) st ∙ (read_some_clauses a1 ((7, (0, ((pos 0), []))) ∷ rest) (an_ex a0 ∷ st))
  read_an_ex (dict_of a0 a1 a2) rest st = read_an_ex a0 (tokens_an_ex a1 (tokens_some_clauses a2 ((8, (0, ((pos 0), []))) ∷ rest))) st ∙ (read_an_ex a1 (tokens_some_clauses a2 ((8, (0, ((pos 0), []))) ∷ rest)) (an_ex a0 ∷ st) ∙ (read_some_clauses a2 ((8, (0, ((pos 0), []))) ∷ rest) (an_ex a1 ∷ an_ex a0 ∷ st)))
  read_an_ex (unary a0 a1) rest st = read_an_ex a1 ((9, ((unary_number a0), ((pos 0), []))) ∷ rest) st ∙ (ap (λ x. run rest (an_ex (unary x a1) ∷ st)) (unary_back a0))
  read_an_ex (binary a0 a1 a2) rest st = read_an_ex a1 (tokens_an_ex a2 ((10, ((binary_number a0), ((pos 0), []))) ∷ rest)) st ∙ (read_an_ex a2 ((10, ((binary_number a0), ((pos 0), []))) ∷ rest) (an_ex a1 ∷ st) ∙ (ap (λ x. run rest (an_ex (binary x a1 a2) ∷ st)) (binary_back a0)))
  read_an_ex (choice a0 a1 a2) rest st = read_an_ex a0 (tokens_an_ex a1 (tokens_an_ex a2 ((11, (0, ((pos 0), []))) ∷ rest))) st ∙ (read_an_ex a1 (tokens_an_ex a2 ((11, (0, ((pos 0), []))) ∷ rest)) (an_ex a0 ∷ st) ∙ (read_an_ex a2 ((11, (0, ((pos 0), []))) ∷ rest) (an_ex a1 ∷ an_ex a0 ∷ st)))
  read_an_ex (index a0 a1) rest st = read_an_ex a0 (tokens_an_ex a1 ((12, (0, ((pos 0), []))) ∷ rest)) st ∙ (read_an_ex a1 ((12, (0, ((pos 0), []))) ∷ rest) (an_ex a0 ∷ st))
  read_an_ex (slice a0 a1 a2) rest st = read_an_ex a0 (tokens_a_bound a1 (tokens_a_bound a2 ((13, (0, ((pos 0), []))) ∷ rest))) st ∙ (read_a_bound a1 (tokens_a_bound a2 ((13, (0, ((pos 0), []))) ∷ rest)) (an_ex a0 ∷ st) ∙ (read_a_bound a2 ((13, (0, ((pos 0), []))) ∷ rest) (a_bound a1 ∷ an_ex a0 ∷ st)))
  read_an_ex (call a0 a1 a2) rest st = read_an_ex a0 (tokens_some_exs a1 ((14, (0, ((pos 0), a2))) ∷ rest)) st ∙ (read_some_exs a1 ((14, (0, ((pos 0), a2))) ∷ rest) (an_ex a0 ∷ st))
  read_an_ex (method a0 a1 a2 a3) rest st = read_an_ex a0 (tokens_some_exs a2 ((15, (0, ((pos 0), a1 ∷ a3))) ∷ rest)) st ∙ (read_some_exs a2 ((15, (0, ((pos 0), a1 ∷ a3))) ∷ rest) (an_ex a0 ∷ st))

  pub read_some_exs : (a : Exs) (rest : List Token) (st : List Item) → run (tokens_some_exs a rest) st ≡ run rest (some_exs a ∷ st)
  read_some_exs no_exs rest st = refl
  read_some_exs (ex a0 a1) rest st = read_an_ex a0 (tokens_some_exs a1 ((17, (0, ((pos 0), []))) ∷ rest)) st ∙ (read_some_exs a1 ((17, (0, ((pos 0), []))) ∷ rest) (an_ex a0 ∷ st))

  pub read_a_bound : (a : Bound) (rest : List Token) (st : List Item) → run (tokens_a_bound a rest) st ≡ run rest (a_bound a ∷ st)
  read_a_bound no_bound rest st = refl
  read_a_bound (bound a0) rest st = read_an_ex a0 ((19, (0, ((pos 0), []))) ∷ rest) st

  pub read_some_clauses : (a : Clauses) (rest : List Token) (st : List Item) → run (tokens_some_clauses a rest) st ≡ run rest (some_clauses a ∷ st)
  read_some_clauses no_clauses rest st = refl
  read_some_clauses (clause a0 a1) rest st = read_a_clause a0 (tokens_some_clauses a1 ((21, (0, ((pos 0), []))) ∷ rest)) st ∙ (read_some_clauses a1 ((21, (0, ((pos 0), []))) ∷ rest) (a_clause a0 ∷ st))

  pub read_a_clause : (a : Cl) (rest : List Token) (st : List Item) → run (tokens_a_clause a rest) st ≡ run rest (a_clause a ∷ st)
  read_a_clause (for_in a0 a1) rest st = read_an_ex a0 (tokens_an_ex a1 ((22, (0, ((pos 0), []))) ∷ rest)) st ∙ (read_an_ex a1 ((22, (0, ((pos 0), []))) ∷ rest) (an_ex a0 ∷ st))
  read_a_clause (only_if a0) rest st = read_an_ex a0 ((23, (0, ((pos 0), []))) ∷ rest) st

mutual
  pub read_a_statement : (a : St) (rest : List Token) (st : List Item) → run (tokens_a_statement a rest) st ≡ run rest (a_statement a ∷ st)
  read_a_statement (pass a0) rest st = refl
  read_a_statement (break a0) rest st = refl
  read_a_statement (continue a0) rest st = refl
  read_a_statement (return a0 a1) rest st = read_a_bound a1 ((27, (a0, ((pos 0), []))) ∷ rest) st
  read_a_statement (eval a0 a1) rest st = read_an_ex a1 ((28, (a0, ((pos 0), []))) ∷ rest) st
  read_a_statement (assign a0 a1 a2) rest st = read_an_ex a1 (tokens_an_ex a2 ((29, (a0, ((pos 0), []))) ∷ rest)) st ∙ (read_an_ex a2 ((29, (a0, ((pos 0), []))) ∷ rest) (an_ex a1 ∷ st))
  read_a_statement (augment a0 a1 a2 a3) rest st = read_an_ex a1 (tokens_an_ex a3 ((30, (a0, ((pos (binary_number a2)), []))) ∷ rest)) st ∙ (read_an_ex a3 ((30, (a0, ((pos (binary_number a2)), []))) ∷ rest) (an_ex a1 ∷ st) ∙ (ap (λ x. run rest (a_statement (augment a0 a1 x a3) ∷ st)) (binary_back a2)))
  read_a_statement (if_else a0 a1) rest st = read_some_branches a0 (tokens_a_suite a1 ((31, (0, ((pos 0), []))) ∷ rest)) st ∙ (read_a_suite a1 ((31, (0, ((pos 0), []))) ∷ rest) (some_branches a0 ∷ st))
  read_a_statement (for_each a0 a1 a2 a3) rest st = read_an_ex a1 (tokens_an_ex a2 (tokens_a_suite a3 ((32, (a0, ((pos 0), []))) ∷ rest))) st ∙ (read_an_ex a2 (tokens_a_suite a3 ((32, (a0, ((pos 0), []))) ∷ rest)) (an_ex a1 ∷ st) ∙ (read_a_suite a3 ((32, (a0, ((pos 0), []))) ∷ rest) (an_ex a2 ∷ an_ex a1 ∷ st)))

  pub read_a_suite : (a : Suite) (rest : List Token) (st : List Item) → run (tokens_a_suite a rest) st ≡ run rest (a_suite a ∷ st)
  read_a_suite no_more rest st = refl
  read_a_suite (next a0 a1) rest st = read_a_statement a0 (tokens_a_suite a1 ((34, (0, ((pos 0), []))) ∷ rest)) st ∙ (read_a_suite a1 ((34, (0, ((pos 0), []))) ∷ rest) (a_statement a0 ∷ st))

  pub read_some_branches : (a : Branches) (rest : List Token) (st : List Item) → run (tokens_some_branches a rest) st ≡ run rest (some_branches a ∷ st)
  read_some_branches no_branches rest st = refl
  read_some_branches (more_branches a0 a1) rest st = read_a_branch a0 (tokens_some_branches a1 ((36, (0, ((pos 0), []))) ∷ rest)) st ∙ (read_some_branches a1 ((36, (0, ((pos 0), []))) ∷ rest) (a_branch a0 ∷ st))

  pub read_a_branch : (a : Br) (rest : List Token) (st : List Item) → run (tokens_a_branch a rest) st ≡ run rest (a_branch a ∷ st)
  read_a_branch (branch a0 a1 a2) rest st = read_an_ex a1 (tokens_a_suite a2 ((37, (a0, ((pos 0), []))) ∷ rest)) st ∙ (read_a_suite a2 ((37, (a0, ((pos 0), []))) ∷ rest) (an_ex a1 ∷ st))

abbrev first_a_bound : List Item → Bound
first_a_bound (a_bound a ∷ st) = a
first_a_bound st = no_bound

abbrev pub a_bound_code : Coded Bound
a_bound_code = code_by (List Token) (coded_list token_code) (λ a. tokens_a_bound a []) (λ ts. first_a_bound (run ts [])) (λ a. ap first_a_bound (read_a_bound a [] []))

abbrev first_a_suite : List Item → Suite
first_a_suite (a_suite a ∷ st) = a
first_a_suite st = no_more

abbrev pub a_suite_code : Coded Suite
a_suite_code = code_by (List Token) (coded_list token_code) (λ a. tokens_a_suite a []) (λ ts. first_a_suite (run ts [])) (λ a. ap first_a_suite (read_a_suite a [] []))

abbrev pub param_code : Coded Pa
param_code = code_by (List ℕ × Bound) (coded× (coded_list coded_ℕ) a_bound_code) (λ p. (p.name, p.default)) (λ q. record { name = q.0; default = q.1 }) (λ _. refl)

abbrev pub fn_code : Coded Fn
fn_code = code_by (ℕ × (List ℕ × (List Pa × Suite))) (coded× coded_ℕ (coded× (coded_list coded_ℕ) (coded× (coded_list param_code) a_suite_code))) (λ f. (f.line, (f.name, (f.params, f.body)))) (λ q. record { line = q.0; name = q.1.0; params = q.1.1.0; body = q.1.1.1 }) (λ _. refl)
