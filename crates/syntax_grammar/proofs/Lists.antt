-- What each function that reads atoms and lists gives, by what those that it calls give.
use Rattle.std.proofs.Common.{◌≡◌, ◌∙◌, ℕ, ℤ, zero, suc, ◌≤◌, List, [], ◌∷◌, ◌++◌, length, true, false, cond, Option, refl, arith}
use Rattle.syntax_tokens.specs.declared.symbol.Symbol.{Symbol}
use Rattle.syntax_tokens.specs.declared.symbol.Symbol.TheVariants as s
use Rattle.syntax_tokens.specs.Token.{name, int, string, Lex}
use Rattle.syntax_tokens.specs.Strings.{unescaped}
use Rattle.syntax_tree.specs.declared.expr.Literal.TheVariants as w
use Rattle.syntax_tree.specs.Tree as t
use Rattle.syntax_tree.specs.Tree.{Ex, Cl}
use Rattle.syntax_tree.specs.View.{exs_of, clauses_of}
use Rattle.syntax_grammar.specs.declared.kind.Kind.TheVariants as k
use Rattle.syntax_grammar.specs.Front.{Part, gives, is_at, tail, same, is_name_before}
use Rattle.syntax_grammar.specs.Targets.{is_target}
use Rattle.syntax_grammar.specs.Expressions.{Level, atom, symbol_atom, in_parens, in_brackets, in_braces, items, items_after, entry, entries, entries_after, dict_after, Pairs, with_pair, Arguments, with_named, argument, arguments, arguments_so_far, arguments_after, clauses, clauses_after, for_clause, target, targets, more_targets, targets_after}
use Rattle.syntax_grammar.specs.Grammar as g
use Rattle.syntax_grammar.specs.Grammar.{IsToken, Is, IsCommaOrNone}
use Rattle.syntax_grammar.proofs.Stops.{front, tail_is, at_is, not_at}
use Rattle.syntax_grammar.proofs.Steps.{Reads, Comes, comes_on, comes_to, token_counts, name_is}

module _ (l : Level) where
  -- ---- atoms

  pub reads_name : {ts rest : List Lex} {x : List ℕ} → IsToken (name x) ts rest → Reads (atom l) ts (t.name x) rest
  unfolding atom
  reads_name {rest} {x} is = record { is = front (λ xs. atom l xs ≡ gives (t.name x) rest) is (λ line. refl) }

  pub reads_int : {ts rest : List Lex} {n : ℤ} → IsToken (int n) ts rest → Reads (atom l) ts (t.int n) rest
  unfolding atom
  reads_int {rest} {n} is = record { is = front (λ xs. atom l xs ≡ gives (t.int n) rest) is (λ line. refl) }

  pub reads_string : {ts rest : List Lex} {written : List ℕ} → IsToken (string written) ts rest → Reads (atom l) ts (t.str (unescaped written)) rest
  unfolding atom
  reads_string {rest} {written} is = record { is = front (λ xs. atom l xs ≡ gives (t.str (unescaped written)) rest) is (λ line. refl) }

  pub reads_none : {ts rest : List Lex} → Is s.NoneValue ts rest → Reads (atom l) ts (t.literal w.NoneValue) rest
  unfolding atom symbol_atom
  reads_none {rest} is = record { is = front (λ xs. atom l xs ≡ gives (t.literal w.NoneValue) rest) is (λ line. refl) }

  pub reads_true : {ts rest : List Lex} → Is s.TrueValue ts rest → Reads (atom l) ts (t.literal w.TrueValue) rest
  unfolding atom symbol_atom
  reads_true {rest} is = record { is = front (λ xs. atom l xs ≡ gives (t.literal w.TrueValue) rest) is (λ line. refl) }

  pub reads_false : {ts rest : List Lex} → Is s.FalseValue ts rest → Reads (atom l) ts (t.literal w.FalseValue) rest
  unfolding atom symbol_atom
  reads_false {rest} is = record { is = front (λ xs. atom l xs ≡ gives (t.literal w.FalseValue) rest) is (λ line. refl) }

  pub reads_in_parens : {ts us rest : List Lex} {e : Ex} → Is s.LeftParen ts us → Reads (in_parens l) us e rest → Reads (atom l) ts e rest
  unfolding atom symbol_atom
  reads_in_parens {rest} {e} is h = record { is = front (λ xs. atom l xs ≡ gives e rest) is (λ line. h.is) }

  pub reads_in_brackets : {ts us rest : List Lex} {e : Ex} → Is s.LeftBracket ts us → Reads (in_brackets l) us e rest → Reads (atom l) ts e rest
  unfolding atom symbol_atom
  reads_in_brackets {rest} {e} is h = record { is = front (λ xs. atom l xs ≡ gives e rest) is (λ line. h.is) }

  pub reads_in_braces : {ts us rest : List Lex} {e : Ex} → Is s.LeftBrace ts us → Reads (in_braces l) us e rest → Reads (atom l) ts e rest
  unfolding atom symbol_atom
  reads_in_braces {rest} {e} is h = record { is = front (λ xs. atom l xs ≡ gives e rest) is (λ line. h.is) }

  -- ---- tuples and lists

  pub reads_empty_tuple : {ts rest : List Lex} → Is s.RightParen ts rest → Reads (in_parens l) ts (t.tuple t.no_exs) rest
  unfolding in_parens
  reads_empty_tuple is = record { is = rw (at_is is, tail_is is, in_parens) refl }

  pub reads_parens : {ts us rest : List Lex} {e : Ex} → is_at s.RightParen ts ≡ false → Reads (l k.Test) ts e us → Is s.RightParen us rest → Reads (in_parens l) ts e rest
  unfolding in_parens same
  reads_parens other h is = record { is = rw (other, h.is, not_at s.Comma is refl, at_is is, tail_is is, in_parens) refl }

  pub reads_tuple : {ts us vs ws rest : List Lex} {e : Ex} {es : List Ex} → is_at s.RightParen ts ≡ false → Reads (l k.Test) ts e us → Is s.Comma us vs
      → Reads (items l s.RightParen e) us es ws → Is s.RightParen ws rest → Reads (in_parens l) ts (t.tuple (exs_of es)) rest
  unfolding in_parens
  reads_tuple other h is i close_is = record { is = rw (other, h.is, at_is is, i.is, at_is close_is, tail_is close_is, in_parens) refl }

  pub reads_empty_list : {ts rest : List Lex} → Is s.RightBracket ts rest → Reads (in_brackets l) ts (t.list t.no_exs) rest
  unfolding in_brackets
  reads_empty_list is = record { is = rw (at_is is, tail_is is, in_brackets) refl }

  pub reads_list : {ts us vs rest : List Lex} {e : Ex} {es : List Ex} → is_at s.RightBracket ts ≡ false → Reads (l k.Test) ts e us → is_at s.For us ≡ false
      → Reads (items l s.RightBracket e) us es vs → Is s.RightBracket vs rest → Reads (in_brackets l) ts (t.list (exs_of es)) rest
  unfolding in_brackets
  reads_list other h not_for i close_is = record { is = rw (other, h.is, not_for, i.is, at_is close_is, tail_is close_is, in_brackets) refl }

  pub reads_list_of : {ts us vs rest : List Lex} {e : Ex} {cs : List Cl} → is_at s.RightBracket ts ≡ false → Reads (l k.Test) ts e us → is_at s.For us ≡ true
      → Reads (clauses l) us cs vs → Is s.RightBracket vs rest → Reads (in_brackets l) ts (t.list_of e (clauses_of cs)) rest
  unfolding in_brackets
  reads_list_of other h is_for i close_is = record { is = rw (other, h.is, is_for, i.is, at_is close_is, tail_is close_is, in_brackets) refl }

  items_turn : {us vs rest : List Lex} {e : Ex} (closer : Symbol) (es : List Ex) (n : ℕ) → Is s.Comma us vs → is_at closer vs ≡ false → Reads (l k.Test) vs e rest
      → items_after l closer (suc n) es us ≡ items_after l closer n (es ++ e ∷ []) rest
  unfolding items_after
  items_turn closer es n is other h = rw (at_is is, tail_is is, other, h.is, items_after) refl

  pub items_go : {from : Option (Part (List Ex))} {us vs rest : List Lex} {e : Ex} (closer : Symbol) (es : List Ex) → Comes from (λ n. items_after l closer n es us) us
      → Is s.Comma us vs → is_at closer vs ≡ false → Reads (l k.Test) vs e rest → length rest ≤ length vs → Comes from (λ n. items_after l closer n (es ++ e ∷ []) rest) rest
  items_go closer es c is other h fewer = comes_on c (let one = token_counts is in omega (arith, one, fewer)) (λ n. items_turn closer es n is other h)

  pub items_begin : (closer : Symbol) (e : Ex) (ts : List Lex) → Comes (items l closer e ts) (λ n. items_after l closer n (e ∷ []) ts) ts
  unfolding items
  items_begin closer e ts = record { turns = length ts; enough = omega arith; is = refl }

  items_comma : {us vs rest : List Lex} (closer : Symbol) (es : List Ex) (n : ℕ) → length us ≤ n → Is s.Comma us vs → Is closer vs rest → items_after l closer n es us ≡ gives es vs
  unfolding items_after
  items_comma closer es zero enough is close_is = absurd (let one = token_counts is in let none : ⊥ = omega (arith, one, enough) in none)
  items_comma closer es (suc n) enough is close_is = rw (at_is is, tail_is is, at_is close_is, items_after) refl

  items_end : (us : List Lex) (closer : Symbol) (es : List Ex) (n : ℕ) → is_at s.Comma us ≡ false → items_after l closer n es us ≡ gives es us
  unfolding items_after
  items_end us closer es zero other = refl
  items_end us closer es (suc n) other = rw (other, items_after) refl

  pub items_stop : {from : Option (Part (List Ex))} {us vs rest : List Lex} (closer : Symbol) (es : List Ex) → Comes from (λ n. items_after l closer n es us) us
      → IsCommaOrNone us vs → Is closer vs rest → is_at s.Comma vs ≡ false → from ≡ gives es vs
  items_stop closer es c (g.comma is) close_is other = c.is ∙ items_comma closer es c.turns c.enough is close_is
  items_stop {us} closer es c g.no_comma close_is other = c.is ∙ items_end us closer es c.turns other

  -- ---- dictionaries

  pub reads_empty_dict : {ts rest : List Lex} → Is s.RightBrace ts rest → Reads (in_braces l) ts (t.dict t.no_exs t.no_exs) rest
  unfolding in_braces
  reads_empty_dict is = record { is = rw (at_is is, tail_is is, in_braces) refl }

  pub reads_dict_from : {ts us vs ws rest : List Lex} {key value e : Ex} → is_at s.RightBrace ts ≡ false → Reads (l k.Test) ts key us → Is s.Colon us vs → Reads (l k.Test) vs value ws
      → Reads (dict_after l key value) ws e rest → Reads (in_braces l) ts e rest
  unfolding in_braces
  reads_dict_from other h is i j = record { is = rw (other, h.is, at_is is, tail_is is, i.is, in_braces) j.is }

  pub reads_dict_of : {ts us rest : List Lex} {cs : List Cl} (key value : Ex) → is_at s.For ts ≡ true → Reads (clauses l) ts cs us → Is s.RightBrace us rest
      → Reads (dict_after l key value) ts (t.dict_of key value (clauses_of cs)) rest
  unfolding dict_after
  reads_dict_of key value is_for h is = record { is = rw (is_for, h.is, at_is is, tail_is is, dict_after) refl }

  pub reads_dict : {ts us rest : List Lex} {found : Pairs} (key value : Ex) → is_at s.For ts ≡ false → Reads (entries l (record { keys = key ∷ []; values = value ∷ [] })) ts found us → Is s.RightBrace us rest
      → Reads (dict_after l key value) ts (t.dict (exs_of found.keys) (exs_of found.values)) rest
  unfolding dict_after
  reads_dict key value other h is = record { is = rw (other, h.is, at_is is, tail_is is, dict_after) refl }

  pub reads_entry : {ts us vs rest : List Lex} {key value : Ex} (ps : Pairs) → Reads (l k.Test) ts key us → Is s.Colon us vs → Reads (l k.Test) vs value rest → Reads (entry l ps) ts (with_pair ps key value) rest
  unfolding entry
  reads_entry ps h is i = record { is = rw (h.is, at_is is, tail_is is, i.is, entry) refl }

  entries_turn : {us vs rest : List Lex} {qs : Pairs} (ps : Pairs) (n : ℕ) → Is s.Comma us vs → is_at s.RightBrace vs ≡ false → Reads (entry l ps) vs qs rest
      → entries_after l (suc n) ps us ≡ entries_after l n qs rest
  unfolding entries_after
  entries_turn ps n is other h = rw (at_is is, tail_is is, other, h.is, entries_after) refl

  pub entries_go : {from : Option (Part Pairs)} {us vs rest : List Lex} {qs : Pairs} (ps : Pairs) → Comes from (λ n. entries_after l n ps us) us
      → Is s.Comma us vs → is_at s.RightBrace vs ≡ false → Reads (entry l ps) vs qs rest → length rest ≤ length vs → Comes from (λ n. entries_after l n qs rest) rest
  entries_go ps c is other h fewer = comes_on c (let one = token_counts is in omega (arith, one, fewer)) (λ n. entries_turn ps n is other h)

  pub entries_begin : (ps : Pairs) (ts : List Lex) → Comes (entries l ps ts) (λ n. entries_after l n ps ts) ts
  unfolding entries
  entries_begin ps ts = record { turns = length ts; enough = omega arith; is = refl }

  entries_comma : {us vs rest : List Lex} (ps : Pairs) (n : ℕ) → length us ≤ n → Is s.Comma us vs → Is s.RightBrace vs rest → entries_after l n ps us ≡ gives ps vs
  unfolding entries_after
  entries_comma ps zero enough is close_is = absurd (let one = token_counts is in let none : ⊥ = omega (arith, one, enough) in none)
  entries_comma ps (suc n) enough is close_is = rw (at_is is, tail_is is, at_is close_is, entries_after) refl

  entries_end : (us : List Lex) (ps : Pairs) (n : ℕ) → is_at s.Comma us ≡ false → entries_after l n ps us ≡ gives ps us
  unfolding entries_after
  entries_end us ps zero other = refl
  entries_end us ps (suc n) other = rw (other, entries_after) refl

  pub entries_stop : {from : Option (Part Pairs)} {us vs rest : List Lex} (ps : Pairs) → Comes from (λ n. entries_after l n ps us) us
      → IsCommaOrNone us vs → Is s.RightBrace vs rest → is_at s.Comma vs ≡ false → from ≡ gives ps vs
  entries_stop ps c (g.comma is) close_is other = c.is ∙ entries_comma ps c.turns c.enough is close_is
  entries_stop {us} ps c g.no_comma close_is other = c.is ∙ entries_end us ps c.turns other

  -- ---- arguments

  pub reads_plain : {ts rest : List Lex} {e : Ex} (es : List Ex) → is_name_before s.Equal ts ≡ false → Reads (l k.Test) ts e rest
      → Reads (argument l (record { values = es; names = [] })) ts (record { values = es ++ e ∷ []; names = [] }) rest
  unfolding argument
  reads_plain es other h = record { is = rw (other, h.is, argument) refl }

  pub reads_named : {ts us vs rest : List Lex} {x : List ℕ} {e : Ex} (found : Arguments) → IsToken (name x) ts us → Is s.Equal us vs → Reads (l k.Test) vs e rest
      → Reads (argument l found) ts (with_named found x e) rest
  unfolding argument is_name_before
  reads_named found is equal h = record { is = rw (name_is is, tail_is is, at_is equal, tail_is equal, h.is, argument, is_name_before) refl }

  -- what continues after an argument
  abbrev pub behind : Arguments → List Lex → ℕ → Option (Part Arguments)
  behind found us n = cond (is_at s.Comma us) (arguments_after l n found (tail us)) (gives found us)

  none_before : {ts rest : List Lex} (n : ℕ) → Is s.RightParen ts rest → arguments_after l n (record { values = []; names = [] }) ts ≡ gives (record { values = []; names = [] }) ts
  unfolding arguments_after
  none_before zero is = refl
  none_before (suc n) is = rw (at_is is, arguments_after) refl

  pub arguments_none : {ts rest : List Lex} → Is s.RightParen ts rest → Reads (arguments_so_far l) ts (record { values = []; names = [] }) ts
  unfolding arguments_so_far
  arguments_none {ts} is = record { is = none_before (length ts) is }

  one_argument : {us rest : List Lex} {found : Arguments} (before : Arguments) (n : ℕ) → is_at s.RightParen us ≡ false → Reads (argument l before) us found rest
      → arguments_after l (suc n) before us ≡ behind found rest n
  unfolding arguments_after
  one_argument before n other h = rw (other, h.is, arguments_after) refl

  pub arguments_begin : {ts rest : List Lex} {found : Arguments} → is_at s.RightParen ts ≡ false → Reads (argument l (record { values = []; names = [] })) ts found rest → suc (length rest) ≤ length ts
      → Comes (arguments_so_far l ts) (behind found rest) rest
  unfolding arguments_so_far
  arguments_begin {ts} {rest} {found} other h fewer =
      comes_on {loop = λ n. arguments_after l n (record { values = []; names = [] }) ts} (record { turns = length ts; enough = omega arith; is = refl }) fewer (λ n. one_argument (record { values = []; names = [] }) n other h)

  pub arguments_go : {from : Option (Part Arguments)} {us vs rest : List Lex} {found : Arguments} (before : Arguments) → Comes from (behind before us) us
      → Is s.Comma us vs → is_at s.RightParen vs ≡ false → Reads (argument l before) vs found rest → length rest ≤ length vs → Comes from (behind found rest) rest
  arguments_go before c is other h fewer =
      comes_on c (let one = token_counts is in omega (arith, one, fewer)) (λ n. rw (at_is is, tail_is is) (one_argument before n other h))

  stopped : {vs rest : List Lex} (found : Arguments) (n : ℕ) → Is s.RightParen vs rest → arguments_after l n found vs ≡ gives found vs
  unfolding arguments_after
  stopped found zero is = refl
  stopped found (suc n) is = rw (at_is is, arguments_after) refl

  pub arguments_stop : {from : Option (Part Arguments)} {us vs rest : List Lex} (found : Arguments) → Comes from (behind found us) us
      → IsCommaOrNone us vs → Is s.RightParen vs rest → is_at s.Comma vs ≡ false → from ≡ gives found vs
  arguments_stop found c (g.comma is) close_is other = c.is ∙ rw (at_is is, tail_is is) (stopped found c.turns close_is)
  arguments_stop found c g.no_comma close_is other = c.is ∙ rw other refl

  pub reads_arguments : {ts us rest : List Lex} {found : Arguments} → Reads (arguments_so_far l) ts found us → Is s.RightParen us rest → Reads (arguments l) ts found rest
  unfolding arguments
  reads_arguments h is = record { is = rw (h.is, at_is is, tail_is is, arguments) refl }

  -- ---- clauses

  pub clauses_begin : (ts : List Lex) → Comes (clauses l ts) (λ n. clauses_after l n [] ts) ts
  unfolding clauses
  clauses_begin ts = record { turns = length ts; enough = omega arith; is = refl }

  pub reads_for_clause : {ts us vs rest : List Lex} {target sequence : Ex} → Reads (targets l) ts target us → Is s.In us vs → Reads (l k.Or) vs sequence rest
      → Reads (for_clause l) ts (t.for_in target sequence) rest
  unfolding for_clause
  reads_for_clause h is i = record { is = rw (h.is, at_is is, tail_is is, i.is, for_clause) refl }

  for_turn : {us vs rest : List Lex} {c : Cl} (cs : List Cl) (n : ℕ) → Is s.For us vs → Reads (for_clause l) vs c rest → clauses_after l (suc n) cs us ≡ clauses_after l n (cs ++ c ∷ []) rest
  unfolding clauses_after
  for_turn cs n is h = rw (at_is is, tail_is is, h.is, clauses_after) refl

  if_turn : {us vs rest : List Lex} {e : Ex} (cs : List Cl) (n : ℕ) → Is s.If us vs → Reads (l k.Or) vs e rest → clauses_after l (suc n) cs us ≡ clauses_after l n (cs ++ t.only_if e ∷ []) rest
  unfolding clauses_after same
  if_turn cs n is h = rw (not_at s.For is refl, at_is is, tail_is is, h.is, clauses_after) refl

  pub for_goes : {from : Option (Part (List Cl))} {us vs rest : List Lex} {c : Cl} (cs : List Cl) → Comes from (λ n. clauses_after l n cs us) us → Is s.For us vs → Reads (for_clause l) vs c rest
      → length rest ≤ length vs → Comes from (λ n. clauses_after l n (cs ++ c ∷ []) rest) rest
  for_goes cs c is h fewer = comes_on c (let one = token_counts is in omega (arith, one, fewer)) (λ n. for_turn cs n is h)

  pub if_goes : {from : Option (Part (List Cl))} {us vs rest : List Lex} {e : Ex} (cs : List Cl) → Comes from (λ n. clauses_after l n cs us) us → Is s.If us vs → Reads (l k.Or) vs e rest
      → length rest ≤ length vs → Comes from (λ n. clauses_after l n (cs ++ t.only_if e ∷ []) rest) rest
  if_goes cs c is h fewer = comes_on c (let one = token_counts is in omega (arith, one, fewer)) (λ n. if_turn cs n is h)

  clauses_end : (us : List Lex) (cs : List Cl) (n : ℕ) → is_at s.For us ≡ false → is_at s.If us ≡ false → clauses_after l n cs us ≡ gives cs us
  unfolding clauses_after
  clauses_end us cs zero h i = refl
  clauses_end us cs (suc n) h i = rw (h, i, clauses_after) refl

  pub clauses_stop : {us ts : List Lex} {cs : List Cl} → Comes (clauses l ts) (λ n. clauses_after l n cs us) us → is_at s.For us ≡ false → is_at s.If us ≡ false → Reads (clauses l) ts cs us
  clauses_stop {us} {ts} {cs} c h i = record { is = comes_to c (λ n. clauses_end us cs n h i) }

  -- ---- targets

  pub reads_target : {ts rest : List Lex} {e : Ex} → Reads (l k.Postfix) ts e rest → is_target e ≡ true → Reads (target l) ts e rest
  unfolding target
  reads_target h is = record { is = rw (h.is, is, target) refl }

  pub reads_one_target : {ts rest : List Lex} {e : Ex} → Reads (target l) ts e rest → is_at s.Comma rest ≡ false → Reads (targets l) ts e rest
  unfolding targets
  reads_one_target h other = record { is = rw (h.is, other, targets) refl }

  pub reads_targets : {ts us rest : List Lex} {e : Ex} {es : List Ex} → Reads (target l) ts e us → is_at s.Comma us ≡ true → Reads (more_targets l e) us es rest → Reads (targets l) ts (t.tuple (exs_of es)) rest
  unfolding targets
  reads_targets h is i = record { is = rw (h.is, is, i.is, targets) refl }

  pub targets_begin : (e : Ex) (ts : List Lex) → Comes (more_targets l e ts) (λ n. targets_after l n (e ∷ []) ts) ts
  unfolding more_targets
  targets_begin e ts = record { turns = length ts; enough = omega arith; is = refl }

  target_turn : {us vs rest : List Lex} {e : Ex} (es : List Ex) (n : ℕ) → Is s.Comma us vs → Reads (target l) vs e rest → targets_after l (suc n) es us ≡ targets_after l n (es ++ e ∷ []) rest
  unfolding targets_after
  target_turn es n is h = rw (at_is is, tail_is is, h.is, targets_after) refl

  pub targets_go : {from : Option (Part (List Ex))} {us vs rest : List Lex} {e : Ex} (es : List Ex) → Comes from (λ n. targets_after l n es us) us → Is s.Comma us vs → Reads (target l) vs e rest
      → length rest ≤ length vs → Comes from (λ n. targets_after l n (es ++ e ∷ []) rest) rest
  targets_go es c is h fewer = comes_on c (let one = token_counts is in omega (arith, one, fewer)) (λ n. target_turn es n is h)

  targets_end : (us : List Lex) (es : List Ex) (n : ℕ) → is_at s.Comma us ≡ false → targets_after l n es us ≡ gives es us
  unfolding targets_after
  targets_end us es zero h = refl
  targets_end us es (suc n) h = rw (h, targets_after) refl

  pub targets_stop : {from : Option (Part (List Ex))} {us : List Lex} {es : List Ex} → Comes from (λ n. targets_after l n es us) us → is_at s.Comma us ≡ false → from ≡ gives es us
  targets_stop {from} {us} {es} c h = comes_to c (λ n. targets_end us es n h)
