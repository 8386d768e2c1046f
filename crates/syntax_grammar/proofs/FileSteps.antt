-- What each function that reads functions, loads and files gives, by what those that it calls give.
use Rattle.std.proofs.Common.{◌≡◌, ◌∙◌, ℕ, zero, suc, ◌≤◌, List, [], ◌∷◌, ◌++◌, length, true, false, cond, Option, Some, None, refl, arith}
use Rattle.std.specs.Prelude.{◌&&◌}
use Rattle.syntax_tokens.specs.declared.symbol.Symbol.TheVariants as s
use Rattle.syntax_tokens.specs.Token.{name, string, Lex}
use Rattle.syntax_tokens.specs.Strings.{unescaped}
use Rattle.syntax_tokens.specs.Words.{is_name_text}
use Rattle.syntax_tree.specs.Tree as t
use Rattle.syntax_tree.specs.Tree.{Ex, St, Pa, Fn, Tp, It, Ld, Fi}
use Rattle.syntax_tree.specs.Statements.{suite_of}
use Rattle.syntax_grammar.specs.declared.kind.FileKind.{FileKind}
use Rattle.syntax_grammar.specs.declared.kind.FileKind.TheVariants as kinds
use Rattle.syntax_grammar.specs.Front.{Part, gives, is_at, tail, line_at, text_at, is_end}
use Rattle.syntax_grammar.specs.Targets.{has_name, has_default}
use Rattle.syntax_grammar.specs.Statements.{a_test, simple, suite, stmt}
use Rattle.syntax_grammar.specs.Files.{param_rest, param, params, params_after, body, def_rest, a_string, a_name_string, item, items_after, more_items, load_rest, loads, loads_after, top, tops, tops_after, leading, file, is_some_text}
use Rattle.syntax_grammar.specs.Grammar as g
use Rattle.syntax_grammar.specs.Grammar.{IsToken, Is, IsCommaOrNone, at_top, in_def}
use Rattle.syntax_grammar.proofs.Stops.{front, tail_is, at_is}
use Rattle.syntax_grammar.proofs.Steps.{Reads, Comes, comes_on, comes_to, token_counts, name_is}

pub text_is : {x : List ℕ} {ts us : List Lex} → IsToken (string x) ts us → text_at ts ≡ Some x
unfolding text_at
text_is {x} is = front (λ xs. text_at xs ≡ Some x) is (λ line. refl)

pub text_of_name : {x : List ℕ} {ts us : List Lex} → IsToken (name x) ts us → text_at ts ≡ None
unfolding text_at
text_of_name {x} is = front (λ xs. text_at xs ≡ None) is (λ line. refl)

-- ---- parameters

pub param_plain : {ts us : List Lex} {x : List ℕ} (ps : List Pa) → IsToken (name x) ts us → has_name ps x ≡ false → is_at s.Equal us ≡ false → has_default ps ≡ false
    → Reads (param ps) ts (record { name = x; default = t.no_bound }) us
unfolding param param_rest
param_plain ps is h other none = record { is = rw (name_is is, tail_is is, h, other, none, param, param_rest) refl }

pub param_default : {ts us vs rest : List Lex} {x : List ℕ} {e : Ex} (ps : List Pa) → IsToken (name x) ts us → has_name ps x ≡ false → Is s.Equal us vs → Reads a_test vs e rest
    → Reads (param ps) ts (record { name = x; default = t.bound e }) rest
unfolding param param_rest
param_default ps is h equal i = record { is = rw (name_is is, tail_is is, h, at_is equal, tail_is equal, i.is, param, param_rest) refl }

-- what continues after a parameter
abbrev pub behind_param : List Pa → List Lex → ℕ → Option (Part (List Pa))
behind_param ps us n = cond (is_at s.Comma us) (params_after n ps (tail us)) (gives ps us)

stopped : {vs rest : List Lex} (ps : List Pa) (n : ℕ) → Is s.RightParen vs rest → params_after n ps vs ≡ gives ps vs
unfolding params_after
stopped ps zero is = refl
stopped ps (suc n) is = rw (at_is is, params_after) refl

pub params_none : {ts rest : List Lex} → Is s.RightParen ts rest → Reads params ts [] ts
unfolding params
params_none {ts} is = record { is = stopped [] (length ts) is }

one_param : {us rest : List Lex} {p : Pa} (ps : List Pa) (n : ℕ) → is_at s.RightParen us ≡ false → Reads (param ps) us p rest → params_after (suc n) ps us ≡ behind_param (ps ++ p ∷ []) rest n
unfolding params_after
one_param ps n other h = rw (other, h.is, params_after) refl

pub params_begin : {ts rest : List Lex} {p : Pa} → is_at s.RightParen ts ≡ false → Reads (param []) ts p rest → suc (length rest) ≤ length ts → Comes (params ts) (behind_param (p ∷ []) rest) rest
unfolding params
params_begin {ts} other h fewer = comes_on {loop = λ n. params_after n [] ts} (record { turns = length ts; enough = omega arith; is = refl }) fewer (λ n. one_param [] n other h)

pub params_go : {from : Option (Part (List Pa))} {us vs rest : List Lex} {p : Pa} (ps : List Pa) → Comes from (behind_param ps us) us → Is s.Comma us vs → is_at s.RightParen vs ≡ false
    → Reads (param ps) vs p rest → length rest ≤ length vs → Comes from (behind_param (ps ++ p ∷ []) rest) rest
params_go ps c is other h fewer = comes_on c (let one = token_counts is in omega (arith, one, fewer)) (λ n. rw (at_is is, tail_is is) (one_param ps n other h))

pub params_stop : {from : Option (Part (List Pa))} {us vs rest : List Lex} (ps : List Pa) → Comes from (behind_param ps us) us → IsCommaOrNone us vs → Is s.RightParen vs rest → is_at s.Comma vs ≡ false
    → from ≡ gives ps vs
params_stop ps c (g.comma is) close_is other = c.is ∙ rw (at_is is, tail_is is) (stopped ps c.turns close_is)
params_stop ps c g.no_comma close_is other = c.is ∙ rw other refl

-- ---- functions

pub reads_body : {ts rest : List Lex} {xs : List St} → Reads (suite (stmt 65) in_def) ts xs rest → Reads body ts xs rest
unfolding body
reads_body h = record { is = h.is }

pub reads_def : {ts us vs ws xs ys rest : List Lex} {x : List ℕ} {ps : List Pa} {zs : List St} (line : ℕ) → IsToken (name x) ts us → Is s.LeftParen us vs → Reads params vs ps ws → Is s.RightParen ws xs → Is s.Colon xs ys
    → Reads body ys zs rest → Reads (def_rest line) ts (record { line = line; name = x; params = ps; body = suite_of zs }) rest
unfolding def_rest
reads_def line is open_is h close_is colon i = record { is = rw (name_is is, tail_is is, at_is open_is, tail_is open_is, h.is, at_is close_is, tail_is close_is, at_is colon, tail_is colon, i.is, def_rest) refl }

-- ---- loads

pub reads_name_string : {ts us : List Lex} {written : List ℕ} → IsToken (string written) ts us → is_name_text written ≡ true → Reads a_name_string ts (unescaped written) us
unfolding a_name_string
reads_name_string is h = record { is = rw (text_is is, h, tail_is is, a_name_string) refl }

pub reads_same_name : {ts us : List Lex} {written : List ℕ} → IsToken (string written) ts us → is_name_text written ≡ true
    → Reads item ts (record { local = unescaped written; exported = unescaped written }) us
unfolding item
reads_same_name is h = record { is = rw (text_is is, (reads_name_string is h).is, item) refl }

pub reads_other_name : {ts us vs rest : List Lex} {x y : List ℕ} → IsToken (name x) ts us → Is s.Equal us vs → Reads a_name_string vs y rest → Reads item ts (record { local = x; exported = y }) rest
unfolding item
reads_other_name is equal h = record { is = rw (text_of_name is, name_is is, tail_is is, at_is equal, tail_is equal, h.is, item) refl }

pub items_begin : (x : It) (ts : List Lex) → Comes (more_items x ts) (λ n. items_after n (x ∷ []) ts) ts
unfolding more_items
items_begin x ts = record { turns = length ts; enough = omega arith; is = refl }

item_turn : {us vs rest : List Lex} {x : It} (xs : List It) (n : ℕ) → Is s.Comma us vs → is_at s.RightParen vs ≡ false → Reads item vs x rest → items_after (suc n) xs us ≡ items_after n (xs ++ x ∷ []) rest
unfolding items_after
item_turn xs n is other h = rw (at_is is, tail_is is, other, h.is, items_after) refl

pub items_go : {from : Option (Part (List It))} {us vs rest : List Lex} {x : It} (xs : List It) → Comes from (λ n. items_after n xs us) us → Is s.Comma us vs → is_at s.RightParen vs ≡ false → Reads item vs x rest
    → length rest ≤ length vs → Comes from (λ n. items_after n (xs ++ x ∷ []) rest) rest
items_go xs c is other h fewer = comes_on c (let one = token_counts is in omega (arith, one, fewer)) (λ n. item_turn xs n is other h)

items_comma : {us vs rest : List Lex} (xs : List It) (n : ℕ) → length us ≤ n → Is s.Comma us vs → Is s.RightParen vs rest → items_after n xs us ≡ gives xs vs
unfolding items_after
items_comma xs zero enough is close_is = absurd (let one = token_counts is in let none : ⊥ = omega (arith, one, enough) in none)
items_comma xs (suc n) enough is close_is = rw (at_is is, tail_is is, at_is close_is, items_after) refl

items_end : (us : List Lex) (xs : List It) (n : ℕ) → is_at s.Comma us ≡ false → items_after n xs us ≡ gives xs us
unfolding items_after
items_end us xs zero other = refl
items_end us xs (suc n) other = rw (other, items_after) refl

pub items_stop : {from : Option (Part (List It))} {us vs rest : List Lex} (xs : List It) → Comes from (λ n. items_after n xs us) us → IsCommaOrNone us vs → Is s.RightParen vs rest → is_at s.Comma vs ≡ false → from ≡ gives xs vs
items_stop xs c (g.comma is) close_is other = c.is ∙ items_comma xs c.turns c.enough is close_is
items_stop {us} xs c g.no_comma close_is other = c.is ∙ items_end us xs c.turns other

string_read : {ts us : List Lex} {written : List ℕ} → IsToken (string written) ts us → a_string ts ≡ gives (unescaped written) us
unfolding a_string
string_read is = rw (text_is is, tail_is is, a_string) refl

pub reads_load : {ts us vs ws xs ys zs rest : List Lex} {written : List ℕ} {x : It} {items : List It} (line : ℕ) → Is s.LeftParen ts us → IsToken (string written) us vs → Is s.Comma vs ws → Reads item ws x xs
    → Reads (more_items x) xs items ys → Is s.RightParen ys zs → Is s.NewLine zs rest → Reads (load_rest line) ts (record { line = line; label = unescaped written; items = items }) rest
unfolding load_rest
reads_load line open_is is comma h i close_is end =
    record { is = rw (at_is open_is, tail_is open_is, string_read is, at_is comma, tail_is comma, h.is, i.is, at_is close_is, tail_is close_is, at_is end, tail_is end, load_rest) refl }

pub loads_begin : (ts : List Lex) → Comes (loads ts) (λ n. loads_after n [] ts) ts
unfolding loads
loads_begin ts = record { turns = length ts; enough = omega arith; is = refl }

load_turn : {us vs rest : List Lex} {x : Ld} (xs : List Ld) (n : ℕ) → Is s.Load us vs → Reads (load_rest (line_at us)) vs x rest → loads_after (suc n) xs us ≡ loads_after n (xs ++ x ∷ []) rest
unfolding loads_after
load_turn xs n is h = rw (at_is is, tail_is is, h.is, loads_after) refl

pub loads_go : {from : Option (Part (List Ld))} {us vs rest : List Lex} {x : Ld} (xs : List Ld) → Comes from (λ n. loads_after n xs us) us → Is s.Load us vs → Reads (load_rest (line_at us)) vs x rest
    → length rest ≤ length vs → Comes from (λ n. loads_after n (xs ++ x ∷ []) rest) rest
loads_go xs c is h fewer = comes_on c (let one = token_counts is in omega (arith, one, fewer)) (λ n. load_turn xs n is h)

loads_end : (us : List Lex) (xs : List Ld) (n : ℕ) → is_at s.Load us ≡ false → loads_after n xs us ≡ gives xs us
unfolding loads_after
loads_end us xs zero h = refl
loads_end us xs (suc n) h = rw (h, loads_after) refl

pub loads_stop : {ts us : List Lex} {xs : List Ld} → Comes (loads ts) (λ n. loads_after n xs us) us → is_at s.Load us ≡ false → Reads loads ts xs us
loads_stop {ts} {us} {xs} c h = record { is = comes_to c (λ n. loads_end us xs n h) }

-- ---- files

pub reads_small_top : {ts rest : List Lex} {x : St} (kind : FileKind) → is_at s.Def ts ≡ false → Reads (simple at_top) ts x rest → Reads (top kind) ts (t.stmt x) rest
unfolding top
reads_small_top kinds.Build other h = record { is = rw (h.is, top) refl }
reads_small_top kinds.Bzl other h = record { is = rw (other, h.is, top) refl }

pub reads_def_top : {ts us rest : List Lex} {f : Fn} → Is s.Def ts us → Reads (def_rest (line_at ts)) us f rest → Reads (top kinds.Bzl) ts (t.def f) rest
unfolding top
reads_def_top is h = record { is = rw (at_is is, tail_is is, h.is, top) refl }

pub tops_begin : (kind : FileKind) (ts : List Lex) → Comes (tops kind ts) (λ n. tops_after kind n [] ts) ts
unfolding tops
tops_begin kind ts = record { turns = length ts; enough = omega arith; is = refl }

not_end : (us rest : List Lex) → suc (length rest) ≤ length us → is_end us ≡ false
unfolding is_end
not_end [] rest fewer = absurd (let none : ⊥ = omega (arith, fewer) in none)
not_end (x ∷ us) rest fewer = refl

top_turn : {us rest : List Lex} {x : Tp} (kind : FileKind) (xs : List Tp) (n : ℕ) → is_end us ≡ false → Reads (top kind) us x rest → tops_after kind (suc n) xs us ≡ tops_after kind n (xs ++ x ∷ []) rest
unfolding tops_after
top_turn kind xs n other h = rw (other, h.is, tops_after) refl

pub tops_go : {from : Option (Part (List Tp))} {us rest : List Lex} {x : Tp} (kind : FileKind) (xs : List Tp) → Comes from (λ n. tops_after kind n xs us) us → Reads (top kind) us x rest
    → suc (length rest) ≤ length us → Comes from (λ n. tops_after kind n (xs ++ x ∷ []) rest) rest
tops_go {us = us} {rest = rest} kind xs c h fewer = comes_on c fewer (λ n. top_turn kind xs n (not_end us rest fewer) h)

tops_end : (kind : FileKind) (xs : List Tp) (n : ℕ) → tops_after kind n xs [] ≡ gives xs []
unfolding tops_after is_end
tops_end kind xs zero = refl
tops_end kind xs (suc n) = refl

pub tops_stop : {ts : List Lex} {xs : List Tp} (kind : FileKind) → Comes (tops kind ts) (λ n. tops_after kind n xs []) [] → Reads (tops kind) ts xs []
tops_stop {ts} {xs} kind c = record { is = comes_to c (λ n. tops_end kind xs n) }

pub reads_leading : {ts us rest : List Lex} {written : List ℕ} → IsToken (string written) ts us → Is s.NewLine us rest → Reads leading ts (Some (line_at ts)) rest
unfolding leading
reads_leading is end = record { is = rw (text_is is, tail_is is, at_is end, tail_is end, leading) refl }

pub reads_no_leading : (ts : List Lex) → (is_some_text (text_at ts) && is_at s.NewLine (tail ts)) ≡ false → Reads leading ts None ts
unfolding leading
reads_no_leading ts h = record { is = rw (h, leading) refl }

pub reads_file : {ts us vs : List Lex} {l : Option ℕ} {ls : List Ld} {xs : List Tp} (kind : FileKind) → Reads leading ts l us → Reads loads us ls vs → Reads (tops kind) vs xs []
    → Reads (file kind) ts (record { leading = l; loads = ls; tops = xs }) []
unfolding file is_end
reads_file kind h i j = record { is = rw (h.is, i.is, j.is, file) refl }
