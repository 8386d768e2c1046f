-- What the functions read is what the grammar relates: functions, loads and files.
use Rattle.std.proofs.Common.{◌≡◌, ◌∙◌, ℕ, zero, suc, List, [], ◌∷◌, ◌++◌, length, true, false, Option, Some, None, refl, sym, ap, subst}
use Rattle.std.specs.Prelude.{◌&&◌}
use Rattle.std.proofs.lemmas.Bool.{and_parts, and_from, false≢true}
use Rattle.syntax_tokens.specs.declared.symbol.Symbol.TheVariants as s
use Rattle.syntax_tokens.specs.Token.{name, string, Lex}
use Rattle.syntax_tokens.specs.Strings.{unescaped}
use Rattle.syntax_tokens.specs.Words.{is_name_text}
use Rattle.syntax_tree.specs.Tree as t
use Rattle.syntax_tree.specs.Tree.{St, Pa, Fn, Tp, It, Ld, Fi}
use Rattle.syntax_grammar.specs.declared.kind.FileKind.{FileKind}
use Rattle.syntax_grammar.specs.declared.kind.FileKind.TheVariants as kinds
use Rattle.syntax_grammar.specs.Front.{Part, gives, and_then, is_at, tail, line_at, text_at, is_end}
use Rattle.syntax_grammar.specs.Targets.{has_name, has_default, is_bound}
use Rattle.syntax_grammar.specs.Statements.{a_test, simple, stmt}
use Rattle.syntax_grammar.specs.Files.{param_rest, param, params, params_after, body, def_rest, string_of, a_string, name_string_of, a_name_string, is_some_text, item, items_after, more_items, load_rest, loads, loads_after, top, tops, tops_after, leading, file}
use Rattle.syntax_grammar.specs.Grammar as g
use Rattle.syntax_grammar.specs.Grammar.{IsToken, Is, IsCommaOrNone, IsSuite, IsParam, IsSomeParams, IsParams, IsDef, IsNameString, IsItem, IsSomeItems, IsLoad, IsLoads, IsTop, IsTops, IsLeading, IsFile, in_def, at_top}
use Rattle.syntax_grammar.proofs.Starts.{is_next, text_next}
use Rattle.syntax_grammar.proofs.Stops.{tail_is, at_is}
use Rattle.syntax_grammar.proofs.FileSteps.{text_is}
use Rattle.syntax_grammar.proofs.Sound.{Sound, got, step, test_of, expected, named_by}
use Rattle.syntax_grammar.proofs.SoundStmts.{test_sound, simple_sound, suite_sound, stmt_sound}

-- ---- parameters

-- a parameter that may be after others
record Added (ps : List Pa) (ts : List Lex) (p : Pa) (rest : List Lex) : Type 0 where
  param : IsParam ts p rest
  new : has_name ps p.name ≡ false
  default : has_default ps ≡ true → is_bound p.default ≡ true

param_rest_sound : (ps : List Pa) (x : List ℕ) (ts : List Lex) (p : Part Pa) → IsToken (name x) ts (tail ts) → has_name ps x ≡ false → param_rest ps x (tail ts) ≡ Some p → Added ps ts p.value p.rest
unfolding param_rest
param_rest_sound ps x ts p is new h =
    test_of (is_at s.Equal (tail ts)) h
    (λ equal i. step _ (a_test (tail (tail ts))) i (λ q j m. got (Added ps ts) m
    (record { param = g.with_default is (is_next s.Equal (tail ts) equal) (test_sound (tail (tail ts)) q j); new = new; default = λ d. refl })))
    (λ other i. test_of (has_default ps) i (λ bad j. cc) (λ none j. got (Added ps ts) j (record { param = g.param is; new = new; default = λ d. absurd (false≢true (sym none ∙ d)) })))

param_sound : (ps : List Pa) → Sound (param ps) (Added ps)
unfolding param
param_sound ps ts p h = named_by _ ts h (λ x is i. test_of (has_name ps x) i (λ bad j. cc) (λ new j. param_rest_sound ps x ts p is new j))

data ParamsSoFar (start : List Lex) : List Pa → List Lex → Type 0 where
  begin : ParamsSoFar start [] start
  more : {ps : List Pa} {cs us : List Lex} → IsSomeParams start ps cs → Is s.Comma cs us → ParamsSoFar start ps us

params_close : {start us : List Lex} {ps : List Pa} → ParamsSoFar start ps us → IsParams start ps us
params_close begin = g.no_params
params_close (more d is) = g.params d (g.comma is)

with_param : {start us rest : List Lex} {ps : List Pa} {p : Pa} → ParamsSoFar start ps us → Added ps us p rest → IsSomeParams start (ps ++ p ∷ []) rest
with_param begin a = g.one_param a.param
with_param (more d is) a = g.more_params d is a.param a.new a.default

params_after_sound : (n : ℕ) (start us : List Lex) (ps : List Pa) (p : Part (List Pa)) → ParamsSoFar start ps us → params_after n ps us ≡ Some p → IsParams start p.value p.rest
unfolding params_after
params_after_sound zero start us ps p d h = got (IsParams start) h (params_close d)
params_after_sound (suc n) start us ps p d h =
    test_of (is_at s.RightParen us) h (λ close i. got (IsParams start) i (params_close d))
    (λ some i. step _ (param ps us) i (λ q j m. let a = with_param d (param_sound ps us q j) in
    test_of (is_at s.Comma q.rest) m
    (λ is o. params_after_sound n start (tail q.rest) (ps ++ q.value ∷ []) p (more a (is_next s.Comma q.rest is)) o)
    (λ other o. got (IsParams start) o (g.params a g.no_comma))))

params_sound : Sound params IsParams
unfolding params
params_sound ts p h = params_after_sound (length ts) ts ts [] p begin h

-- ---- functions

body_sound : Sound body (IsSuite in_def)
unfolding body
body_sound = suite_sound (stmt 65) (stmt_sound 65) in_def

def_sound : (ts : List Lex) (p : Part Fn) → Is s.Def ts (tail ts) → def_rest (line_at ts) (tail ts) ≡ Some p → IsDef ts p.value p.rest
unfolding def_rest
def_sound ts p is h =
    named_by _ (tail ts) h (λ x named i. expected _ s.LeftParen (tail (tail ts)) i (λ open_is j. step _ (params (tail (tail (tail ts)))) j (λ ps m n.
    expected _ s.RightParen ps.rest n (λ close_is o. expected _ s.Colon (tail ps.rest) o (λ colon v. step _ (body (tail (tail ps.rest))) v (λ xs w y.
    got (IsDef ts) y (g.function is named open_is (params_sound (tail (tail (tail ts))) ps m) close_is colon (body_sound (tail (tail ps.rest)) xs w))))))))

-- ---- loads

record Text (ts : List Lex) (x : List ℕ) (rest : List Lex) : Type 0 where
  written : List ℕ
  is : IsToken (string written) ts rest
  same : x ≡ unescaped written

string_of_sound : (ts : List Lex) (p : Part (List ℕ)) (o : Option (List ℕ)) → text_at ts ≡ o → string_of o ts ≡ Some p → Text ts p.value p.rest
string_of_sound ts p None is h = cc
string_of_sound ts p (Some written) is h = got (Text ts) h (record { written = written; is = text_next written ts is; same = refl })

string_sound : Sound a_string Text
unfolding a_string
string_sound ts p h = string_of_sound ts p (text_at ts) refl h

name_string_of_sound : (ts : List Lex) (p : Part (List ℕ)) (o : Option (List ℕ)) → text_at ts ≡ o → name_string_of o ts ≡ Some p → IsNameString ts p.value p.rest
name_string_of_sound ts p None is h = cc
name_string_of_sound ts p (Some written) is h = test_of (is_name_text written) h (λ ok i. got (IsNameString ts) i (g.name_string (text_next written ts is) ok)) (λ bad i. cc)

name_string_sound : Sound a_name_string IsNameString
unfolding a_name_string
name_string_sound ts p h = name_string_of_sound ts p (text_at ts) refl h

item_sound : Sound item IsItem
unfolding item
item_sound ts p h =
    test_of (is_some_text (text_at ts)) h (λ text i. step _ (a_name_string ts) i (λ q j m. got (IsItem ts) m (g.same_name (name_string_sound ts q j))))
    (λ other i. named_by _ ts i (λ x is j. expected _ s.Equal (tail ts) j (λ equal m. step _ (a_name_string (tail (tail ts))) m (λ q n o. got (IsItem ts) o (g.other_name is equal (name_string_sound (tail (tail ts)) q n))))))

record ItemList (start : List Lex) (xs : List It) (rest : List Lex) : Type 0 where
  us : List Lex
  items : IsSomeItems start xs us
  last : IsCommaOrNone us rest

items_after_sound : (n : ℕ) (start us : List Lex) (xs : List It) (p : Part (List It)) → IsSomeItems start xs us → items_after n xs us ≡ Some p → ItemList start p.value p.rest
unfolding items_after
items_after_sound zero start us xs p d h = got (ItemList start) h (record { us = us; items = d; last = g.no_comma })
items_after_sound (suc n) start us xs p d h =
    test_of (is_at s.Comma us) h
    (λ is i. test_of (is_at s.RightParen (tail us)) i (λ close j. got (ItemList start) j (record { us = us; items = d; last = g.comma (is_next s.Comma us is) }))
    (λ more j. step _ (item (tail us)) j (λ q m o. items_after_sound n start q.rest (xs ++ q.value ∷ []) p (g.more_items d (is_next s.Comma us is) (item_sound (tail us) q m)) o)))
    (λ other i. got (ItemList start) i (record { us = us; items = d; last = g.no_comma }))

load_sound : (ts : List Lex) (p : Part Ld) → Is s.Load ts (tail ts) → load_rest (line_at ts) (tail ts) ≡ Some p → IsLoad ts p.value p.rest
unfolding load_rest more_items
load_sound ts p is h =
    expected _ s.LeftParen (tail ts) h (λ open_is i. step _ (a_string (tail (tail ts))) i (λ label j m. let text = string_sound (tail (tail ts)) label j in
    expected _ s.Comma label.rest m (λ comma n. step _ (item (tail label.rest)) n (λ x o v. step _ (more_items x.value x.rest) v (λ xs w y.
    let items = items_after_sound (length x.rest) (tail label.rest) x.rest (x.value ∷ []) xs (g.one_item (item_sound (tail label.rest) x o)) w in
    expected _ s.RightParen xs.rest y (λ close z. expected _ s.NewLine (tail xs.rest) z (λ end last. got (IsLoad ts) last
    (subst (λ a. IsLoad ts (record { line = line_at ts; label = a; items = xs.value }) (tail (tail xs.rest))) (sym text.same) (g.load is open_is text.is comma items.items items.last close end)))))))))

loads_after_sound : (n : ℕ) (start us : List Lex) (xs : List Ld) (p : Part (List Ld)) → IsLoads start xs us → loads_after n xs us ≡ Some p → IsLoads start p.value p.rest
unfolding loads_after
loads_after_sound zero start us xs p d h = got (IsLoads start) h d
loads_after_sound (suc n) start us xs p d h =
    test_of (is_at s.Load us) h
    (λ is i. step _ (load_rest (line_at us) (tail us)) i (λ q j m. loads_after_sound n start q.rest (xs ++ q.value ∷ []) p (g.more_loads d (load_sound us q (is_next s.Load us is) j)) m))
    (λ other i. got (IsLoads start) i d)

loads_sound : Sound loads IsLoads
unfolding loads
loads_sound ts p h = loads_after_sound (length ts) ts ts [] p g.no_loads h

-- ---- files

small_top_sound : (kind : FileKind) (ts : List Lex) (p : Part Tp) → and_then (simple at_top ts) (λ x. gives (t.stmt x)) ≡ Some p → IsTop kind ts p.value p.rest
small_top_sound kind ts p h = step _ (simple at_top ts) h (λ q i j. got (IsTop kind ts) j (g.top_small (simple_sound at_top ts q i)))

top_sound : (kind : FileKind) → Sound (top kind) (IsTop kind)
unfolding top
top_sound kinds.Build ts p h = small_top_sound kinds.Build ts p h
top_sound kinds.Bzl ts p h =
    test_of (is_at s.Def ts) h (λ is i. step _ (def_rest (line_at ts) (tail ts)) i (λ q j m. got (IsTop kinds.Bzl ts) m (g.top_def (def_sound ts q (is_next s.Def ts is) j))))
    (λ other i. small_top_sound kinds.Bzl ts p i)

tops_after_sound : (kind : FileKind) (n : ℕ) (start us : List Lex) (xs : List Tp) (p : Part (List Tp)) → IsTops kind start xs us → tops_after kind n xs us ≡ Some p → IsTops kind start p.value p.rest
unfolding tops_after
tops_after_sound kind zero start us xs p d h = got (IsTops kind start) h d
tops_after_sound kind (suc n) start us xs p d h =
    test_of (is_end us) h (λ end i. got (IsTops kind start) i d)
    (λ more i. step _ (top kind us) i (λ q j m. tops_after_sound kind n start q.rest (xs ++ q.value ∷ []) p (g.more_tops d (top_sound kind us q j)) m))

tops_sound : (kind : FileKind) → Sound (tops kind) (IsTops kind)
unfolding tops
tops_sound kind ts p h = tops_after_sound kind (length ts) ts ts [] p g.no_tops h

leading_text : (ts : List Lex) (o : Option (List ℕ)) → text_at ts ≡ o → is_some_text o ≡ true → Is s.NewLine (tail ts) (tail (tail ts)) → IsLeading ts (Some (line_at ts)) (tail (tail ts))
leading_text ts None is some end = absurd (false≢true some)
leading_text ts (Some written) is some end = g.leading (text_next written ts is) end

leading_sound : Sound leading IsLeading
unfolding leading
leading_sound ts p h =
    test_of (is_some_text (text_at ts) && is_at s.NewLine (tail ts)) h
    (λ both i. let parts = and_parts (is_some_text (text_at ts)) (is_at s.NewLine (tail ts)) both in
    got (IsLeading ts) i (leading_text ts (text_at ts) refl parts.0 (is_next s.NewLine (tail ts) parts.1)))
    (λ other i. got (IsLeading ts) i (g.no_leading (λ written us rest is end.
    false≢true (sym other ∙ and_from (is_some_text (text_at ts)) (is_at s.NewLine (tail ts)) (ap is_some_text (text_is is)) (ap (is_at s.NewLine) (tail_is is) ∙ at_is end)))))

none_left : (ts : List Lex) → is_end ts ≡ true → ts ≡ []
unfolding is_end
none_left [] h = refl
none_left (x ∷ ts) h = absurd (false≢true h)

pub file_sound : (kind : FileKind) (ts : List Lex) (p : Part Fi) → file kind ts ≡ Some p → IsFile kind ts p.value
unfolding file
file_sound kind ts p h =
    step _ (leading ts) h (λ l i j. step _ (loads l.rest) j (λ ls m n. step _ (tops kind ls.rest) n (λ xs o v.
    test_of (is_end xs.rest) v
    (λ end w. got (λ f rest. IsFile kind ts f) w (g.file (leading_sound ts l i) (loads_sound l.rest ls m) (subst (IsTops kind ls.rest xs.value) (none_left xs.rest end) (tops_sound kind ls.rest xs o))))
    (λ other w. cc))))
