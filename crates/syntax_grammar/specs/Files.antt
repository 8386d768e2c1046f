-- How the tokens of a file are read, and what a text is parsed to.
use Rattle.std.specs.Prelude.{ℕ, zero, suc, List, [], ◌∷◌, ◌++◌, Bool, true, false, ◌&&◌, length, if◌then◌else◌, Option, Some, None, Result, Ok, Err}
use Rattle.values_semantics.specs.declared.faults.TheConstants.{SYNTAX}
use Rattle.syntax_tokens.specs.declared.symbol.Symbol.TheVariants as s
use Rattle.syntax_tokens.specs.Token.{Lex}
use Rattle.syntax_tokens.specs.Reading.{Fault, fault, tokens_of}
use Rattle.syntax_tokens.specs.Strings.{unescaped}
use Rattle.syntax_tokens.specs.Words.{is_name_text}
use Rattle.syntax_tree.specs.Tree as t
use Rattle.syntax_tree.specs.Tree.{Bound, St, Pa, Fn, Tp, It, Ld, Fi}
use Rattle.syntax_tree.specs.Statements.{suite_of}
use Rattle.syntax_grammar.specs.declared.kind.FileKind.{FileKind}
use Rattle.syntax_grammar.specs.declared.kind.FileKind.TheVariants as kinds
use Rattle.syntax_grammar.specs.Front.{Part, Reading, gives, and_then, ◌>>=◌, is_at, tail, expect, line_at, a_name, text_at, is_end}
use Rattle.syntax_grammar.specs.Targets.{has_name, has_default}
use Rattle.syntax_grammar.specs.Statements.{a_test, simple, suite, stmt}

-- ---- functions

-- no parameter without a default follows one with a default
unfoldable pub param_rest : List Pa → List ℕ → Reading Pa
param_rest ps x ts =
    if is_at s.Equal ts then and_then (a_test (tail ts)) (λ e. gives (record { name = x; default = t.bound e }))
    else if has_default ps then None
    else gives (record { name = x; default = t.no_bound }) ts

-- Param, after the parameters so far; no two have one name
unfoldable pub param : List Pa → Reading Pa
param ps ts = and_then (a_name ts) (λ x us. if has_name ps x then None else param_rest ps x us)

unfoldable pub params_after : ℕ → List Pa → Reading (List Pa)
params_after zero ps ts = gives ps ts
params_after (suc n) ps ts =
    if is_at s.RightParen ts then gives ps ts
    else and_then (param ps ts) (λ p us. if is_at s.Comma us then params_after n (ps ++ p ∷ []) (tail us) else gives (ps ++ p ∷ []) us)

-- [Param {',' Param} [',']] before a closing bracket
unfoldable pub params : Reading (List Pa)
params ts = params_after (length ts) [] ts

-- the suite of a function
unfoldable pub body : Reading (List St)
body = suite (stmt 65) (record { in_def = true; in_for = false })

-- Def, after its 'def'
unfoldable pub def_rest : ℕ → Reading Fn
def_rest line ts = and_then (a_name ts) (λ x. expect s.LeftParen >>= λ _. params >>= λ ps. expect s.RightParen >>= λ _. expect s.Colon >>= λ _. body >>= λ xs.
    gives (record { line = line; name = x; params = ps; body = suite_of xs }))

-- ---- loads

abbrev pub string_of : Option (List ℕ) → Reading (List ℕ)
string_of None ts = None
string_of (Some written) ts = gives (unescaped written) (tail ts)

-- STRING, as the text that it stands for
unfoldable pub a_string : Reading (List ℕ)
a_string ts = string_of (text_at ts) ts

abbrev pub name_string_of : Option (List ℕ) → Reading (List ℕ)
name_string_of None ts = None
name_string_of (Some written) ts = if is_name_text written then gives (unescaped written) (tail ts) else None

-- a STRING that is a name
unfoldable pub a_name_string : Reading (List ℕ)
a_name_string ts = name_string_of (text_at ts) ts

abbrev pub is_some_text : Option (List ℕ) → Bool
is_some_text None = false
is_some_text (Some written) = true

-- Item
unfoldable pub item : Reading It
item ts =
    if is_some_text (text_at ts) then and_then (a_name_string ts) (λ x. gives (record { local = x; exported = x }))
    else and_then (a_name ts) (λ x. expect s.Equal >>= λ _. a_name_string >>= λ y. gives (record { local = x; exported = y }))

-- {',' Item} [','] before a closing bracket
unfoldable pub items_after : ℕ → List It → Reading (List It)
items_after zero xs ts = gives xs ts
items_after (suc n) xs ts =
    if is_at s.Comma ts then
    (if is_at s.RightParen (tail ts) then gives xs (tail ts)
    else and_then (item (tail ts)) (λ x. items_after n (xs ++ x ∷ [])))
    else gives xs ts

unfoldable pub more_items : It → Reading (List It)
more_items x ts = items_after (length ts) (x ∷ []) ts

-- Load NEWLINE, after its 'load'
unfoldable pub load_rest : ℕ → Reading Ld
load_rest line ts = and_then (expect s.LeftParen ts) (λ _. a_string >>= λ label. expect s.Comma >>= λ _. item >>= λ x. more_items x >>= λ xs. expect s.RightParen >>= λ _. expect s.NewLine >>= λ _.
    gives (record { line = line; label = label; items = xs }))

unfoldable pub loads_after : ℕ → List Ld → Reading (List Ld)
loads_after zero xs ts = gives xs ts
loads_after (suc n) xs ts = if is_at s.Load ts then and_then (load_rest (line_at ts) (tail ts)) (λ x. loads_after n (xs ++ x ∷ [])) else gives xs ts

-- {Load NEWLINE}
unfoldable pub loads : Reading (List Ld)
loads ts = loads_after (length ts) [] ts

-- ---- files

abbrev pub has_defs : FileKind → Bool
has_defs kinds.Build = false
has_defs kinds.Bzl = true

-- Top; a `def` is in a Bzl file only
unfoldable pub top : FileKind → Reading Tp
top kind ts =
    if has_defs kind && is_at s.Def ts then and_then (def_rest (line_at ts) (tail ts)) (λ f. gives (t.def f))
    else and_then (simple (record { in_def = false; in_for = false }) ts) (λ x. gives (t.stmt x))

unfoldable pub tops_after : FileKind → ℕ → List Tp → Reading (List Tp)
tops_after kind zero xs ts = gives xs ts
tops_after kind (suc n) xs ts = if is_end ts then gives xs ts else and_then (top kind ts) (λ x. tops_after kind n (xs ++ x ∷ []))

-- {Top}
unfoldable pub tops : FileKind → Reading (List Tp)
tops kind ts = tops_after kind (length ts) [] ts

-- [STRING NEWLINE], as its line
unfoldable pub leading : Reading (Option ℕ)
leading ts = if is_some_text (text_at ts) && is_at s.NewLine (tail ts) then gives (Some (line_at ts)) (tail (tail ts)) else gives None ts

abbrev pub at_end : Fi → Reading Fi
at_end f ts = if is_end ts then gives f ts else None

-- File
unfoldable pub file : FileKind → Reading Fi
file kind ts = and_then (leading ts) (λ l. loads >>= λ ls. tops kind >>= λ xs. at_end (record { leading = l; loads = ls; tops = xs }))

abbrev pub file_or_fault : Option (Part Fi) → Result Fi Fault
file_or_fault None = fault SYNTAX 0
file_or_fault (Some part) = Ok part.value

abbrev pub file_of_tokens : FileKind → Result (List Lex) Fault → Result Fi Fault
file_of_tokens kind (Err e) = Err e
file_of_tokens kind (Ok ts) = file_or_fault (file kind ts)

-- The first of these that applies: the fault of the tokens; 3 if they are no file; the tree.
unfoldable pub parse_of : FileKind → List ℕ → Result Fi Fault
parse_of kind bytes = file_of_tokens kind (tokens_of bytes)
