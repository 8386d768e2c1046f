-- What the grammar relates is what the functions read, where no token is nested deeper than 64: functions, loads and
-- files.
use Rattle.std.proofs.Common.{◌≡◌, ℕ, suc, ◌+◌, ◌≤◌, List, [], ◌∷◌, length, Bool, true, false, Option, Some, None, refl, arith}
use Rattle.std.specs.Prelude.{◌&&◌}
use Rattle.std.proofs.lemmas.Bool.{false≢true}
use Rattle.syntax_tokens.specs.declared.symbol.Symbol.TheVariants as s
use Rattle.syntax_tokens.specs.Token.{name, Lex}
use Rattle.syntax_tokens.specs.Nesting.{outermost, too_deep}
use Rattle.syntax_tree.specs.Tree as t
use Rattle.syntax_tree.specs.Tree.{Pa, Fn, Tp, It, Ld, Fi}
use Rattle.syntax_grammar.specs.declared.kind.FileKind.{FileKind}
use Rattle.syntax_grammar.specs.declared.kind.Kind.TheVariants as k
use Rattle.syntax_grammar.specs.Front.{is_at, tail, same, line_at, text_at}
use Rattle.syntax_grammar.specs.Targets.{has_name, has_default, is_bound}
use Rattle.syntax_grammar.specs.Statements.{a_test}
use Rattle.syntax_grammar.specs.Files.{param, params, item, items_after, more_items, loads, loads_after, load_rest, top, tops, tops_after, leading, file, is_some_text}
use Rattle.syntax_grammar.specs.Grammar as g
use Rattle.syntax_grammar.specs.Grammar.{IsToken, Is, IsCommaOrNone, IsParam, IsSomeParams, IsParams, IsDef, IsItem, IsSomeItems, IsLoad, IsLoads, IsTop, IsTops, IsLeading, IsFile, IsTest}
use Rattle.syntax_grammar.proofs.Fits.{Fits, Went, passed, separated, opened, closed, begins, after, from_none}
use Rattle.syntax_grammar.proofs.Moves.{MovesOn, test_moves, comma_moves}
use Rattle.syntax_grammar.proofs.Rooms.{Inside, inside_can, inside_separated, inside_passed, inside_fewer, nested, inside_after_list}
use Rattle.syntax_grammar.proofs.Starts.{is_next, text_next, simple_starts}
use Rattle.syntax_grammar.proofs.Steps.{Reads, Comes, token_counts}
use Rattle.syntax_grammar.proofs.Complete.{test_reads}
use Rattle.syntax_grammar.proofs.Lines.{Line, Passed, then, line_begins, line_token, line_ends, simple_passes, suite_passes}
use Rattle.syntax_grammar.proofs.StmtSteps.{reads_test}
use Rattle.syntax_grammar.proofs.CompleteStmts.{simple_reads, suite_reads}
use Rattle.syntax_grammar.proofs.FileSteps as f
use Rattle.syntax_grammar.proofs.FileSteps.{behind_param}
use Rattle.syntax_grammar.proofs.Stops.{not_at, StopsTest, comma_stops, paren_stops, comma_not_equal, paren_not_equal, paren_not_comma}

-- ---- counts

param_moves : {ts rest : List Lex} {p : Pa} → IsParam ts p rest → (i : ℕ) (o : List ℕ) → MovesOn 1 i o ts rest
param_moves (g.param is) i o c x = from_none (passed (begins x) is refl)
param_moves (g.with_default is equal d) i o c x = from_none (after (passed (passed (begins x) is refl) equal refl) (test_moves d i o))

behind_comma : {i : ℕ} {o : List ℕ} {ts us vs rest : List Lex} → Went 1 0 i o ts us → Is s.Comma us vs → ((c : ℕ) → Fits i c o vs → Went 1 0 i o vs rest) → Went 1 0 i o ts rest
behind_comma w is h =
    let x = separated w is refl in
    let y = h x.count x.fits in
    record { count = y.count; more = y.more; fits = y.fits; shorter = omega (arith, x.shorter, y.shorter) }

some_params_moves : {ts rest : List Lex} {ps : List Pa} → IsSomeParams ts ps rest → (i : ℕ) (o : List ℕ) → MovesOn 1 i o ts rest
some_params_moves (g.one_param d) i o c x = param_moves d i o c x
some_params_moves (g.more_params d is p h j) i o c x = behind_comma (some_params_moves d i o c x) is (param_moves p i o)

params_moves : {ts rest : List Lex} {ps : List Pa} → IsParams ts ps rest → (i : ℕ) (o : List ℕ) → MovesOn 0 i o ts rest
params_moves g.no_params i o c x = from_none (begins x)
params_moves (g.params d last) i o c x = comma_moves (some_params_moves d i o c x) last

item_moves : {ts rest : List Lex} {x : It} → IsItem ts x rest → (i : ℕ) (o : List ℕ) → MovesOn 1 i o ts rest
item_moves (g.same_name (g.name_string is h)) i o c x = from_none (passed (begins x) is refl)
item_moves (g.other_name is equal (g.name_string j h)) i o c x = from_none (passed (passed (passed (begins x) is refl) equal refl) j refl)

some_items_moves : {ts rest : List Lex} {xs : List It} → IsSomeItems ts xs rest → (i : ℕ) (o : List ℕ) → MovesOn 1 i o ts rest
some_items_moves (g.one_item d) i o c x = item_moves d i o c x
some_items_moves (g.more_items d is e) i o c x = behind_comma (some_items_moves d i o c x) is (item_moves e i o)

went_passed : {i b : ℕ} {ts rest : List Lex} → Went 1 b i [] ts rest → Passed 1 i ts rest
went_passed w = record { line = record { count = w.count; fits = w.fits }; shorter = w.shorter }

def_passes : {ts rest : List Lex} {d : Fn} → IsDef ts d rest → (i : ℕ) → Line i ts → Passed 1 i ts rest
def_passes (g.function is named open_is ps close_is colon d) i x =
    let w = passed (passed (begins x.fits) is refl) named refl in
    let y = closed w open_is (params_moves ps i ((w.count + 1) ∷ []) 0 (opened w open_is refl)) close_is refl in
    then (then (went_passed y) (line_token colon refl)) (suite_passes d i)

load_passes : {ts rest : List Lex} {d : Ld} → IsLoad ts d rest → (i : ℕ) → Line i ts → Passed 1 i ts rest
load_passes (g.load is open_is text comma_is items last close_is end) i x =
    let w = passed (begins x.fits) is refl in
    let y = closed w open_is (comma_moves (behind_comma (from_none (passed (begins (opened w open_is refl)) text refl)) comma_is (some_items_moves items i ((w.count + 1) ∷ []))) last) close_is refl in
    then (went_passed y) (line_ends end)

loads_pass : {ts rest : List Lex} {ds : List Ld} → IsLoads ts ds rest → (i : ℕ) → Line i ts → Passed 0 i ts rest
loads_pass g.no_loads i x = line_begins x
loads_pass (g.more_loads d e) i x = let p = then (loads_pass d i x) (load_passes e i) in record { line = p.line; shorter = omega (arith, p.shorter) }

top_passes : {kind : FileKind} {ts rest : List Lex} {x : Tp} → IsTop kind ts x rest → (i : ℕ) → Line i ts → Passed 1 i ts rest
top_passes (g.top_small d) i x = simple_passes d i x
top_passes (g.top_def d) i x = def_passes d i x

tops_pass : {kind : FileKind} {ts rest : List Lex} {xs : List Tp} → IsTops kind ts xs rest → (i : ℕ) → Line i ts → Passed 0 i ts rest
tops_pass g.no_tops i x = line_begins x
tops_pass (g.more_tops d e) i x = let p = then (tops_pass d i x) (top_passes e i) in record { line = p.line; shorter = omega (arith, p.shorter) }

-- ---- parameters

test_inside : {ts rest : List Lex} {e : t.Ex} → IsTest ts e rest → Inside 65 ts → StopsTest rest → Reads a_test ts e rest
test_inside d x stops = reads_test (nested k.Test (inside_can x) (λ n y. test_reads d n y stops))

no_default : (b : Bool) → (b ≡ true → false ≡ true) → b ≡ false
no_default true h = absurd (false≢true (h refl))
no_default false h = refl

param_read : {ts rest : List Lex} {p : Pa} → IsParam ts p rest → Inside 65 ts → (ps : List Pa) → has_name ps p.name ≡ false → (has_default ps ≡ true → is_bound p.default ≡ true)
    → StopsTest rest × (is_at s.Equal rest ≡ false) → Reads (param ps) ts p rest
param_read (g.param is) x ps h i ends = f.param_plain ps is h ends.1 (no_default (has_default ps) i)
param_read (g.with_default is equal d) x ps h i ends = f.param_default ps is h equal (test_inside d (inside_passed (inside_passed x is refl) equal refl) ends.0)

param_begins : {ts rest : List Lex} {p : Pa} → IsParam ts p rest → is_at s.RightParen ts ≡ false
param_begins (g.param is) = not_at s.RightParen is refl
param_begins (g.with_default is equal d) = not_at s.RightParen is refl

params_come : {ts us : List Lex} {ps : List Pa} → IsSomeParams ts ps us → Inside 65 ts → StopsTest us × (is_at s.Equal us ≡ false) → Comes (params ts) (behind_param ps us) us
params_come (g.one_param d) x ends = f.params_begin (param_begins d) (param_read d x [] refl (λ h. absurd (false≢true h)) ends) (let fewer = inside_fewer x (param_moves d) in omega (arith, fewer))
params_come (g.more_params {ps = ps} d is p h i) x ends =
    let y = inside_separated (inside_after_list x (some_params_moves d)) is refl in
    let fewer = inside_fewer y (param_moves p) in
    f.params_go ps (params_come d x (comma_stops is, comma_not_equal is)) is (param_begins p) (param_read p y ps h i ends) (omega (arith, fewer))

params_end : {us vs rest : List Lex} → IsCommaOrNone us vs → Is s.RightParen vs rest → StopsTest us × (is_at s.Equal us ≡ false)
params_end (g.comma is) close_is = (comma_stops is, comma_not_equal is)
params_end g.no_comma close_is = (paren_stops close_is, paren_not_equal close_is)

params_read : {ts us rest : List Lex} {ps : List Pa} → IsParams ts ps us → Inside 65 ts → Is s.RightParen us rest → Reads params ts ps us
params_read g.no_params x close_is = f.params_none close_is
params_read (g.params {ps = ps} d last) x close_is = record { is = f.params_stop ps (params_come d x (params_end last close_is)) last close_is (paren_not_comma close_is) }

-- ---- loads

item_read : {ts rest : List Lex} {x : It} → IsItem ts x rest → Reads item ts x rest
item_read (g.same_name (g.name_string is h)) = f.reads_same_name is h
item_read (g.other_name is equal (g.name_string j h)) = f.reads_other_name is equal (f.reads_name_string j h)

item_begins : {ts rest : List Lex} {x : It} → IsItem ts x rest → is_at s.RightParen ts ≡ false
item_begins (g.same_name (g.name_string is h)) = not_at s.RightParen is refl
item_begins (g.other_name is equal d) = not_at s.RightParen is refl

item_fewer : {ts rest : List Lex} {x : It} → IsItem ts x rest → suc (length rest) ≤ length ts
item_fewer (g.same_name (g.name_string is h)) = let one = token_counts is in omega (arith, one)
item_fewer (g.other_name is equal (g.name_string j h)) =
    let one = token_counts is in
    let two = token_counts equal in
    let three = token_counts j in
    omega (arith, one, two, three)

record Itemed (ts : List Lex) (xs : List It) (us : List Lex) : Type 0 where
  first : It
  left : List Lex
  reads : Reads item ts first left
  comes : Comes (more_items first left) (λ n. items_after n xs us) us

items_listed : {ts us : List Lex} {xs : List It} → IsSomeItems ts xs us → Itemed ts xs us
items_listed {us} (g.one_item {x = x} d) = record { first = x; left = us; reads = item_read d; comes = f.items_begin x us }
items_listed (g.more_items {xs = xs} d is e) =
    let first = items_listed d in
    let fewer = item_fewer e in
    record { first = first.first; left = first.left; reads = first.reads; comes = f.items_go xs first.comes is (item_begins e) (item_read e) (omega (arith, fewer)) }

record Loaded (ts : List Lex) (d : Ld) (rest : List Lex) : Type 0 where
  behind : List Lex
  is : Is s.Load ts behind
  reads : Reads (load_rest (line_at ts)) behind d rest

load_read : {ts rest : List Lex} {d : Ld} → IsLoad ts d rest → Loaded ts d rest
load_read {ts} (g.load {us = us} {items = items} is open_is text comma_is d last close_is end) =
    let first = items_listed d in
    record {
      behind = us;
      is = is;
      reads = f.reads_load (line_at ts) open_is text comma_is first.reads (record { is = f.items_stop items first.comes last close_is (paren_not_comma close_is) }) close_is end;
    }

loads_come : {ts us : List Lex} {ds : List Ld} → IsLoads ts ds us → Line 0 ts → Comes (loads ts) (λ n. loads_after n ds us) us
loads_come {ts} g.no_loads x = f.loads_begin ts
loads_come (g.more_loads {ls = ds} d e) x =
    let one = load_read e in
    let fewer = load_passes e 0 (loads_pass d 0 x).line in
    let token = token_counts one.is in
    f.loads_go ds (loads_come d x) one.is one.reads (omega (arith, fewer.shorter, token))

-- ---- files

top_reads : {kind : FileKind} {ts rest : List Lex} {x : Tp} → IsTop kind ts x rest → Line 0 ts → Reads (top kind) ts x rest
top_reads {kind} (g.top_small d) x = f.reads_small_top kind (simple_starts d).4 (simple_reads d 0 x)
top_reads {ts = ts} (g.top_def (g.function is named open_is ps close_is colon d)) x =
    let w = passed (passed (begins x.fits) is refl) named refl in
    let inside : Inside 65 _ = record { indents = 0; count = 0; outer = (w.count + 1) ∷ []; room = omega arith; fits = opened w open_is refl } in
    let y = closed w open_is (params_moves ps 0 ((w.count + 1) ∷ []) 0 (opened w open_is refl)) close_is refl in
    let z = then (went_passed y) (line_token colon refl) in
    f.reads_def_top is (f.reads_def (line_at ts) named open_is (params_read ps inside close_is) close_is colon (f.reads_body (suite_reads d 65 0 (omega arith) z.line)))

tops_come : {kind : FileKind} {ts us : List Lex} {xs : List Tp} → IsTops kind ts xs us → Line 0 ts → Comes (tops kind ts) (λ n. tops_after kind n xs us) us
tops_come {kind} {ts} g.no_tops x = f.tops_begin kind ts
tops_come {kind} (g.more_tops {xs = xs} d e) x =
    let y = (tops_pass d 0 x).line in
    let fewer = top_passes e 0 y in
    f.tops_go kind xs (tops_come d x) (top_reads e y) (omega (arith, fewer.shorter))

top_no_load : {kind : FileKind} {ts rest : List Lex} {x : Tp} → IsTop kind ts x rest → is_at s.Load ts ≡ false
unfolding same
top_no_load (g.top_small d) = (simple_starts d).5
top_no_load (g.top_def (g.function is named open_is ps close_is colon d)) = not_at s.Load is refl

tops_no_load : {kind : FileKind} {ts rest : List Lex} {xs : List Tp} → IsTops kind ts xs rest → is_at s.Load rest ≡ false → is_at s.Load ts ≡ false
tops_no_load g.no_tops h = h
tops_no_load (g.more_tops d e) h = tops_no_load d (top_no_load e)

nothing_at : is_at s.Load [] ≡ false
unfolding is_at
nothing_at = refl

no_leading_is : (ts : List Lex) → ((written : List ℕ) (us rest : List Lex) → IsToken (Rattle.syntax_tokens.specs.Token.string written) ts us → Is s.NewLine us rest → ⊥) → (found : Option (List ℕ)) → text_at ts ≡ found
    → (end : Bool) → is_at s.NewLine (tail ts) ≡ end → (is_some_text found && end) ≡ false
no_leading_is ts h None e end i = refl
no_leading_is ts h (Some written) e true i = absurd (h written (tail ts) (tail (tail ts)) (text_next written ts e) (is_next s.NewLine (tail ts) i))
no_leading_is ts h (Some written) e false i = refl

leading_reads : {ts us : List Lex} {l : Option ℕ} → IsLeading ts l us → Reads leading ts l us
leading_reads (g.leading is end) = f.reads_leading is end
leading_reads {ts} (g.no_leading h) = f.reads_no_leading ts (no_leading_is ts h (text_at ts) refl (is_at s.NewLine (tail ts)) refl)

leading_passes : {ts us : List Lex} {l : Option ℕ} → IsLeading ts l us → Line 0 ts → Line 0 us
leading_passes (g.leading is end) x = (then (line_token is refl x) (line_ends end)).line
leading_passes (g.no_leading h) x = x

pub file_reads : {kind : FileKind} {ts : List Lex} {d : Fi} → IsFile kind ts d → too_deep outermost ts ≡ false → Reads (file kind) ts d []
file_reads {kind} {ts} (g.file l ls xs) h =
    let x : Line 0 ts = record { count = 0; fits = record { shallow = h; low = omega arith } } in
    let y = leading_passes l x in
    let z = (loads_pass ls 0 y).line in
    f.reads_file kind (leading_reads l) (f.loads_stop (loads_come ls y) (tops_no_load xs nothing_at)) (f.tops_stop kind (tops_come xs z))
