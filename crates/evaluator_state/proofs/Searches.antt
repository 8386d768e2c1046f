-- The first item that passes a test: how a search continues, and what it finds in blocks and files.
use Rattle.std.proofs.Common.{◌≡◌, ◌<◌, ◌≤◌, ◌+◌, ◌++◌, ℕ, zero, suc, Bool, true, false, cond, List, [], ◌∷◌, length, take, get_or, map, Option, Some, None, is_some, refl, ap, sym, ◌∙◌, arith, add-one}
use Rattle.std.specs.Prelude.{slice_set, IfSome}
use Rattle.values_semantics.specs.declared.val.Val.{Val}
use Rattle.values_semantics.specs.declared.builtin.Builtin.{Builtin}
use Rattle.values_semantics.specs.Builtins.{builtin_name}
use Rattle.values_semantics.specs.Comparing.{same_text}
use Rattle.evaluator_semantics.specs.World.{Names, World, Here, ended, failed}
use Rattle.evaluator_semantics.specs.Names.{slot_in, bind_in, slot_among, bind_among, or_else, names_at, change_names, first_named, slot, read, read_slot, bind, bind_global, file_slot}
use Rattle.evaluator_state.specs.declared.state.Slot.{Slot}
use Rattle.evaluator_state.specs.declared.state.Block as m
use Rattle.evaluator_state.specs.declared.state.FileNames.{FileNames}
use Rattle.evaluator_state.specs.View.{slot_of, slots_of, block_view, names_of}
use Rattle.evaluator_state.specs.Places.{FirstSo, NoneSo, is_slot, has_slot, is_file}

none_suc : {X : Type 0} → (test : X → Bool) (xs : List X) (i : ℕ) (d : X) → i < length xs → NoneSo test (take i xs) → test (get_or xs i d) ≡ false → NoneSo test (take (suc i) xs)
none_suc test [] i d lt h e = absurd (omega arith)
none_suc test (x ∷ xs) zero d lt h e = (e, tt)
none_suc test (x ∷ xs) (suc i) d lt h e = (h.0, none_suc test xs i d (omega arith) h.1 e)

-- one item more that does not pass
pub none_more : {X : Type 0} → (test : X → Bool) (xs : List X) (i : ℕ) (d : X) → i < length xs → NoneSo test (take i xs) → test (get_or xs i d) ≡ false → NoneSo test (take (i + 1) xs)
none_more test xs i d lt h e = rw add-one (none_suc test xs i d lt h e)

-- none of so many that these are all
pub none_of_all : {X : Type 0} → (test : X → Bool) (xs : List X) (i : ℕ) → length xs ≤ i → NoneSo test (take i xs) → NoneSo test xs
none_of_all test [] i h none = tt
none_of_all test (x ∷ xs) zero h none = absurd (omega (arith, h))
none_of_all test (x ∷ xs) (suc i) h none = (none.0, none_of_all test xs i (omega (arith, h)) none.1)

pub slot_none : (x : List ℕ) (slots : List Slot) → NoneSo (is_slot x) slots → slot_in x (slots_of slots) ≡ None
slot_none x [] h = refl
slot_none x (s ∷ ss) h = ap (λ t. cond t (Some s.value) (slot_in x (slots_of ss))) h.0 ∙ slot_none x ss h.1

pub slot_there : (x : List ℕ) (slots : List Slot) (i : ℕ) (d : Slot) → i < length slots → NoneSo (is_slot x) (take i slots) → same_text x (get_or slots i d).name ≡ true → slot_in x (slots_of slots) ≡ Some (get_or slots i d).value
slot_there x [] i d lt h e = absurd (omega arith)
slot_there x (s ∷ ss) zero d lt h e = ap (λ t. cond t (Some s.value) (slot_in x (slots_of ss))) e
slot_there x (s ∷ ss) (suc i) d lt h e = ap (λ t. cond t (Some s.value) (slot_in x (slots_of ss))) h.0 ∙ slot_there x ss i d (omega arith) h.1 e

pub has_first : (x : List ℕ) (slots : List Slot) (i : ℕ) → FirstSo (is_slot x) slots i → is_some (slot_in x (slots_of slots)) ≡ true
has_first x [] i first = absurd (omega (arith, first.within))
has_first x (s ∷ ss) i first = ap (λ o. is_some o) (slot_there x (s ∷ ss) i s first.within first.before (first.here s))

pub bind_none : (x : List ℕ) (v : Val) (slots : List Slot) → NoneSo (is_slot x) slots → bind_in x v (slots_of slots) ≡ slots_of slots
bind_none x v [] h = refl
bind_none x v (s ∷ ss) h = ap (λ t. cond t ((s.name, Some v) ∷ slots_of ss) (slot_of s ∷ bind_in x v (slots_of ss))) h.0 ∙ ap (λ l. slot_of s ∷ l) (bind_none x v ss h.1)

pub bind_there : (x : List ℕ) (v : Val) (slots : List Slot) (i : ℕ) (d : Slot) → i < length slots → NoneSo (is_slot x) (take i slots) → same_text x (get_or slots i d).name ≡ true → bind_in x v (slots_of slots) ≡ slots_of (slice_set slots i (record { name = (get_or slots i d).name; value = Some v }))
bind_there x v [] i d lt h e = absurd (omega arith)
bind_there x v (s ∷ ss) zero d lt h e = ap (λ t. cond t ((s.name, Some v) ∷ slots_of ss) (slot_of s ∷ bind_in x v (slots_of ss))) e
bind_there x v (s ∷ ss) (suc i) d lt h e = ap (λ t. cond t ((s.name, Some v) ∷ slots_of ss) (slot_of s ∷ bind_in x v (slots_of ss))) h.0 ∙ ap (λ l. slot_of s ∷ l) (bind_there x v ss i d (omega arith) h.1 e)

not_some : {A : Type 0} (o : Option A) → is_some o ≡ false → o ≡ None
not_some None e = refl
not_some (Some a) e = cc

-- no block has the name
pub among_none : (x : List ℕ) (blocks : List m.Block) → NoneSo (has_slot x) blocks → slot_among x (map block_view blocks) ≡ None
among_none x [] h = refl
among_none x (b ∷ bs) h = ap (λ o. or_else o (slot_among x (map block_view bs))) (not_some (slot_in x (block_view b)) h.0) ∙ among_none x bs h.1

pub bind_among_none : (x : List ℕ) (v : Val) (blocks : List m.Block) → NoneSo (has_slot x) blocks → bind_among x v (map block_view blocks) ≡ map block_view blocks
bind_among_none x v [] h = refl
bind_among_none x v (b ∷ bs) h = ap (λ t. cond t (bind_in x v (block_view b) ∷ map block_view bs) (block_view b ∷ bind_among x v (map block_view bs))) h.0 ∙ ap (λ l. block_view b ∷ l) (bind_among_none x v bs h.1)

some_else : {A : Type 0} (o other : Option A) → is_some o ≡ true → is_some (or_else o other) ≡ true
some_else None other e = cc
some_else (Some a) other e = refl

pub among_there : (x : List ℕ) (blocks : List m.Block) (i : ℕ) (d : m.Block) → i < length blocks → NoneSo (has_slot x) (take i blocks) → has_slot x (get_or blocks i d) ≡ true → is_some (slot_among x (map block_view blocks)) ≡ true
among_there x [] i d lt h e = absurd (omega arith)
among_there x (b ∷ bs) zero d lt h e = some_else (slot_in x (block_view b)) (slot_among x (map block_view bs)) e
among_there x (b ∷ bs) (suc i) d lt h e = ap (λ o. is_some (or_else o (slot_among x (map block_view bs)))) (not_some (slot_in x (block_view b)) h.0) ∙ among_there x bs i d (omega arith) h.1 e

pub bind_among_there : (x : List ℕ) (v : Val) (blocks : List m.Block) (i : ℕ) (d b' : m.Block) → i < length blocks → NoneSo (has_slot x) (take i blocks) → has_slot x (get_or blocks i d) ≡ true → block_view b' ≡ bind_in x v (block_view (get_or blocks i d)) → bind_among x v (map block_view blocks) ≡ map block_view (slice_set blocks i b')
bind_among_there x v [] i d b' lt h e is = absurd (omega arith)
bind_among_there x v (b ∷ bs) zero d b' lt h e is = ap (λ t. cond t (bind_in x v (block_view b) ∷ map block_view bs) (block_view b ∷ bind_among x v (map block_view bs))) e ∙ ap (λ l. l ∷ map block_view bs) (sym is)
bind_among_there x v (b ∷ bs) (suc i) d b' lt h e is = ap (λ t. cond t (bind_in x v (block_view b) ∷ map block_view bs) (block_view b ∷ bind_among x v (map block_view bs))) h.0 ∙ ap (λ l. block_view b ∷ l) (bind_among_there x v bs i d b' (omega arith) h.1 e is)

-- no file has the label
pub names_none : (label : List ℕ) (files : List FileNames) → NoneSo (is_file label) files → names_at label (map names_of files) ≡ None
names_none label [] h = refl
names_none label (f ∷ fs) h = ap (λ t. cond t (Some (names_of f)) (names_at label (map names_of fs))) h.0 ∙ names_none label fs h.1

pub names_there : (label : List ℕ) (files : List FileNames) (i : ℕ) (d : FileNames) → i < length files → NoneSo (is_file label) (take i files) → same_text label (get_or files i d).label ≡ true → names_at label (map names_of files) ≡ Some (names_of (get_or files i d))
names_there label [] i d lt h e = absurd (omega arith)
names_there label (f ∷ fs) zero d lt h e = ap (λ t. cond t (Some (names_of f)) (names_at label (map names_of fs))) e
names_there label (f ∷ fs) (suc i) d lt h e = ap (λ t. cond t (Some (names_of f)) (names_at label (map names_of fs))) h.0 ∙ names_there label fs i d (omega arith) h.1 e

pub change_there : (label : List ℕ) (change : Names → Names) (files : List FileNames) (i : ℕ) (d f' : FileNames) → i < length files → NoneSo (is_file label) (take i files) → same_text label (get_or files i d).label ≡ true → names_of f' ≡ change (names_of (get_or files i d)) → change_names label change (map names_of files) ≡ map names_of (slice_set files i f')
change_there label change [] i d f' lt h e is = absurd (omega arith)
change_there label change (f ∷ fs) zero d f' lt h e is = ap (λ t. cond t (change (names_of f) ∷ map names_of fs) (names_of f ∷ change_names label change (map names_of fs))) e ∙ ap (λ l. l ∷ map names_of fs) (sym is)
change_there label change (f ∷ fs) (suc i) d f' lt h e is = ap (λ t. cond t (change (names_of f) ∷ map names_of fs) (names_of f ∷ change_names label change (map names_of fs))) h.0 ∙ ap (λ l. names_of f ∷ l) (change_there label change fs i d f' (omega arith) h.1 e is)

pub change_none : (label : List ℕ) (change : Names → Names) (files : List FileNames) → NoneSo (is_file label) files → change_names label change (map names_of files) ≡ map names_of files
change_none label change [] h = refl
change_none label change (f ∷ fs) h = ap (λ t. cond t (change (names_of f) ∷ map names_of fs) (names_of f ∷ change_names label change (map names_of fs))) h.0 ∙ ap (λ l. names_of f ∷ l) (change_none label change fs h.1)

first_test : (b : Bool) (f : Builtin) (o other : Option Builtin) → cond b (Some f) (or_else o other) ≡ or_else (cond b (Some f) o) other
first_test true f o other = refl
first_test false f o other = refl

-- the functions of two lists, one after the other
pub first_append : (x : List ℕ) (fs gs : List Builtin) → first_named x (fs ++ gs) ≡ or_else (first_named x fs) (first_named x gs)
first_append x [] gs = refl
first_append x (f ∷ fs) gs = ap (λ o. cond (same_text x (builtin_name f)) (Some f) o) (first_append x fs gs) ∙ first_test (same_text x (builtin_name f)) f (first_named x fs) (first_named x gs)

pub read_is : (x : List ℕ) (here : Here) (w : World) → read x here w ≡ read_slot (slot x here w) x here w
unfolding read
read_is x here w = refl

-- a name of a block, and one that is a global
pub bind_local : (x : List ℕ) (value : Val) (here : Here) (w : World) → is_some (slot_among x w.blocks) ≡ true → bind x value here w ≡ ended tt (record w { blocks = bind_among x value w.blocks })
unfolding bind
bind_local x value here w e = ap (λ b. cond b (λ (u : World). ended tt (record u { blocks = bind_among x value u.blocks })) (bind_global (file_slot x (names_at here.label w.files)) x value here) w) e

pub bind_file : (x : List ℕ) (value : Val) (here : Here) (w : World) → is_some (slot_among x w.blocks) ≡ false → bind x value here w ≡ bind_global (file_slot x (names_at here.label w.files)) x value here w
unfolding bind
bind_file x value here w e = ap (λ b. cond b (λ (u : World). ended tt (record u { blocks = bind_among x value u.blocks })) (bind_global (file_slot x (names_at here.label w.files)) x value here) w) e

-- what a file has at a name
slot_of_file : (label x : List ℕ) (files : List FileNames) (u : World) (i : ℕ) (d : FileNames) → u.files ≡ map names_of files → i < length files → NoneSo (is_file label) (take i files) → same_text label (get_or files i d).label ≡ true → file_slot x (names_at label u.files) ≡ slot_in x (block_view (get_or files i d).block)
slot_of_file label x files u i d is lt h e = ap (λ fs. file_slot x (names_at label fs)) is ∙ ap (λ o. file_slot x o) (names_there label files i d lt h e)

pub global_bound : (label x : List ℕ) (value : Val) (files : List FileNames) (u : World) (here : Here) (i : ℕ) (d f' : FileNames) → here.label ≡ label → u.files ≡ map names_of files → i < length files → NoneSo (is_file label) (take i files) → same_text label (get_or files i d).label ≡ true → slot_in x (block_view (get_or files i d).block) ≡ Some None → names_of f' ≡ record (names_of (get_or files i d)) { block = bind_in x value (block_view (get_or files i d).block) } → bind_global (file_slot x (names_at label u.files)) x value here u ≡ ended tt (record u { files = map names_of (slice_set files i f') })
global_bound label x value files u here i d f' at is lt h e free made =
    let change = λ (f : Names). record f { block = bind_in x value f.block } in
    ap (λ o. bind_global o x value here u) (slot_of_file label x files u i d is lt h e ∙ free)
    ∙ ap (λ l. ended tt (record u { files = change_names l change u.files })) at
    ∙ ap (λ fs. ended tt (record u { files = change_names label change fs })) is
    ∙ ap (λ fs. ended tt (record u { files = fs })) (change_there label change files i d f' lt h e made)

refused : (o : Option (Option Val)) (x : List ℕ) (value : Val) (here : Here) (u : World) → (o ≡ Some None → ⊥) → bind_global o x value here u ≡ failed 26 here.site
refused None x value here u n = refl
refused (Some None) x value here u n = absurd (n refl)
refused (Some (Some y)) x value here u n = refl

pub global_refused : (label x : List ℕ) (value : Val) (files : List FileNames) (u : World) (here : Here) (i : ℕ) (d : FileNames) (o : Option (Option Val)) → u.files ≡ map names_of files → i < length files → NoneSo (is_file label) (take i files) → same_text label (get_or files i d).label ≡ true → slot_in x (block_view (get_or files i d).block) ≡ o → (o ≡ Some None → ⊥) → bind_global (file_slot x (names_at label u.files)) x value here u ≡ failed 26 here.site
global_refused label x value files u here i d o is lt h e there n = ap (λ o. bind_global o x value here u) (slot_of_file label x files u i d is lt h e ∙ there) ∙ refused o x value here u n

pub global_absent : (label x : List ℕ) (value : Val) (files : List FileNames) (u : World) (here : Here) → u.files ≡ map names_of files → NoneSo (is_file label) files → bind_global (file_slot x (names_at label u.files)) x value here u ≡ failed 26 here.site
global_absent label x value files u here is none = ap (λ fs. bind_global (file_slot x (names_at label fs)) x value here u) is ∙ ap (λ o. bind_global (file_slot x o) x value here u) (names_none label files none)

-- a place that may hold a value
pub if_bound : (o : Option Val) (p : Option (Option Val)) → p ≡ Some o → IfSome o (λ v. p ≡ Some (Some v))
if_bound None p e = tt
if_bound (Some v) p e = e
