-- Names: which are bound where, what a name means, and what binding one does (Starlark's specification, "Name binding
-- and variables").
--
-- A name bound anywhere in a function is local in all of it. A comprehension has its own names. Otherwise a name that
-- the file binds anywhere at file level is its global, and any other is universal. This profile binds a global once.
use Rattle.std.specs.Prelude.{ℕ, List, [], ◌∷◌, ◌++◌, Bool, false, Option, Some, None, if◌then◌else◌, is_some, codes}
use Rattle.values_semantics.specs.declared.val.Val.{Val}
use Rattle.values_semantics.specs.declared.builtin.Builtin.{Builtin}
use Rattle.values_semantics.specs.Builtins.{builtin_name, plain_functions, package_functions}
use Rattle.values_semantics.specs.Comparing.{same_text}
use Rattle.values_semantics.specs.declared.faults.TheConstants.{BOUND_TWICE, NOT_BOUND, WRONG_TYPE}
use Rattle.syntax_grammar.specs.declared.kind.FileKind.{FileKind}
use Rattle.syntax_grammar.specs.declared.kind.FileKind.TheVariants as k
use Rattle.syntax_tree.specs.Tree as t
use Rattle.syntax_tree.specs.Tree.{Ex}
pub use Rattle.syntax_tree.specs.Bindings.{target_names, targets_names, clause_names, stmt_names, suite_names, branches_names, branch_names, top_names, item_names, load_names, has_name, names_once}
use Rattle.evaluator_semantics.specs.World.{World, Block, Names, Here, Runs, ◌>>=◌, pure, fault, or_fault, ended}
use Rattle.values_semantics.specs.Values.{builtin_value}

-- ---- blocks

abbrev pub all_unbound : List (List ℕ) → Block
all_unbound [] = []
all_unbound (x ∷ xs) = (x, None) ∷ all_unbound xs

-- a block of these names, none of which is bound
abbrev pub new_block : List (List ℕ) → Block
new_block names = all_unbound (names_once [] names)

-- what a block has at a name: None if the block does not have the name
abbrev pub slot_in : List ℕ → Block → Option (Option Val)
slot_in x [] = None
slot_in x (y ∷ ys) = if same_text x y.0 then Some y.1 else slot_in x ys

abbrev pub or_else : {A : Type 0} → Option A → Option A → Option A
or_else None other = other
or_else (Some a) other = Some a

-- the innermost block that has the name
abbrev pub slot_among : List ℕ → List Block → Option (Option Val)
slot_among x [] = None
slot_among x (block ∷ blocks) = or_else (slot_in x block) (slot_among x blocks)

-- the block with a name bound, if it has the name
abbrev pub bind_in : List ℕ → Val → Block → Block
bind_in x value [] = []
bind_in x value (y ∷ ys) = if same_text x y.0 then (y.0, Some value) ∷ ys else y ∷ bind_in x value ys

-- the same in the innermost block that has the name
abbrev pub bind_among : List ℕ → Val → List Block → List Block
bind_among x value [] = []
bind_among x value (block ∷ blocks) = if is_some (slot_in x block) then bind_in x value block ∷ blocks else block ∷ bind_among x value blocks

-- ---- the names of files

-- the file with a label
abbrev pub names_at : List ℕ → List Names → Option Names
names_at label [] = None
names_at label (f ∷ fs) = if same_text label f.label then Some f else names_at label fs

abbrev pub file_slot : List ℕ → Option Names → Option (Option Val)
file_slot x None = None
file_slot x (Some f) = slot_in x f.block

-- a file's names with another state
abbrev pub change_names : List ℕ → (Names → Names) → List Names → List Names
change_names label change [] = []
change_names label change (f ∷ fs) = if same_text label f.label then change f ∷ fs else f ∷ change_names label change fs

-- ---- universal names

abbrev pub first_named : List ℕ → List Builtin → Option Builtin
first_named x [] = None
first_named x (f ∷ fs) = if same_text x (builtin_name f) then Some f else first_named x fs

abbrev pub universal : FileKind → List ℕ → Option Builtin
universal k.Build x = first_named x (plain_functions ++ package_functions)
universal k.Bzl x = first_named x plain_functions

abbrev pub is_native : FileKind → List ℕ → Bool
is_native k.Build x = false
is_native k.Bzl x = same_text x (codes "native")

-- ---- reading and binding

-- what a name has at a position: in one of the blocks, else as a global of the file; None if it is universal
abbrev pub slot : List ℕ → Here → World → Option (Option Val)
slot x here w = or_else (slot_among x w.blocks) (file_slot x (names_at here.label w.files))

abbrev pub read_universal : List ℕ → Here → Runs Val
read_universal x here = if is_native here.kind x then fault WRONG_TYPE here else (or_fault NOT_BOUND (universal here.kind x) here >>= λ f. pure (builtin_value f))

abbrev pub read_slot : Option (Option Val) → List ℕ → Here → Runs Val
read_slot None x here = read_universal x here
read_slot (Some value) x here = or_fault NOT_BOUND value here

-- The value of a name. One without a value when it is read is fault 4, and `native` that is not before a dot is 5.
unfoldable pub read : List ℕ → Here → Runs Val
read x here = λ w. read_slot (slot x here w) x here w

-- `native` of a .bzl file, if no name of the program hides it
abbrev pub is_native_name : Ex → Here → World → Bool
is_native_name (t.name x) here w = if is_some (slot x here w) then false else is_native here.kind x
is_native_name e here w = false

abbrev pub bind_global : Option (Option Val) → List ℕ → Val → Here → Runs (Unit {0})
bind_global (Some None) x value here = λ w. ended tt (record w { files = change_names here.label (λ f. record f { block = bind_in x value f.block }) w.files })
bind_global other x value here = fault BOUND_TWICE here

-- Binds a name in the innermost block that has it, else as a global. A global that is bound already is fault 26.
unfoldable pub bind : List ℕ → Val → Here → Runs (Unit {0})
bind x value here = λ w.
    (if is_some (slot_among x w.blocks) then (λ u. ended tt (record u { blocks = bind_among x value u.blocks }))
    else bind_global (file_slot x (names_at here.label w.files)) x value here) w
