-- What a function that may meet a fault returns.
use Rattle.std.specs.Prelude.{◌≡◌, ℕ, List, ◌++◌, Result, Ok, Err}
use Rattle.std.specs.declared.alloc.Global.{Global}
use Rattle.std.specs.declared.vec.Vec.{Vec}
use Rattle.syntax_tokens.specs.Reading as tokens
use Rattle.syntax_tree.specs.Tree.{Fi}
use Rattle.syntax_tree.specs.Statements.{file_of}
use Rattle.syntax_tree.specs.declared.def.File.{File}
use Rattle.keys.specs.declared.value.Fault.{Fault}
use Rattle.functions.specs.Sources.{fault_at}

-- the items, or the fault
abbrev pub IsAll : {A : Type 0} → Result (List A) Fault → Result (Vec A Global) Fault → Type 0
IsAll expected (Ok all) = expected ≡ Ok all.items
IsAll expected (Err fault) = expected ≡ Err fault

-- items before others, or the fault of the others
abbrev pub behind : {A : Type 0} → List A → Result (List A) Fault → Result (List A) Fault
behind all (Ok more) = Ok (all ++ more)
behind all (Err f) = Err f

-- the tree, or the fault with the file's path
abbrev pub IsParsed : List ℕ → Result Fi tokens.Fault → Result File Fault → Type 0
IsParsed path expected (Ok file) = expected ≡ Ok (file_of file)
IsParsed path expected (Err fault) = (fault ≡ fault_at fault.code path fault.line) × (expected ≡ Err (record { code = fault.code; line = fault.line }))
