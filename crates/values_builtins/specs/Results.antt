-- What a call ensures that returns bytes or lists.
use Rattle.std.specs.Prelude.{◌≡◌, ℕ, List, map, Option, None, Some, Result, Ok, Err}
use Rattle.std.specs.declared.vec.Vec.{Vec}
use Rattle.std.specs.declared.alloc.Global.{Global}
use denote.Ref.{Bor}
use Rattle.values_semantics.specs.Outcome.{Out, gives, faults, ValueOrFault, good, bad}
use Rattle.values_semantics.specs.declared.val.Val.{Val}
use Rattle.values_semantics.specs.Heap.{Entries}
use Rattle.values_objects.specs.declared.halt.Halt.{Halt}
use Rattle.values_objects.specs.declared.halt.Halt.TheVariants.{Code, Memory}

-- the bytes, or the code of the fault; if an allocation fails, nothing is said
abbrev pub ChecksBytes : ValueOrFault (List ℕ) → Result (Bor (List ℕ)) Halt → Type 0
ChecksBytes out (Ok bytes) = out ≡ good bytes.now
ChecksBytes out (Err (Code c)) = out ≡ bad c
ChecksBytes out (Err (Memory _)) = Unit {0}

abbrev pub lists_of : {A : Type 0} → List (Vec A Global) → List (List A)
lists_of vs = map (λ v. v.items) vs

-- the lists with the state after them, or the fault
abbrev pub SaysLists : {S A : Type 0} → Out S (List (List A)) → Result (Vec (Vec A Global) Global) Halt → S → Type 0
SaysLists out (Ok vs) s = out ≡ gives (lists_of vs.items) s
SaysLists out (Err (Code c)) s = out ≡ faults c
SaysLists out (Err (Memory _)) s = Unit {0}

abbrev pub items_seen : {A : Type 0} → Option (Vec A Global) → Option (List A)
items_seen None = None
items_seen (Some v) = Some v.items

-- the entries that a dictionary has after the call with the state after it, or the fault
abbrev pub SaysEntries : {S A : Type 0} → Out S Entries → Result A Halt → Entries → S → Type 0
SaysEntries out (Ok a) es s = out ≡ gives es s
SaysEntries out (Err (Code c)) es s = out ≡ faults c
SaysEntries out (Err (Memory _)) es s = Unit {0}

abbrev pub pairs_of : Entries → List (Val × Val)
pairs_of entries = map (λ e. (e.1.key, e.1.value)) entries
