-- What lvalues and collected members in memory are to the definitions.
use Rattle.std.specs.Prelude.{◌≡◌, List, [], ◌∷◌, ◌++◌, Result, Ok, Err, is_some, if◌then◌else◌}
use Rattle.values_semantics.specs.declared.val.Val.{Val}
use Rattle.values_semantics.specs.Heap.{Entries, Store}
use Rattle.values_semantics.specs.Outcome.{Out, Does, gives, faults, fault, pure, ◌>>=◌}
use Rattle.values_semantics.specs.Indexing.{hash}
use Rattle.values_semantics.specs.Comparing.{entry_at}
use Rattle.values_semantics.specs.declared.faults.TheConstants.{WRONG_ARGUMENTS}
use Rattle.values_objects.specs.declared.halt.Halt.{Halt}
use Rattle.values_objects.specs.declared.halt.Halt.TheVariants.{Code, Memory}
use Rattle.evaluator_semantics.specs.World.{World, Site, Ends, ended, failed}
use Rattle.evaluator_semantics.specs.Targets as t
use Rattle.evaluator_semantics.specs.Targets.{Aims, no_aims, aim_at, to_name, to_member, to_each}
use Rattle.evaluator_semantics.specs.Loops as l
use Rattle.evaluator_state.specs.declared.lvalues.LValue.{LValue, fold-LValue}
use Rattle.evaluator_state.specs.declared.lvalues.LValue.TheOpen.{LValue-F}
use Rattle.evaluator_state.specs.declared.gathering.Collection.{Collection}

-- lvalues before others
abbrev pub before : List t.Aim → Aims → Aims
before [] more = more
before (a ∷ as') more = aim_at a (before as' more)

abbrev pub aims_of : List t.Aim → Aims
aims_of as' = before as' no_aims

abbrev pub aim_step : LValue-F t.Aim → t.Aim
aim_step (LValue-F.Name x place) = to_name x
aim_step (LValue-F.Member container index) = to_member container index
aim_step (LValue-F.Each aims) = to_each (aims_of aims.items)

abbrev pub aim_of : LValue → t.Aim
aim_of = fold-LValue t.Aim aim_step

abbrev pub gathered_of : Collection → l.Collection
gathered_of g = record { members = g.members.items; entries = g.entries.entries }

-- the call leaves, in the place that it borrows, what the definition gives, with the same state after it, or its fault
abbrev pub RanInto : {A B : Type 0} → Site → Ends B → Result A Halt → B → World → Type 0
RanInto site out (Ok a) b u = out ≡ ended b u
RanInto site out (Err (Code c)) b u = out ≡ failed c site
RanInto site out (Err (Memory _)) b u = Unit {0}

-- the same, of what works on the heap alone
abbrev pub SaysInto : {S A B : Type 0} → Out S B → Result A Halt → B → S → Type 0
SaysInto out (Ok a) b s = out ≡ gives b s
SaysInto out (Err (Code c)) b s = out ≡ faults c
SaysInto out (Err (Memory _)) b s = Unit {0}

-- an entry of a dictionary expression, after the others: fault 25 for a key that is there already
abbrev pub set_fresh : Val → Val → Entries → Does Store Entries
set_fresh k x es = hash k >>= λ parts. if is_some (entry_at parts es) then fault WRONG_ARGUMENTS else pure (es ++ (parts, record { key = k; value = x }) ∷ [])
