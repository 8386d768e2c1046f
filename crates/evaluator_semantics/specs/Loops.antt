-- Iteration over the members of a value (Starlark's specification, "For loops" and "Comprehensions").
use Rattle.std.specs.Prelude.{suc, List, [], ◌∷◌, ◌++◌, length, drop, if◌then◌else◌}
use Rattle.values_semantics.specs.declared.val.Val.{Val}
use Rattle.values_semantics.specs.declared.val.Val.TheVariants as v
use Rattle.values_semantics.specs.Outcome as o
use Rattle.values_semantics.specs.Outcome.{Does}
use Rattle.values_semantics.specs.Heap.{Entries, Store, is_sized}
use Rattle.values_semantics.specs.Functions.{the_items, grows}
use Rattle.values_semantics.specs.declared.faults.TheConstants.{TOO_LARGE}
use Rattle.evaluator_semantics.specs.World.{Here, Runs, ◌>>=◌, pure, fault, on_heap}

-- A list or dictionary is iterated from the start of a `for` or a clause over it until that ends; meanwhile it cannot
-- be changed. So the iteration is over the members at the start. A string is not iterated.

abbrev pub locks : Val → Does Store (Unit {0})
locks (v.At a) = λ s. o.gives tt (record s { iterated = a ∷ s.iterated })
locks x = o.pure tt

abbrev pub unlocks : Val → Does Store (Unit {0})
unlocks (v.At a) = λ s. o.gives tt (record s { iterated = drop 1 s.iterated })
unlocks x = o.pure tt

-- a piece over the members of a value
abbrev pub over : {A : Type 0} → Val → (List Val → Runs A) → Here → Runs A
over x body here =
    on_heap here (the_items x) >>= λ xs.
    on_heap here (locks x) >>= λ _.
    body xs >>= λ a.
    on_heap here (unlocks x) >>= λ _.
    pure a

-- what a comprehension has collected: the members of a list, or the entries of a dictionary
pub record Collection : Type 0 where
  pub members : List Val
  pub entries : Entries

abbrev pub nothing_yet : Collection
nothing_yet = record { members = []; entries = [] }

-- one more member; at the 65,537th fault 13
abbrev pub one_more : Val → Collection → Here → Runs Collection
one_more x g here = if is_sized (suc (length g.members)) then pure (record g { members = g.members ++ x ∷ [] }) else fault TOO_LARGE here

-- one more entry; if the key is there already, the later value replaces the earlier one
abbrev pub one_entry : Val → Val → Collection → Here → Runs Collection
one_entry k x g here = on_heap here (grows k x g.entries) >>= λ es. pure (record g { entries = es })

-- an iteration for each member
abbrev pub gather : (Val → Collection → Runs Collection) → List Val → Collection → Runs Collection
gather turn [] g = pure g
gather turn (x ∷ xs) g = turn x g >>= gather turn xs
