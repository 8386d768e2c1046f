-- What a call of an evaluation promises, for every history of the files for which the graph was consistent at its
-- entry.
use Rattle.std.specs.Prelude.{◌≡◌, List, [], Option, Some, None, true, false, Result, Ok, Err}
use Rattle.engine_semantics.specs.Reply.{Reply}
use Rattle.engine_semantics.specs.Value.{In, IsMember, AllDiffer, HasValue}
use Rattle.engine_semantics.specs.Graph.{Record}
use Rattle.engine_semantics.specs.Choices.{Comes}
use Rattle.engine_semantics.specs.Journal.{RunIsJustified}
use Rattle.keys.specs.Cycles.{cycle}
use Rattle.keys.specs.declared.key.Key.{Key}
use Rattle.keys.specs.declared.value.Value.{Value}
use Rattle.node.specs.Graphs.{GraphView, record_at, IsTouched}
use Rattle.node.specs.Laws.{IsConsistentFor}
use Rattle.round_nodes.specs.Nodes.{IsUnsettled, IsClean}
use Rattle.round_nodes.specs.Invariants.{Past, IsReached, IsAfter, IsRunOf, IsLogged, AreBehind, AreClosedLast, TellsChange, run_keys}
use Rattle.round_nodes.specs.declared.run.Run.{Run}
use Rattle.round.specs.declared.stop.Stop.{Stop}

module _ (next : Key → List Value → Reply Key Value) (read : Key → Option Value) where
  -- the key is settled, with its value at the present files
  abbrev pub IsAnswered : GraphView → Key → Type 0
  IsAnswered graph k = (r : Record Key Value) × (record_at graph k ≡ Some r) × (r.dirty ≡ false) × HasValue next read cycle k r.value

  -- the next turn of a key is to be made: the roots reach it, it is not settled, and it may make turns; these asked for
  -- the groups, whose members are settled, each with a grounded value
  pub record WantsTurn (past : Past read) (graph : GraphView) (k : Key) : Type 0 where
    pub no_leaf : read k ≡ None
    pub reached : IsReached next read past k
    pub unsettled : IsUnsettled (record_at graph) k
    pub justified : RunIsJustified next cycle past.reads (λ u j. IsTouched (past.edits u) j) past.entry.version (record_at past.entry k)
    pub groups : List (List Key)
    pub answers : List Value
    pub comes : Comes next cycle read k [] groups answers
    pub settled : (j : Key) → IsMember j groups → IsClean (record_at graph) j

  -- the law of a call that ended well
  pub record IsCall (past : Past read) (graph : GraphView) (runs : List Run) : Type 0 where
    -- the graph is consistent for the same history, and each record is that of the entry, or settled in this call
    pub after : IsAfter next read past graph
    -- each root has its value
    pub answered : (k : Key) → In k past.roots → IsAnswered graph k
    -- each run is justified, and has the turns of its key's record
    pub ran : (run : Run) → In run runs → IsRunOf next read past graph run
    -- no key has two
    pub differ : AllDiffer (run_keys next read past runs)
    -- a key has a run, if its record is new, or has another grounded value than at the entry
    pub told : (k : Key) (r : Record Key Value) → record_at graph k ≡ Some r → IsLogged next read past runs k r
    -- a leaf that was dirty at the entry and that the roots reach was read again, and has a run even if its value is
    -- equal
    pub reads : (k : Key) (v : Value) (r : Record Key Value) → read k ≡ Some v → record_at past.entry k ≡ Some r → r.dirty ≡ true → IsReached next read past k → In k (run_keys next read past runs)
    -- a run is after those of its node's recorded members, unless a stall closed both nodes
    pub behind : AreBehind next read past graph runs
    -- the nodes that a stall closed are last, in the order of their keys
    pub closed : AreClosedLast next read past runs
    -- the value of a record is that of the entry, which changed when it did then, or it changed in this call
    pub change : (k : Key) → TellsChange next read past graph k
    -- no turn is to be made any more
    pub over : (k : Key) → WantsTurn past graph k → ⊥

  -- a history for which the graph is consistent, and these roots
  pub record IsHistory (past : Past read) (roots : List Key) (graph : GraphView) : Type 0 where
    pub at_entry : past.entry ≡ graph
    pub of_roots : past.roots ≡ roots
    pub lawful : IsConsistentFor next past.reads past.edits graph

  abbrev pub Calls : List Key → GraphView → GraphView → Result (List Run) Stop → Type 0
  Calls roots old new (Ok runs) = (past : Past read) → IsHistory past roots old → IsCall past new runs
  Calls roots old new (Err e) = (past : Past read) → IsHistory past roots old → IsAfter next read past new

  -- a root is not settled, whatever the history is
  abbrev pub HasOpenRoot : List Key → GraphView → GraphView → Type 0
  HasOpenRoot roots old new = (past : Past read) → IsHistory past roots old → (k : Key) × In k roots × IsUnsettled (record_at new) k

  -- some key's next turn is to be made, whatever the history is
  abbrev pub HasTurnToMake : List Key → GraphView → GraphView → Type 0
  HasTurnToMake roots old new = (k : Key) × ((past : Past read) → IsHistory past roots old → WantsTurn past new k)
