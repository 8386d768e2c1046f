-- What is true of a round: of the graph since the entry, of the open nodes, and of the runs so far.
use Rattle.std.specs.Prelude.{◌≡◌, ◌≢◌, ◌⊎◌, ℕ, suc, List, [], ◌∷◌, ◌++◌, length, take, map, true, false, Option, Some, None, Result, Ok, Err}
use Rattle.std.specs.List.{AllByRecursion}
use Rattle.std.specs.declared.cmp.Ordering.TheVariants.{Less}
use Rattle.engine_semantics.specs.Reply.{Reply, Ask, Done}
use Rattle.engine_semantics.specs.Value.{Grounded, AllGrounded, IsUngrounded, AllDiffer, In, IsMember}
use Rattle.engine_semantics.specs.Graph.{Record}
use Rattle.engine_semantics.specs.Reachability.{Reached}
use Rattle.engine_semantics.specs.Choices.{Choice, IsOut, Comes, Changed, Unchanged, Wanted, Checks, Runs, Settled}
use Rattle.engine_semantics.specs.States.{HasBacks}
use Rattle.engine_semantics.specs.Journal.{RunIsJustified, ReadIsJustified}
use Rattle.keys.specs.Cycles.{cycle}
use Rattle.keys.specs.Keys.{key_cmp}
use Rattle.keys.specs.Turns.{NoCycle}
use Rattle.keys.specs.declared.key.Key.{Key}
use Rattle.keys.specs.declared.value.Value.{Value}
use Rattle.node.specs.Graphs.{GraphView, record_at, IsTouched}
use Rattle.node.specs.Laws.{IsConsistentFor}
use Rattle.round_nodes.specs.Nodes.{Nodes, node_at, groups_of, IsUnsettled, IsClean}
use Rattle.round_nodes.specs.declared.run.Run.{Run}
use Rattle.round_nodes.specs.declared.table.Node.{Node}
use Rattle.round_nodes.specs.declared.table.Phase.{Phase}
use Rattle.round_nodes.specs.declared.table.Phase.TheVariants as phase
use Rattle.round_nodes.specs.declared.table.OpenNodes.{OpenNodes}

-- the laws of node functions
pub record IsNext (next : Key → List Value → Reply Key Value) : Type 0 where
  pub groups_differ : (key : Key) (answers : List Value) (group : List Key) → next key answers ≡ Ask group → AllDiffer group
  pub ends_plain : (key : Key) (answers : List Value) (v : Value) → AllByRecursion NoCycle answers → next key answers ≡ Done v → NoCycle v

-- the graph at the entry of a call and its roots, and the history of the files for which it is consistent: `reads u`
-- reads the leaves at version u, and `edits u` is the path of the edit to version u
pub record Past (read : Key → Option Value) : Type 0 where
  pub entry : GraphView
  pub roots : List Key
  pub reads : ℕ → Key → Option Value
  pub edits : ℕ → List (List ℕ)
  pub at_present : (k : Key) → reads entry.version k ≡ read k
  pub leaf_stays : (u w : ℕ) (k : Key) (v : Value) → reads u k ≡ Some v → (x : Value) × (reads w k ≡ Some x)
  pub leaf_plain : (u : ℕ) (k : Key) (v : Value) → reads u k ≡ Some v → NoCycle v

module _ (next : Key → List Value → Reply Key Value) (read : Key → Option Value) (past : Past read) where
  -- an evaluation of the roots reaches the key
  abbrev pub IsReached : Key → Type 0
  IsReached k = Reached next cycle read past.roots k

  -- the record is that of the entry, or the key was not settled at the entry and is now, since the roots reach it
  abbrev pub IsSince : GraphView → Key → Type 0
  IsSince graph k = (record_at graph k ≡ record_at past.entry k)
      ⊎ ((r : Record Key Value) × (record_at graph k ≡ Some r) × (r.dirty ≡ false) × (r.settled_at ≡ past.entry.version) × IsUnsettled (record_at past.entry) k × IsReached k)

  -- the graph may be the result of what was done in this call
  pub record IsAfter (graph : GraphView) : Type 0 where
    pub version : graph.version ≡ past.entry.version
    pub lawful : IsConsistentFor next past.reads past.edits graph
    pub since : (k : Key) → IsSince graph k

  -- the value of a record is that of the entry, which changed when it did then, or it changed in this call
  abbrev pub TellsChange : GraphView → Key → Type 0
  TellsChange graph k = (r s : Record Key Value) → record_at graph k ≡ Some r → record_at past.entry k ≡ Some s → ((s.value ≡ r.value) × (r.changed_at ≡ s.changed_at)) ⊎ ((r.changed_at ≡ past.entry.version) × (s.value ≢ r.value))

  -- from these answers on, the turns of k ask for these groups, all but the last with grounded members
  pub data Asks : Key → List Value → List (List Key) → Type 0 where
    nothing : {k : Key} {a : List Value} → Asks k a []
    last : {k : Key} {a : List Value} {group : List Key} → next k a ≡ Ask group → Asks k a (group ∷ [])
    more : {k : Key} {a : List Value} {group : List Key} {vs : List Value} {groups : List (List Key)}
        → next k a ≡ Ask group → AllGrounded next read group vs → Asks k (a ++ vs) groups → Asks k a (group ∷ groups)

  -- the members of the groups are settled, each with the value that it had at version u
  abbrev pub AreUnchanged : GraphView → ℕ → List (List Key) → Type 0
  AreUnchanged graph u groups = (j : Key) → IsMember j groups → IsClean (record_at graph) j × Unchanged next cycle read (record_at past.entry) u j

  -- the check of the record stopped at a group with a changed member
  pub record HasStopped (graph : GraphView) (r : Record Key Value) : Type 0 where
    pub passed : List (List Key)
    pub group : List Key
    pub rest : List (List Key)
    pub split : r.groups ≡ passed ++ group ∷ rest
    pub unchanged : AreUnchanged graph r.settled_at passed
    pub settled : (j : Key) → In j group → IsClean (record_at graph) j
    pub member : Key
    pub among : In member group
    pub changed : Changed next cycle read (record_at past.entry) r.settled_at member

  -- the key had no record at the entry, or the check of its record stopped
  abbrev pub HasBegun : GraphView → Key → Type 0
  HasBegun graph k = (record_at past.entry k ≡ None) ⊎ ((r : Record Key Value) × (record_at past.entry k ≡ Some r) × (r.dirty ≡ true) × HasStopped graph r)

  -- what is true of the nodes after these choices, the newest first
  module _ (cs : List (Choice Key)) where
    abbrev pub IsWantedBy : Key → Type 0
    IsWantedBy k = Wanted next cycle read (record_at past.entry) past.roots cs k

    -- the roots reach the keys, and these choices opened them
    abbrev pub AreSought : List Key → Type 0
    AreSought keys = (k : Key) → In k keys → IsReached k × IsWantedBy k

    -- a node that makes turns: it may, its turns asked for these groups, and each of these turns was taken back
    pub record IsRun (graph : GraphView) (k : Key) (groups : List (List Key)) : Type 0 where
      pub justified : RunIsJustified next cycle past.reads (λ u j. IsTouched (past.edits u) j) past.entry.version (record_at past.entry k)
      pub asks : Asks k [] groups
      pub runs : Runs next cycle read (record_at past.entry) past.roots cs k
      pub begun : HasBegun graph k
      pub taken : HasBacks k (length groups) cs

    -- a node whose record is checked, and that has passed this many groups
    pub record IsCheck (graph : GraphView) (k : Key) (at : ℕ) : Type 0 where
      pub of_entry : Record Key Value
      pub recorded : record_at past.entry k ≡ Some of_entry
      pub marked : of_entry.dirty ≡ true
      pub rest : List (List Key)
      pub checks : Checks next cycle read (record_at past.entry) past.roots cs k of_entry (take at of_entry.groups) rest
      pub split : of_entry.groups ≡ take at of_entry.groups ++ rest
      pub unchanged : AreUnchanged graph of_entry.settled_at (take at of_entry.groups)
      pub none_taken : HasBacks k 0 cs

    abbrev pub IsDoing : GraphView → Key → List (List Key) → Phase → Type 0
    IsDoing graph k groups (phase.Checking at) = IsCheck graph k at
    IsDoing graph k groups phase.Running = IsRun graph k groups
    IsDoing graph k groups phase.Out = IsRun graph k groups

    -- the choices tell whether its job is out
    abbrev pub TellOut : Key → Phase → Type 0
    TellOut k (phase.Checking at) = ¬ IsOut k cs
    TellOut k phase.Running = ¬ IsOut k cs
    TellOut k phase.Out = IsOut k cs

    -- an open node
    pub record IsOpenTruly (graph : GraphView) (k : Key) (n : Node) : Type 0 where
      pub no_leaf : read k ≡ None
      pub reached : IsReached k
      pub wanted : IsWantedBy k
      pub same : record_at graph k ≡ record_at past.entry k
      pub doing : IsDoing graph k (groups_of n) n.phase
      pub out : TellOut k n.phase

    -- a node that its turns settled
    pub record IsRunToEnd (graph : GraphView) (k : Key) : Type 0 where
      pub no_leaf : read k ≡ None
      pub begun : HasBegun graph k
      pub groups : List (List Key)
      pub answers : List Value
      pub value : Value
      pub comes : Comes next cycle read k [] groups answers
      pub ends : next k answers ≡ Done value
      pub members : (j : Key) → IsMember j groups → IsClean (record_at graph) j
      pub taken : HasBacks k (suc (length groups)) cs

    -- how a key was settled: a leaf was read, all groups of a record were passed, or turns ended it
    pub data HasEnded (graph : GraphView) (k : Key) : Type 0 where
      by_read : {v : Value} → read k ≡ Some v → HasBacks k 0 cs → HasEnded graph k
      by_check : {r : Record Key Value} → read k ≡ None → record_at past.entry k ≡ Some r → AreUnchanged graph r.settled_at r.groups → HasBacks k 0 cs → HasEnded graph k
      by_turns : IsRunToEnd graph k → HasEnded graph k

    -- a key that was settled in this call
    pub record IsSettledTruly (graph : GraphView) (k : Key) : Type 0 where
      pub settled : Settled next cycle read (record_at past.entry) past.roots cs k
      pub not_out : ¬ IsOut k cs
      pub how : HasEnded graph k
      pub change : TellsChange graph k

    -- no turn of the key was made
    abbrev pub IsUntold : Key → Type 0
    IsUntold k = HasBacks k 0 cs × (¬ IsOut k cs)

  -- a leaf that was read, or a node that made turns, one for each group and one more where it ended
  abbrev pub IsItem : Run → Record Key Value → Type 0
  IsItem run r = ((read run.key ≡ Some r.value) × (run.turns ≡ 0) × ReadIsJustified next cycle past.reads (λ u j. IsTouched (past.edits u) j) run.key past.entry.version (record_at past.entry run.key))
      ⊎ ((read run.key ≡ None) × RunIsJustified next cycle past.reads (λ u j. IsTouched (past.edits u) j) past.entry.version (record_at past.entry run.key)
      × ((Grounded next read run.key r.value × (run.turns ≡ suc (length r.groups))) ⊎ (IsUngrounded next read run.key × (run.turns ≡ length r.groups))))

  -- an item of the run list
  pub record IsRunOf (graph : GraphView) (run : Run) : Type 0 where
    pub of_key : Record Key Value
    pub recorded : record_at graph run.key ≡ Some of_key
    pub clean : of_key.dirty ≡ false
    pub version : run.version ≡ past.entry.version
    pub item : IsItem run of_key

  abbrev pub run_keys : List Run → List Key
  run_keys runs = map (λ run. run.key) runs

  -- a key has a run, if its record is new, or has another grounded value than at the entry, or is of a leaf that was
  -- dirty and is not any more
  abbrev pub IsLogged : List Run → Key → Record Key Value → Type 0
  IsLogged runs k r = In k (run_keys runs)
      ⊎ ((s : Record Key Value) × (record_at past.entry k ≡ Some s) × ((r.value ≡ s.value) ⊎ IsUngrounded next read k) × ((v : Value) → read k ≡ Some v → s.dirty ≡ true → r.dirty ≡ true))

  -- each run is after the runs of those members that its node's record has, unless neither of the two nodes is grounded
  abbrev pub AreBehind : GraphView → List Run → Type 0
  AreBehind graph runs = (before rest : List Run) (run : Run) → runs ≡ before ++ run ∷ rest → (r : Record Key Value) → record_at graph run.key ≡ Some r
      → (j : Key) → IsMember j r.groups → In j (run_keys runs) → (IsUngrounded next read run.key → IsUngrounded next read j → ⊥) → In j (run_keys before)

  -- after a node that is not grounded, which a stall closed, there are only such nodes, in the order of their keys
  abbrev pub AreClosedLast : List Run → Type 0
  AreClosedLast runs = (before rest : List Run) (run : Run) → runs ≡ before ++ run ∷ rest → IsUngrounded next read run.key
      → (later : Run) → In later rest → IsUngrounded next read later.key × (key_cmp run.key later.key ≡ Less)

  module _ (cs : List (Choice Key)) where
    pub record IsTrueOf (graph : GraphView) (nodes : Nodes) (runs : List Run) : Type 0 where
      pub before : IsConsistentFor next past.reads past.edits past.entry
      pub after : IsAfter graph
      pub opened : (k : Key) (n : Node) → node_at nodes k ≡ Some n → IsOpenTruly cs graph k n
      pub ran : (run : Run) → In run runs → IsRunOf graph run
      pub differ : AllDiffer (run_keys runs)
      pub told : (k : Key) (r : Record Key Value) → record_at graph k ≡ Some r → IsLogged runs k r
      pub behind : AreBehind graph runs
      -- no stall was closed yet
      pub grounded : (run : Run) → In run runs → (v : Value) × Grounded next read run.key v
      -- each key that was settled in this call, and each that was not
      pub settled : (k : Key) → IsUnsettled (record_at past.entry) k → IsClean (record_at graph) k → IsSettledTruly cs graph k
      pub untold : (k : Key) → node_at nodes k ≡ None → record_at graph k ≡ record_at past.entry k → IsUntold cs k

  -- what is true once a stall was closed: no node is open any more
  pub record IsTrueAtEnd (graph : GraphView) (runs : List Run) : Type 0 where
    pub after : IsAfter graph
    pub ran : (run : Run) → In run runs → IsRunOf graph run
    pub differ : AllDiffer (run_keys runs)
    pub told : (k : Key) (r : Record Key Value) → record_at graph k ≡ Some r → IsLogged runs k r
    pub behind : AreBehind graph runs
    pub closed : AreClosedLast runs
    pub change : (k : Key) → TellsChange graph k

-- if the state was true before, it is true after these further choices, the newest first; and after a failed allocation
-- the graph is as after a stop
abbrev pub KeepsInvariantBy : {X E : Type 0} → List (Choice Key) → (Key → List Value → Reply Key Value) → (Key → Option Value) → GraphView → GraphView → OpenNodes → OpenNodes → Result X E → Type 0
KeepsInvariantBy added next read old new before after (Ok x) = (laws : IsNext next) (past : Past read) (cs : List (Choice Key)) → IsTrueOf next read past cs old before.nodes before.runs.items → IsTrueOf next read past (added ++ cs) new after.nodes after.runs.items
KeepsInvariantBy added next read old new before after (Err e) = (laws : IsNext next) (past : Past read) (cs : List (Choice Key)) → IsTrueOf next read past cs old before.nodes before.runs.items → IsAfter next read past new

-- the same without a choice
abbrev pub Leads : {X E : Type 0} → (Key → List Value → Reply Key Value) → (Key → Option Value) → GraphView → GraphView → OpenNodes → OpenNodes → Result X E → Type 0
Leads next read old new before after result = KeepsInvariantBy [] next read old new before after result

-- the same for what is known of these keys: an evaluation of the roots reaches them, and the choices opened them
abbrev pub LeadsOf : {X E : Type 0} → (Key → List Value → Reply Key Value) → (Key → Option Value) → List Key → GraphView → GraphView → OpenNodes → OpenNodes → Result X E → Type 0
LeadsOf next read keys old new before after (Ok x) = (laws : IsNext next) (past : Past read) (cs : List (Choice Key)) → AreSought next read past cs keys → IsTrueOf next read past cs old before.nodes before.runs.items → IsTrueOf next read past cs new after.nodes after.runs.items
LeadsOf next read keys old new before after (Err e) = (laws : IsNext next) (past : Past read) (cs : List (Choice Key)) → AreSought next read past cs keys → IsTrueOf next read past cs old before.nodes before.runs.items → IsAfter next read past new

-- if the state was true before, what is true at the end is; and after a failed allocation the graph is as after a stop
abbrev pub LeadsToEnd : {X E : Type 0} → (Key → List Value → Reply Key Value) → (Key → Option Value) → GraphView → GraphView → OpenNodes → OpenNodes → Result X E → Type 0
LeadsToEnd next read old new before after (Ok x) = (laws : IsNext next) (past : Past read) (cs : List (Choice Key)) → IsTrueOf next read past cs old before.nodes before.runs.items → IsTrueAtEnd next read past new after.runs.items
LeadsToEnd next read old new before after (Err e) = (laws : IsNext next) (past : Past read) (cs : List (Choice Key)) → IsTrueOf next read past cs old before.nodes before.runs.items → IsAfter next read past new
