-- What the graph is to the requests so far.
use Rattle.std.specs.Prelude.{◌≡◌, ℕ, ◌<◌, ◌≤◌, List, [], ◌∷◌, Some, false}
use Rattle.engine_semantics.specs.Graph.{Record}
use Rattle.engine_semantics.specs.Value.{HasValue, In, IsMember, Settles}
use Rattle.filetree.specs.Files.{Files}
use Rattle.functions.specs.Next.{next}
use Rattle.keys.specs.Cycles.{cycle}
use Rattle.keys.specs.declared.key.Key.{Key}
use Rattle.keys.specs.declared.value.Value.{Value}
use Rattle.node.specs.Graphs.{GraphView, record_at, IsTouched}
use Rattle.node.specs.Laws.{IsConsistentFor}
use Rattle.round_nodes.specs.declared.run.Run.{Run}
use Rattle.loader_answers.specs.Journal.{Evaluation, turned_onto, leaves, IsSettledBy, IsLastSettled, IsJournal}

-- the evaluations of the requests, the newest first, before others
abbrev pub all_turned : List Evaluation → List (List Evaluation) → List Evaluation
all_turned earlier [] = earlier
all_turned earlier (request ∷ requests) = all_turned (turned_onto earlier request) requests

module _ (files : ℕ → Files) (paths : ℕ → List (List ℕ)) where
  -- from the version at which it was settled to version u, the record is as true as then
  pub record Stays (k : Key) (r : Record Key Value) (u : ℕ) : Type 0 where
    pub early : r.settled_at ≤ u
    pub settles : (w : ℕ) → r.settled_at ≤ w → w ≤ u → Settles next (leaves files paths w) cycle k r.groups r.value
    -- a member of its groups has one value
    pub members : (j : Key) → IsMember j r.groups → (x : Value) × ((w : ℕ) → r.settled_at ≤ w → w ≤ u → HasValue next (leaves files paths w) cycle j x)
    -- no edit touches a leaf
    pub untouched : (x : Value) → leaves files paths u k ≡ Some x → (w : ℕ) → r.settled_at < w → w ≤ u → ¬ IsTouched (paths w) k

  -- earlier requests, the newest first, and the graph that they left
  pub record IsLinked (graph : GraphView) (earlier : List Evaluation) : Type 0 where
    pub lawful : IsConsistentFor next (leaves files paths) paths graph
    pub past : (request : Evaluation) → In request earlier → request.version ≤ graph.version
    -- a key with a record was settled by a request
    pub back : (k : Key) (r : Record Key Value) → record_at graph k ≡ Some r → (request : Evaluation) × In request earlier × IsSettledBy files paths k request
    -- a key that a request settled has a record
    pub there : (request : Evaluation) (k : Key) → In request earlier → IsSettledBy files paths k request → (r : Record Key Value) × (record_at graph k ≡ Some r)
    -- the record stayed true until its key was last settled
    pub last : (k : Key) (u : ℕ) (r : Record Key Value) → IsLastSettled files paths k u earlier → record_at graph k ≡ Some r → Stays k r u
    -- a clean record stayed true until now
    pub clean : (k : Key) (r : Record Key Value) → record_at graph k ≡ Some r → r.dirty ≡ false → (w : ℕ) → r.settled_at ≤ w → w ≤ graph.version → Settles next (leaves files paths w) cycle k r.groups r.value
    -- the members of a clean record were not settled later
    pub members : (k j : Key) (r s : Record Key Value) → record_at graph k ≡ Some r → r.dirty ≡ false → IsMember j r.groups → record_at graph j ≡ Some s → s.settled_at ≤ r.settled_at

  -- the journal so far, of these requests, the oldest first; each item's key has a record that was not settled before
  -- the item's version
  pub record IsToldBy (budget : ℕ) (graph : GraphView) (requests : List (List Evaluation)) (runs : List Run) : Type 0 where
    pub journal : IsJournal files paths budget requests runs
    pub linked : IsLinked graph (all_turned [] requests)
    pub dated : (run : Run) → In run runs → (r : Record Key Value) × (record_at graph run.key ≡ Some r) × (run.version ≤ r.settled_at)
