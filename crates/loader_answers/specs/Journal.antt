-- What a journal says, in terms of the requests and the history of the files alone: `files u` are the files at version
-- u, and `paths u` are the paths of the edit to version u.
use Rattle.std.specs.declared.cmp.Ordering.TheVariants.{Less}
use Rattle.std.specs.Prelude.{◌≡◌, ◌≢◌, ◌⊎◌, ℕ, suc, ◌<◌, ◌≤◌, List, [], ◌∷◌, ◌++◌, length, map, Option, Some, None}
use Rattle.engine_semantics.specs.Graph.{Differs}
use Rattle.engine_semantics.specs.Reachability.{AsksGroup, Reached}
use Rattle.engine_semantics.specs.Value.{AllDiffer, Grounded, IsUngrounded, HasValue, In, Settles}
use Rattle.filetree.specs.Files.{Files}
use Rattle.functions.specs.Next.{next}
use Rattle.keys.specs.Leaves.{read}
use Rattle.keys.specs.Cycles.{cycle}
use Rattle.keys.specs.Keys.{key_cmp}
use Rattle.keys.specs.declared.key.Key.{Key}
use Rattle.keys.specs.declared.value.Value.{Value}
use Rattle.node.specs.Graphs.{IsTouched}
use Rattle.round_nodes.specs.TurnCounts.{turns_of}
use Rattle.round_nodes.specs.declared.run.Run.{Run}

-- an evaluation of a request: the version at which it comes, and its root keys
pub record Evaluation : Type 0 where
  pub version : ℕ
  pub roots : List Key

-- the evaluations, the newest first, before others
abbrev pub turned_onto : List Evaluation → List Evaluation → List Evaluation
turned_onto earlier [] = earlier
turned_onto earlier (evaluation ∷ more) = turned_onto (evaluation ∷ earlier) more

abbrev pub keys_of : List Run → List Key
keys_of runs = map (λ run. run.key) runs

-- the key of an item, and its version
abbrev pub place_of : Run → Key × ℕ
place_of run = (run.key, run.version)

module _ (files : ℕ → Files) (paths : ℕ → List (List ℕ)) where
  -- the leaves at a version
  abbrev pub leaves : ℕ → Key → Option Value
  leaves u = read (files u)

  -- the evaluation settles the key: its roots reach it at the files of its version
  abbrev pub IsSettledBy : Key → Evaluation → Type 0
  IsSettledBy k evaluation = Reached next cycle (leaves evaluation.version) evaluation.roots k

  -- none of the evaluations settles the key
  abbrev pub IsNeverSettled : Key → List Evaluation → Type 0
  IsNeverSettled k evaluations = (evaluation : Evaluation) → In evaluation evaluations → ¬ IsSettledBy k evaluation

  -- one of the evaluations settles the key
  abbrev pub IsSettledOnce : Key → List Evaluation → Type 0
  IsSettledOnce k evaluations = (evaluation : Evaluation) × In evaluation evaluations × IsSettledBy k evaluation

  -- of these evaluations, the newest first, the last one that settles the key comes at version u
  pub data IsLastSettled (k : Key) (u : ℕ) : List Evaluation → Type 0 where
    by_newest : {evaluation : Evaluation} {earlier : List Evaluation} → IsSettledBy k evaluation → evaluation.version ≡ u → IsLastSettled k u (evaluation ∷ earlier)
    by_earlier : {evaluation : Evaluation} {earlier : List Evaluation} → ¬ IsSettledBy k evaluation → IsLastSettled k u earlier → IsLastSettled k u (evaluation ∷ earlier)

  -- settled at version u, k records j in a group: it asks for a group that has j
  abbrev pub Records : ℕ → Key → Key → Type 0
  Records u k j = (group : List Key) × AsksGroup next cycle (leaves u) k group × In j group

  -- The items of an evaluation are in the order in which their keys were settled. An item is after those of the keys
  -- that its key records, unless neither of the two is grounded. The keys that are not are last, in the order of keys.
  pub record AreInOrder (evaluation : Evaluation) (runs : List Run) : Type 0 where
    pub behind : (before rest : List Run) (run : Run) → runs ≡ before ++ run ∷ rest → (j : Key) → Records evaluation.version run.key j → In j (keys_of runs)
        → (IsUngrounded next (leaves evaluation.version) run.key → IsUngrounded next (leaves evaluation.version) j → ⊥) → In j (keys_of before)
    pub closed : (before rest : List Run) (run : Run) → runs ≡ before ++ run ∷ rest → IsUngrounded next (leaves evaluation.version) run.key
        → (later : Run) → In later rest → IsUngrounded next (leaves evaluation.version) later.key × (key_cmp run.key later.key ≡ Less)

  -- What is not a leaf is settled with the groups that it asks for at the files of the version, up to the first with a
  -- member that is not grounded. Each group takes a turn, and a grounded key ends with one more.
  pub record TakesTurns (u : ℕ) (run : Run) : Type 0 where
    pub groups : List (List Key)
    pub value : Value
    pub settles : Settles next (leaves u) cycle run.key groups value
    pub number : (Grounded next (leaves u) run.key value × (run.turns ≡ suc (length groups))) ⊎ (IsUngrounded next (leaves u) run.key × (run.turns ≡ length groups))

  module _ (earlier : List Evaluation) where
    -- k may run at version v: it was never settled before, or it was, and a key that it recorded when it was last
    -- settled has had two values since
    pub data MayRun (k : Key) (v : ℕ) : Type 0 where
      first_run : IsNeverSettled k earlier → MayRun k v
      run_again : IsSettledOnce k earlier → ((u : ℕ) → IsLastSettled k u earlier → (j : Key) × Records u k j × Differs next cycle leaves j u v) → MayRun k v

    -- the leaf k may be read at version v: it was never settled before, or it was, and an edit since it was last
    -- settled touches it
    pub data MayBeRead (k : Key) (v : ℕ) : Type 0 where
      first_read : IsNeverSettled k earlier → MayBeRead k v
      read_again : IsSettledOnce k earlier → ((u : ℕ) → IsLastSettled k u earlier → (w : ℕ) × (u < w) × (w ≤ v) × IsTouched (paths w) k) → MayBeRead k v

    -- the item of an evaluation is of a key that the evaluation settles, and justified: a leaf with no turns may be
    -- read, and another key with the turns of its groups may run
    pub record IsItemOf (evaluation : Evaluation) (run : Run) : Type 0 where
      pub version : run.version ≡ evaluation.version
      pub settled : IsSettledBy run.key evaluation
      pub justified : ((x : Value) × (leaves evaluation.version run.key ≡ Some x) × (run.turns ≡ 0) × MayBeRead run.key evaluation.version)
          ⊎ ((leaves evaluation.version run.key ≡ None) × TakesTurns evaluation.version run × MayRun run.key evaluation.version)

    -- the items of an evaluation miss no key that it settles for the first time, no grounded one whose value is another
    -- than when it was last settled, and no leaf that an edit has touched since it was last settled, even if its value
    -- is equal
    pub record MissesNone (evaluation : Evaluation) (runs : List Run) : Type 0 where
      pub new : (k : Key) → IsSettledBy k evaluation → IsNeverSettled k earlier → In k (keys_of runs)
      pub changed : (k : Key) (u : ℕ) (v w : Value) → IsSettledBy k evaluation → IsLastSettled k u earlier → Grounded next (leaves evaluation.version) k v → HasValue next (leaves u) cycle k w → v ≢ w → In k (keys_of runs)
      pub reread : (k : Key) (u w : ℕ) (x : Value) → leaves evaluation.version k ≡ Some x → IsSettledBy k evaluation → IsLastSettled k u earlier → u < w → w ≤ evaluation.version → IsTouched (paths w) k → In k (keys_of runs)

    pub record AreItemsOf (evaluation : Evaluation) (runs : List Run) : Type 0 where
      pub each : (run : Run) → In run runs → IsItemOf evaluation run
      pub all : MissesNone evaluation runs
      pub order : AreInOrder evaluation runs

  -- the items of one request, which has these evaluations, after these earlier ones, the newest first
  abbrev pub AreItemsOfEach : List Evaluation → List Evaluation → List Run → Type 0
  AreItemsOfEach earlier [] runs = runs ≡ []
  AreItemsOfEach earlier (evaluation ∷ more) runs = (own rest : List Run) × (runs ≡ own ++ rest) × AreItemsOf earlier evaluation own × AreItemsOfEach (evaluation ∷ earlier) more rest

  -- the items of the requests, in their order, after these earlier evaluations; those of one request have at most
  -- `budget` turns together
  abbrev pub AreItems : ℕ → List Evaluation → List (List Evaluation) → List Run → Type 0
  AreItems budget earlier [] runs = runs ≡ []
  AreItems budget earlier (request ∷ requests) runs =
      (own rest : List Run) × (runs ≡ own ++ rest) × AreItemsOfEach earlier request own × (turns_of own ≤ budget) × AreItems budget (turned_onto earlier request) requests rest

  -- the journal of the requests, each with its evaluations: the items of each in their order, within its budget, and no
  -- key has two with one version
  pub record IsJournal (budget : ℕ) (requests : List (List Evaluation)) (runs : List Run) : Type 0 where
    pub items : AreItems budget [] requests runs
    pub once : AllDiffer (map place_of runs)
