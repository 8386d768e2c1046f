-- What a contract sees of a session: the graph, and the history of the files for which it is consistent.
use Rattle.std.specs.Prelude.{◌≡◌, ℕ, zero, suc, ◌+◌, List, [], ◌∷◌, length, take, ⊤}
use Rattle.std.specs.FinMap as map
use Rattle.filetree.specs.Files.{Files}
use Rattle.functions.specs.Next.{next}
use Rattle.keys.specs.Leaves.{read}
use Rattle.node.specs.Graphs.{GraphView}
use Rattle.node.specs.Laws.{IsConsistentFor}
pub use Rattle.loader_commands.specs.Commands.{paths_of}
use Rattle.loader_answers.specs.State.{State, Edit, changed_files}

pub record SessionView : Type 0 where
  -- the version at which it began, without files
  pub began : ℕ
  -- the edits accepted since then, the oldest first
  pub edits : List Edit
  pub graph : GraphView

-- the files after these edits, from the oldest on
abbrev pub files_after : Files → List Edit → Files
files_after files [] = files
files_after files (edit ∷ edits) = files_after (changed_files edit files) edits

-- the present files
abbrev pub files_of : SessionView → Files
files_of h = files_after map.empty h.edits

-- the present files, and their version
abbrev pub state_of : SessionView → State
state_of h = record { files = files_of h; version = h.graph.version }

-- the paths of the edit of that number, counted from 1
abbrev pub paths_at : List Edit → ℕ → List (List ℕ)
paths_at [] n = []
paths_at (edit ∷ edits) zero = []
paths_at (edit ∷ edits) (suc zero) = paths_of edit
paths_at (edit ∷ edits) (suc (suc n)) = paths_at edits (suc n)

-- the history of edits from version 0 on: the files after the first u, and the paths of the u-th
abbrev pub files_at : List Edit → ℕ → Files
files_at edits u = files_after map.empty (take u edits)

-- `files u` are the files at version u, and `paths u` are the paths of the edit to version u, where these edits are
-- made from version n on
abbrev pub Follows : (ℕ → Files) → (ℕ → List (List ℕ)) → ℕ → List Edit → Type 0
Follows files paths n [] = ⊤
Follows files paths n (edit ∷ edits) = (files (suc n) ≡ changed_files edit (files n)) × (paths (suc n) ≡ paths_of edit) × Follows files paths (suc n) edits

-- a history that begins at a version without files
pub record IsHistory (files : ℕ → Files) (paths : ℕ → List (List ℕ)) (began : ℕ) (edits : List Edit) : Type 0 where
  pub start : files began ≡ map.empty
  pub follows : Follows files paths began edits

-- the version counts the edits, and the graph is consistent for their history under the loading rules
pub record IsConsistent (h : SessionView) : Type 0 where
  pub version : h.graph.version ≡ h.began + length h.edits
  pub lawful : (files : ℕ → Files) (paths : ℕ → List (List ℕ)) → IsHistory files paths h.began h.edits → IsConsistentFor next (λ u. read (files u)) paths h.graph
