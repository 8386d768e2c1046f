-- What the graph has of the members of groups. `records` gives the graph's record of a key.
use Rattle.std.specs.Prelude.{◌≡◌, ◌⊎◌, List, [], ◌∷◌, ◌++◌, map, Bool, true, false, if◌then◌else◌, Option, Some, None}
use Rattle.engine_semantics.specs.Graph.{Record}
use Rattle.engine_semantics.specs.Value.{In, IsMember}
use Rattle.keys.specs.declared.key.Key.{Key}
use Rattle.keys.specs.declared.value.Value.{Value}
use Rattle.keys.specs.declared.value.Value.TheVariants as value
use Rattle.round_nodes.specs.Nodes.{Records, IsClean, IsPlain, IsUnsettled}

-- the members of the group that are not settled
pub record IsMissing (records : Records) (group missing : List Key) : Type 0 where
  pub among : (j : Key) → In j missing → In j group
  pub rest : (j : Key) → In j group → In j missing ⊎ IsClean records j

-- a key of the list that is not settled, or all are
abbrev pub FindsUnsettled : Records → List Key → Option Key → Type 0
FindsUnsettled records keys (Some k) = In k keys × IsUnsettled records k
FindsUnsettled records keys None = (j : Key) → In j keys → IsClean records j

abbrev pub is_cycle : Value → Bool
is_cycle (value.File t) = false
is_cycle (value.Listing l) = false
is_cycle (value.Lookup b) = false
is_cycle (value.Paths paths) = false
is_cycle (value.Module loaded) = false
is_cycle (value.Package targets) = false
is_cycle (value.Fault fault) = false
is_cycle (value.Cycle names) = true

abbrev pub no_cycle : Value → Option Value
no_cycle v = (if is_cycle v then None else Some v)

-- the value of a key that is settled, and not as a cycle
abbrev pub plain_value : Option (Record Key Value) → Option Value
plain_value None = None
plain_value (Some r) = (if r.dirty then None else no_cycle r.value)

-- the first member of a group that has no such value, or none if all have one
abbrev pub IsStop : Records → List Key → Option Key → Type 0
IsStop records group (Some k) = (before : List Key) × (rest : List Key) × (group ≡ before ++ k ∷ rest) × ((j : Key) → In j before → IsPlain records j) × (plain_value (records k) ≡ None)
IsStop records group None = (j : Key) → In j group → IsPlain records j

-- a member is settled as a cycle, or each settled member has a value
abbrev pub HasCycle : Records → List Key → Bool → Type 0
HasCycle records group true = (j : Key) × In j group × IsClean records j × (plain_value (records j) ≡ None)
HasCycle records group false = (j : Key) → In j group → IsClean records j → IsPlain records j

-- the values of a group were added to the answers, or a member has none
abbrev pub AnswersGroup : Records → List Key → List Value → List Value → Bool → Type 0
AnswersGroup records group old new true = (vs : List Value) × (new ≡ old ++ vs) × (map (λ k. plain_value (records k)) group ≡ map (λ v. Some v) vs)
AnswersGroup records group old new false = (j : Key) × In j group × (plain_value (records j) ≡ None)

-- the values of the members of groups
abbrev pub all_values : Records → List (List Key) → List (Option Value)
all_values records [] = []
all_values records (group ∷ groups) = map (λ k. plain_value (records k)) group ++ all_values records groups

abbrev pub AreAnswers : Records → List (List Key) → List Value → Type 0
AreAnswers records groups answers = all_values records groups ≡ map (λ v. Some v) answers

-- the answers to groups, or a member has none
abbrev pub Answers : Records → List (List Key) → Option (List Value) → Type 0
Answers records groups (Some answers) = AreAnswers records groups answers
Answers records groups None = (j : Key) × IsMember j groups × (plain_value (records j) ≡ None)
