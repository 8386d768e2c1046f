-- What a list of choices leads to.
use Rattle.std.specs.Prelude.{◌≡◌, ℕ, ◌+◌, ◌<◌, List, [], ◌∷◌, ◌++◌, take, drop, Option}
use Rattle.engine_semantics.specs.Reply.{Reply}
use Rattle.engine_semantics.specs.Value.{In}
use Rattle.engine_semantics.specs.Choices.{Legal, IsStall, Settled}
use Rattle.engine_semantics.specs.Choices as choices
use Rattle.keys.specs.Cycles.{cycle}
use Rattle.keys.specs.declared.key.Key.{Key}
use Rattle.keys.specs.declared.value.Value.{Value}
use Rattle.node.specs.Graphs.{GraphView, record_at}
use Rattle.round_nodes.specs.TurnCounts.{turns_of}
use Rattle.round_nodes.specs.Nodes.{IsUnsettled}
use Rattle.round_nodes.specs.Invariants.{Past, IsAfter}
use Rattle.round_nodes.specs.declared.run.Run.{Run}
use Rattle.round.specs.declared.choice.Choice.{Choice}
use Rattle.round.specs.declared.choice.Choice.TheVariants as choice
use Rattle.round.specs.declared.choice.Replayed.{Replayed}
use Rattle.round.specs.declared.choice.Replayed.TheVariants as replayed
use Rattle.round.specs.Call.{IsCall, IsHistory}
use Rattle.round.specs.Choosing.{IsPossibleAfter}

abbrev pub choice_view : Choice → choices.Choice Key
choice_view (choice.Hand k) = choices.Hand k
choice_view (choice.Back k) = choices.Back k
choice_view (choice.Drop k) = choices.Drop k

-- the choices, the newest first, after earlier ones
abbrev pub newest_after : List (choices.Choice Key) → List Choice → List (choices.Choice Key)
newest_after earlier [] = earlier
newest_after earlier (c ∷ more) = newest_after (choice_view c ∷ earlier) more

abbrev pub newest : List Choice → List (choices.Choice Key)
newest made = newest_after [] made

-- how many turns the choices hand out
abbrev pub hand_of : Choice → ℕ
hand_of (choice.Hand k) = 1
hand_of (choice.Back k) = 0
hand_of (choice.Drop k) = 0

abbrev pub hands : List Choice → ℕ
hands [] = 0
hands (c ∷ more) = hand_of c + hands more

-- how many turns the choices that were read hand out
abbrev pub turns_told : List Choice → Replayed → ℕ
turns_told made (replayed.Done runs) = turns_of runs.items
turns_told made replayed.ChoicesEnded = hands made
turns_told made (replayed.NotLegal n) = hands (take n made)

-- the choice at a place
abbrev pub IsAt : List Choice → ℕ → Choice → Type 0
IsAt made n c = made ≡ take n made ++ c ∷ drop (n + 1) made

-- a root is not settled
abbrev pub HasOpenRoot : List Key → GraphView → Type 0
HasOpenRoot roots graph = (k : Key) × In k roots × IsUnsettled (record_at graph) k

module _ (next : Key → List Value → Reply Key Value) (read : Key → Option Value) where
  -- each of the choices was possible after those before it
  abbrev pub AreLegal : Past read → List Choice → Type 0
  AreLegal past made = Legal next cycle read (record_at past.entry) past.roots (newest made)

  -- the choices leave a root that is not settled
  abbrev pub LacksRoot : Past read → List Choice → Type 0
  LacksRoot past made = (k : Key) × In k past.roots × (Settled next cycle read (record_at past.entry) past.roots (newest made) k → ⊥)

  -- the choices lead to no stall
  abbrev pub LeadsToNoStall : Past read → List Choice → Type 0
  LeadsToNoStall past made = IsStall next cycle read (record_at past.entry) past.roots (newest made) → ⊥

  -- This many choices were read. Each was possible after those before it, and the runs have the turns that they handed
  -- out. After them, as nowhere earlier, no turn can be handed out or taken back: the roots are settled, or what is
  -- open leads into cycles.
  pub record HasRead (past : Past read) (made : List Choice) (runs : List Run) : Type 0 where
    pub number : ℕ
    pub legal : AreLegal past (take number made)
    pub at_stall : IsStall next cycle read (record_at past.entry) past.roots (newest (take number made))
    pub turns : turns_of runs ≡ hands (take number made)
    -- before each of them a root was not settled
    pub not_sooner : (n : ℕ) → n < number → LacksRoot past (take n made)

  -- the law of a call is true, and choices were read up to a stall; or all were possible, and a root is not settled; or
  -- the one at the place was not possible after those before it, and a root is not settled. After the latter two there
  -- is no stall, and the graph is as after a stop.
  abbrev pub Replays : List Key → GraphView → GraphView → List Choice → Replayed → Type 0
  Replays roots old new made (replayed.Done runs) = (past : Past read) → IsHistory next read past roots old → IsCall next read past new runs.items × HasRead past made runs.items
  Replays roots old new made replayed.ChoicesEnded = (past : Past read) → IsHistory next read past roots old → IsAfter next read past new × HasOpenRoot roots new × AreLegal past made × LeadsToNoStall past made
  Replays roots old new made (replayed.NotLegal n) = (past : Past read) → IsHistory next read past roots old → IsAfter next read past new × HasOpenRoot roots new × AreLegal past (take n made)
      × LeadsToNoStall past (take n made) × (c : Choice) × IsAt made n c × (IsPossibleAfter next read past (newest (take n made)) (choice_view c) → ⊥)

  -- the choices before the place were possible and handed out the budget's turns, and the one there could hand out a
  -- further one
  pub record IsSpentAt (past : Past read) (made : List Choice) (budget n : ℕ) (c : Choice) : Type 0 where
    pub at : IsAt made n c
    pub hand : hand_of c ≡ 1
    pub spent : hands (take n made) ≡ budget
    pub legal : AreLegal past (take n made)
    pub possible : IsPossibleAfter next read past (newest (take n made)) (choice_view c)

  -- this is the case at a choice, and a root is not settled
  abbrev pub SpendsBudget : List Key → GraphView → GraphView → List Choice → ℕ → Type 0
  SpendsBudget roots old new made budget = (past : Past read) → IsHistory next read past roots old → HasOpenRoot roots new × (n : ℕ) × (c : Choice) × IsSpentAt past made budget n c

  -- this is the case at no choice
  abbrev pub KeepsBudget : List Key → GraphView → List Choice → ℕ → Type 0
  KeepsBudget roots old made budget = (past : Past read) → IsHistory next read past roots old → (n : ℕ) (c : Choice) → IsSpentAt past made budget n c → ⊥
