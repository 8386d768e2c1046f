-- Which choices are possible in a round, from the graph at its entry and the choices before.
use Rattle.std.specs.Prelude.{◌≡◌, ◌≢◌, ℕ, ◌<◌, ◌≤◌, suc, true, false, List, [], ◌∷◌, ◌++◌, length, Option, Some, None}
use Rattle.engine_semantics.specs.Reply.{Reply, Ask, Done}
use Rattle.engine_semantics.specs.Value.{AllGrounded, HasValue, In, IsMember}
use Rattle.engine_semantics.specs.Graph.{Record}

pub data Choice (K : Type 0) : Type 0 where
  Hand : K → Choice K
  Back : K → Choice K
  Drop : K → Choice K

-- Of a list of choices, the newest first:
-- at least n turns of k were taken back
pub data Backs {K : Type 0} (k : K) : ℕ → List (Choice K) → Type 0 where
  nothing : {cs : List (Choice K)} → Backs k 0 cs
  back : {n : ℕ} {cs : List (Choice K)} → Backs k n cs → Backs k (suc n) (Back k ∷ cs)
  other : {n : ℕ} {c : Choice K} {cs : List (Choice K)} → Backs k n cs → Backs k n (c ∷ cs)

-- its job was handed out, and not taken back since
pub data IsOut {K : Type 0} (k : K) : List (Choice K) → Type 0 where
  handed : {cs : List (Choice K)} → IsOut k (Hand k ∷ cs)
  still : {c : Choice K} {cs : List (Choice K)} → c ≢ Back k → IsOut k cs → IsOut k (c ∷ cs)

-- its turn was taken back, and since then its state was not dropped and it was not handed out
pub data Keeps {K : Type 0} (k : K) : List (Choice K) → Type 0 where
  taken : {cs : List (Choice K)} → Keeps k (Back k ∷ cs)
  kept : {c : Choice K} {cs : List (Choice K)} → c ≢ Hand k → c ≢ Drop k → Keeps k cs → Keeps k (c ∷ cs)

module _ {K V : Type 0} (next : K → List V → Reply K V) (cycle : List K → V) (read : K → Option V) where
  -- from the answers a on, k asks for these groups, all grounded, and then has the answers b
  pub data Comes : K → List V → List (List K) → List V → Type 0 where
    stay : {k : K} {a : List V} → Comes k a [] a
    asks : {k : K} {a : List V} {group : List K} {values : List V} {groups : List (List K)} {b : List V}
        → next k a ≡ Ask group → AllGrounded next read group values → Comes k (a ++ values) groups b → Comes k a (group ∷ groups) b

  module _ (records : K → Option (Record K V)) where
    -- the value of j changed after version u, by its record at entry and its value at the present files
    pub data Changed (u : ℕ) (j : K) : Type 0 where
      before : {s : Record K V} → records j ≡ Some s → u < s.changed_at → Changed u j
      present : {s : Record K V} {v : V} → records j ≡ Some s → HasValue next read cycle j v → v ≢ s.value → Changed u j

    pub record Unchanged (u : ℕ) (j : K) : Type 0 where
      pub of_j : Record K V
      pub recorded : records j ≡ Some of_j
      pub early : of_j.changed_at ≤ u
      pub same : HasValue next read cycle j of_j.value

    module _ (roots : List K) (choices : List (Choice K)) where
      mutual
        pub data Wanted : K → Type 0 where
          root : {k : K} → In k roots → Wanted k
          member : {k j : K} {group : List K} → Asked j group → In k group → Wanted k

        -- j, which is opened, asked for the group
        pub data Asked : K → List K → Type 0 where
          by_check : {j : K} {r : Record K V} {passed rest : List (List K)} {group : List K} → Checks j r passed (group ∷ rest) → Asked j group
          by_turn : {j : K} {groups : List (List K)} {answers : List V} {group : List K}
              → Runs j → Comes j [] groups answers → Backs j (suc (length groups)) choices → next j answers ≡ Ask group → Asked j group

        -- k is checked: its record is dirty, and the groups that it passed are settled without a change
        pub data Checks : K → Record K V → List (List K) → List (List K) → Type 0 where
          begins : {k : K} {r : Record K V} → Wanted k → read k ≡ None → records k ≡ Some r → r.dirty ≡ true → Checks k r [] r.groups
          passes : {k : K} {r : Record K V} {passed rest : List (List K)} {group : List K}
              → Checks k r passed (group ∷ rest) → ((j : K) → In j group → Settled j) → ((j : K) → In j group → Unchanged r.settled_at j) → Checks k r (passed ++ group ∷ []) rest

        -- k makes turns: it has no record, or its check came to a group with a changed member
        pub data Runs : K → Type 0 where
          is_new : {k : K} → Wanted k → read k ≡ None → records k ≡ None → Runs k
          differs : {k j : K} {r : Record K V} {passed rest : List (List K)} {group : List K}
              → Checks k r passed (group ∷ rest) → ((i : K) → In i group → Settled i) → In j group → Changed r.settled_at j → Runs k

        pub data Settled : K → Type 0 where
          leaf : {k : K} {v : V} → Wanted k → read k ≡ Some v → Settled k
          clean : {k : K} {r : Record K V} → Wanted k → records k ≡ Some r → r.dirty ≡ false → Settled k
          checked : {k : K} {r : Record K V} {passed : List (List K)} → Checks k r passed [] → Settled k
          ended : {k : K} {groups : List (List K)} {answers : List V} {v : V}
              → Runs k → Comes k [] groups answers → Backs k (suc (length groups)) choices → next k answers ≡ Done v → Settled k

      -- k runs, is neither settled nor out, and the groups that its turns asked for are settled, all members grounded
      pub record CanHand (k : K) : Type 0 where
        pub runs : Runs k
        pub open_still : ¬ Settled k
        pub not_out : ¬ IsOut k choices
        pub groups : List (List K)
        pub answers : List V
        pub comes : Comes k [] groups answers
        pub taken : Backs k (length groups) choices
        pub no_more : ¬ Backs k (suc (length groups)) choices
        pub settled : (j : K) → IsMember j groups → Settled j

      -- neither a Hand nor a Back is possible: all opened keys are settled
      abbrev pub IsStall : Type 0
      IsStall = ((k : K) → ¬ CanHand k) × ((k : K) → ¬ IsOut k choices)

      abbrev pub IsPossible : Choice K → Type 0
      IsPossible (Hand k) = CanHand k
      IsPossible (Back k) = IsOut k choices
      IsPossible (Drop k) = Keeps k choices × (¬ Settled k) × (¬ IsStall)

    -- each choice of the list, the newest first, was possible after those before it
    pub data Legal (roots : List K) : List (Choice K) → Type 0 where
      none : Legal roots []
      one : {c : Choice K} {cs : List (Choice K)} → IsPossible roots cs c → Legal roots cs → Legal roots (c ∷ cs)
