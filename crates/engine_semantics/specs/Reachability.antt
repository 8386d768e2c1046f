-- The keys that an evaluation of some roots reaches.
use Rattle.std.specs.Prelude.{◌≡◌, List, [], Option, None}
use Rattle.engine_semantics.specs.Reply.{Reply, Ask}
use Rattle.engine_semantics.specs.Value.{In}
use Rattle.engine_semantics.specs.Choices.{Comes}

module _ {K V : Type 0} (next : K → List V → Reply K V) (cycle : List K → V) (read : K → Option V) where
  -- at these files the turns of k ask for this group, after others whose members are all grounded
  pub record AsksGroup (k : K) (group : List K) : Type 0 where
    pub no_leaf : read k ≡ None
    pub passed : List (List K)
    pub answers : List V
    pub comes : Comes next cycle read k [] passed answers
    pub asks : next k answers ≡ Ask group

  -- the roots, and the members of the groups that reached keys ask
  pub data Reached (roots : List K) : K → Type 0 where
    root : {k : K} → In k roots → Reached roots k
    member : {k j : K} {group : List K} → Reached roots k → AsksGroup k group → In j group → Reached roots j
