-- What a table is after a loan of a value has ended.
use Rattle.std.specs.Prelude.{◌≡◌, ℕ, List, Option, IsSome}
use Rattle.std.specs.Borrow.{Lends, LendsSo, Fml, RattleType, MutBor}
use Rattle.std.specs.Map.{set_value}
use Rattle.keys.specs.Keys.{key_eq}
use Rattle.keys.specs.declared.key.Key.{Key}
use Rattle.indexmap.specs.IndexMap.{set_value_at}
use Rattle.node_table.specs.Tables.{value_of, Writes}
use Rattle.node_table.specs.contracts.table.Table.{the_row}

-- the key with this number has the last value written through the loan
abbrev pub lends_value : (V : RattleType) → MutBor (List (Key × V.Denot)) → ℕ → MutBor V.Denot → Fml
lends_value V table n loan = Lends (the_row V) V table loan (set_value_at table.now n)

-- a key that is there has the last value written through the loan, and without such a key nothing has changed
abbrev pub lends_found : (V : RattleType) → MutBor (List (Key × V.Denot)) → Key → Option (MutBor V.Denot) → Fml
lends_found V table k loan =
    LendsSo (the_row V) V table loan (λ new w. (new ≡ set_value (key_eq k) table.now w) × (IsSome (value_of table.now k) → Writes table.now new k w)) (λ new. new ≡ table.now)
