use Rattle.std.proofs.Common.{◌≡◌, drop}
use Rattle.std.specs.List.{list_any}
use Rattle.keys.specs.Keys.{key_eq}
use Rattle.node_table.specs.Flats.{members_in}
use Rattle.node.proofs.edges.is_named.Given as goal

-- it is the key of none of the numbers so far
abbrev pub invariant-loop-number : goal.invariant-loop-number
invariant-loop-number l = list_any (λ k. key_eq k l.member) (members_in l.records l.numbers) ≡ list_any (λ k. key_eq k l.member) (members_in l.records (drop l.number-index l.numbers))
