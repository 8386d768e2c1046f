-- What the walks of the code see of values, and what the definitions see.
use Rattle.std.specs.Prelude.{◌≡◌, ℕ, Result, Ok, Err}
use Rattle.values_semantics.specs.Outcome.{Out, gives, faults}
use Rattle.values_semantics.specs.Hashing as h
use Rattle.values_semantics.specs.Comparing as e
use Rattle.values_objects.specs.declared.halt.Halt.{Halt}
use Rattle.values_objects.specs.declared.halt.Halt.TheVariants.{Code, Memory}
use Rattle.values_operators.specs.declared.hashing.KeyForm.{KeyForm}
use Rattle.values_operators.specs.declared.hashing.KeyForm.TheVariants as k
use Rattle.values_operators.specs.declared.equality.Pair.{Pair}
use Rattle.values_operators.specs.declared.equality.Pair.TheVariants as p
use Rattle.values_operators.specs.declared.ordering.OrderCase.{OrderCase}
use Rattle.values_operators.specs.declared.ordering.OrderCase.TheVariants as s
use Rattle.values_operators.specs.declared.ordering.FirstDifference.{FirstDifference}
use Rattle.values_operators.specs.declared.ordering.FirstDifference.TheVariants as t

abbrev pub key_seen : KeyForm → h.AsKey
key_seen (k.Part p) = h.part p
key_seen (k.Parts members) = h.parts members
key_seen k.NoKey = h.no_key

abbrev pub pair_seen : Pair → e.Pair
pair_seen (p.Decided same) = e.settled same
pair_seen (p.Members xs ys) = e.members xs ys
pair_seen (p.Entries xs ys) = e.entries xs ys

abbrev pub sides_seen : OrderCase → e.Sides
sides_seen (s.Ordered o) = e.ordered o
sides_seen (s.Listed xs ys) = e.listed xs ys
sides_seen s.NoOrder = e.no_order

abbrev pub parting_seen : FirstDifference → e.Parting
parting_seen (t.SettledAs o) = e.settled_as o
parting_seen (t.Unequal x y) = e.unequal x y

-- as `Says`, of where two lists differ first
abbrev pub SaysParting : Out ℕ e.Parting → Result FirstDifference Halt → ℕ → Type 0
SaysParting out (Ok p) s = out ≡ gives (parting_seen p) s
SaysParting out (Err (Code c)) s = out ≡ faults c
SaysParting out (Err (Memory _)) s = Unit {0}
