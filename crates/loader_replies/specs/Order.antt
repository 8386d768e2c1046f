-- Attributes under their names as members of an object.
use Rattle.std.specs.Prelude.{◌≡◌, ◌≢◌, ℕ, ◌≤◌, List, [], ◌∷◌, length, take, drop}
use Rattle.std.specs.Cow.{cow_str_bytes}
use Rattle.std.specs.Cmp.Lexicographic.{slice_cmp}
use Rattle.std.specs.Ordering.{nat_cmp}
use Rattle.std.specs.declared.cmp.Ordering.TheVariants.{Greater}
use Rattle.serde_json.specs.Data.{Data, Members, member, put}
use Rattle.values_modules.specs.View.{attribute_of}
use Rattle.loader_replies.specs.Answers.{attribute_data}
use Rattle.loader_replies.specs.declared.order.Row.{Row}

abbrev pub name_of : Row → List ℕ
name_of r = cow_str_bytes r.name

-- the rows as members, in front of others
abbrev pub onto : List Row → Members → Members
onto [] ms = ms
onto (r ∷ rs) ms = member (name_of r) (attribute_data (attribute_of r.value)) (onto rs ms)

-- this many rows have names below this one, and the row after them has not
pub record Passes (name : List ℕ) (rows : List Row) (at : ℕ) : Type 0 where
  pub within : at ≤ length rows
  -- whatever is put at the name comes after them
  pub below : (d : Data) (ms : Members) → put name d (onto (take at rows) ms) ≡ onto (take at rows) (put name d ms)
  pub stops : (r : Row) (more : List Row) → drop at rows ≡ r ∷ more → slice_cmp nat_cmp name (name_of r) ≢ Greater
