-- How much an expression has: its parts, and the values that it makes that are not in its source, which count for more.
-- Those are the values of operators between operands, calls and slices. One of them may take some megabytes, and what an
-- expression that is evaluated at once leaves is given back behind it alone. How much an expression has is found before
-- each of its evaluations. So only expressions that have little are evaluated at once.
use Rattle.std.specs.Prelude.{ℕ, ◌+◌, ◌-◌, Bool, cond, nat_le}
use Rattle.syntax_tree.specs.Tree as t
use Rattle.syntax_tree.specs.Tree.{Ex, Exs, Bound}

-- a value that is made counts for so many parts
abbrev pub made_weight : ℕ
made_weight = 128

abbrev mutual
  pub weight : Ex → ℕ
  weight (t.name x) = 1
  weight (t.int n) = 1
  weight (t.str x) = 1
  weight (t.literal l) = 1
  weight (t.tuple es) = weights es + 1
  weight (t.list es) = weights es + 1
  weight (t.dict ks es) = 1
  weight (t.list_of e cs) = 1
  weight (t.dict_of k e cs) = 1
  weight (t.unary op e) = weight e + 1
  weight (t.binary op a b) = weight a + weight b + made_weight
  weight (t.choice a c b) = weight a + weight c + weight b + 1
  weight (t.index a i) = weight a + weight i + 1
  weight (t.slice a i j) = weight a + bound_weight i + bound_weight j + made_weight
  weight (t.call f es names) = weights es + made_weight
  weight (t.method e name es names) = weight e + weights es + made_weight

  pub weights : Exs → ℕ
  weights t.no_exs = 0
  weights (t.ex e es) = weight e + weights es

  pub bound_weight : Bound → ℕ
  bound_weight t.no_bound = 0
  bound_weight (t.bound e) = weight e

-- less than nine values, or less than so many parts
abbrev pub most_weight : ℕ
most_weight = 1151

abbrev pub is_light : ℕ → Bool
is_light n = nat_le n most_weight

-- how much more there may be behind a part of this weight, of so much; nothing behind a part that can wait
abbrev pub room : (is_quiet : Bool) (part left : ℕ) → ℕ
room is_quiet part left = cond is_quiet (left - part) 0
