-- How much there is to evaluate in an expression: more than in all its parts together.
use Rattle.std.proofs.Common.{◌+◌, ℕ}
use Rattle.syntax_tree.specs.Tree as t
use Rattle.syntax_tree.specs.Tree.{Ex, Exs, Bound}

abbrev mutual
  pub size : Ex → ℕ
  size (t.name x) = 1
  size (t.int n) = 1
  size (t.str x) = 1
  size (t.literal l) = 1
  size (t.tuple es) = sizes es + 4
  size (t.list es) = sizes es + 4
  size (t.dict ks es) = sizes ks + sizes es + 4
  size (t.list_of e cs) = size e + 4
  size (t.dict_of k e cs) = size k + size e + 4
  size (t.unary op e) = size e + 4
  size (t.binary op a b) = size a + size b + 4
  size (t.choice a c b) = size a + size c + size b + 4
  size (t.index a i) = size a + size i + 4
  size (t.slice a i j) = size a + bound_size i + bound_size j + 4
  size (t.call f es names) = size f + sizes es + 4
  size (t.method e name es names) = size e + sizes es + 4

  pub sizes : Exs → ℕ
  sizes t.no_exs = 0
  sizes (t.ex e es) = size e + sizes es + 1

  pub bound_size : Bound → ℕ
  bound_size t.no_bound = 0
  bound_size (t.bound e) = size e
