-- The names that pieces of a file bind (Starlark's specification, "Name binding and variables").
use Rattle.std.specs.Prelude.{ℕ, List, [], ◌∷◌, ◌++◌, ◌==◌, Bool, true, false, if◌then◌else◌, map}
use Rattle.std.specs.Cmp.Lexicographic.{pointwise}
use Rattle.syntax_tree.specs.Tree as t
use Rattle.syntax_tree.specs.Tree.{Ex, Exs, Clauses, Cl, St, Suite, Branches, Br, Tp, Ld, It, Pa}

-- the names that an assignment to a target binds
abbrev mutual
  pub target_names : Ex → List (List ℕ)
  target_names (t.name x) = x ∷ []
  target_names (t.tuple es) = targets_names es
  target_names (t.list es) = targets_names es
  target_names e = []

  pub targets_names : Exs → List (List ℕ)
  targets_names t.no_exs = []
  targets_names (t.ex e es) = target_names e ++ targets_names es

-- the names of a comprehension: those that its `for` clauses bind
abbrev pub clause_names : Clauses → List (List ℕ)
clause_names t.no_clauses = []
clause_names (t.clause (t.for_in target sequence) cs) = target_names target ++ clause_names cs
clause_names (t.clause (t.only_if e) cs) = clause_names cs

-- the names that a statement binds: by assignments, by augmented ones too, and by `for`
abbrev mutual
  pub stmt_names : St → List (List ℕ)
  stmt_names (t.assign line target e) = target_names target
  stmt_names (t.augment line target op e) = target_names target
  stmt_names (t.if_else branches other) = branches_names branches ++ suite_names other
  stmt_names (t.for_each line target e body) = target_names target ++ suite_names body
  stmt_names s = []

  pub suite_names : Suite → List (List ℕ)
  suite_names t.no_more = []
  suite_names (t.next s ss) = stmt_names s ++ suite_names ss

  pub branches_names : Branches → List (List ℕ)
  branches_names t.no_branches = []
  branches_names (t.more_branches b bs) = branch_names b ++ branches_names bs

  pub branch_names : Br → List (List ℕ)
  branch_names (t.branch line condition body) = suite_names body

-- the names that a file's own statements bind at file level
abbrev pub top_names : List Tp → List (List ℕ)
top_names [] = []
top_names (t.stmt s ∷ tops) = stmt_names s ++ top_names tops
top_names (t.def d ∷ tops) = d.name ∷ top_names tops

abbrev pub item_names : List It → List (List ℕ)
item_names [] = []
item_names (i ∷ is) = i.local ∷ item_names is

-- the names that a file's loads bind
abbrev pub load_names : List Ld → List (List ℕ)
load_names [] = []
load_names (l ∷ ls) = item_names l.items ++ load_names ls

-- ---- each name once

abbrev pub has_name : List ℕ → List (List ℕ) → Bool
has_name x [] = false
has_name x (y ∷ ys) = if pointwise ◌==◌ x y then true else has_name x ys

-- each name once, where it is first
abbrev pub names_once : List (List ℕ) → List (List ℕ) → List (List ℕ)
names_once done [] = []
names_once done (x ∷ xs) = if has_name x done then names_once done xs else x ∷ names_once (x ∷ done) xs

-- no name occurs twice
abbrev pub differ : List (List ℕ) → Bool
differ [] = true
differ (x ∷ xs) = if has_name x xs then false else differ xs

-- the names of a call of a function: its parameters, and those that its body binds besides
abbrev pub function_names : List Pa → Suite → List (List ℕ)
function_names params body = map (λ p. p.name) params ++ names_once (map (λ p. p.name) params) (suite_names body)
