-- Syntax trees as plain data: no pointers, a text is its bytes.
use Rattle.std.specs.Prelude.{ℕ, ℤ, List, Option}
use Rattle.syntax_tree.specs.declared.expr.Literal.{Literal}
use Rattle.syntax_tree.specs.declared.expr.UnaryOp.{UnaryOp}
use Rattle.syntax_tree.specs.declared.expr.BinaryOp.{BinaryOp}

mutual
  pub data Ex : Type 0 where
    name : List ℕ → Ex
    int : ℤ → Ex
    str : List ℕ → Ex
    literal : Literal → Ex
    tuple : Exs → Ex
    list : Exs → Ex
    dict : Exs → Exs → Ex
    list_of : Ex → Clauses → Ex
    dict_of : Ex → Ex → Clauses → Ex
    unary : UnaryOp → Ex → Ex
    binary : BinaryOp → Ex → Ex → Ex
    choice : Ex → Ex → Ex → Ex
    index : Ex → Ex → Ex
    slice : Ex → Bound → Bound → Ex
    call : Ex → Exs → List (List ℕ) → Ex
    method : Ex → List ℕ → Exs → List (List ℕ) → Ex

  pub data Exs : Type 0 where
    no_exs : Exs
    ex : Ex → Exs → Exs

  pub data Bound : Type 0 where
    no_bound : Bound
    bound : Ex → Bound

  pub data Clauses : Type 0 where
    no_clauses : Clauses
    clause : Cl → Clauses → Clauses

  pub data Cl : Type 0 where
    for_in : Ex → Ex → Cl
    only_if : Ex → Cl

mutual
  -- the number is the line
  pub data St : Type 0 where
    pass : ℕ → St
    break : ℕ → St
    continue : ℕ → St
    return : ℕ → Bound → St
    eval : ℕ → Ex → St
    assign : ℕ → Ex → Ex → St
    augment : ℕ → Ex → BinaryOp → Ex → St
    if_else : Branches → Suite → St
    for_each : ℕ → Ex → Ex → Suite → St

  pub data Suite : Type 0 where
    no_more : Suite
    next : St → Suite → Suite

  pub data Branches : Type 0 where
    no_branches : Branches
    more_branches : Br → Branches → Branches

  pub data Br : Type 0 where
    branch : ℕ → Ex → Suite → Br

pub record Pa : Type 0 where
  pub name : List ℕ
  pub default : Bound

pub record Fn : Type 0 where
  pub line : ℕ
  pub name : List ℕ
  pub params : List Pa
  pub body : Suite

pub data Tp : Type 0 where
  stmt : St → Tp
  def : Fn → Tp

pub record It : Type 0 where
  pub local : List ℕ
  pub exported : List ℕ

pub record Ld : Type 0 where
  pub line : ℕ
  pub label : List ℕ
  pub items : List It

pub record Fi : Type 0 where
  pub leading : Option ℕ
  pub loads : List Ld
  pub tops : List Tp
