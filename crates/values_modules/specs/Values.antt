-- What the evaluation of a file leaves: a module for a .bzl file, targets for a BUILD file.
use Rattle.std.specs.Prelude.{ℕ, List}
use Rattle.values_semantics.specs.Freezing.{Fz, Fzs}
use Rattle.syntax_tree.specs.Tree.{Fn}

-- an attribute of a target: a text, or a list of texts
pub data Attribute : Type 0 where
  single : List ℕ → Attribute
  several : List (List ℕ) → Attribute

-- a target: the rule that made it, its name, and its attributes, in byte order of their names
pub record Target : Type 0 where
  pub kind : List ℕ
  pub name : List ℕ
  pub attributes : List (List ℕ × Attribute)

-- a name with its value
pub record Frozen : Type 0 where
  pub name : List ℕ
  pub value : Fz

-- the values of a function's defaults, in the order of its parameters
pub record Defaults : Type 0 where
  pub name : List ℕ
  pub values : Fzs

-- one .bzl file: its own globals in the order in which they were bound, the names that its loads bound, the trees of
-- its functions, and their defaults
pub record Body : Type 0 where
  pub label : List ℕ
  pub path : List ℕ
  pub own : List Frozen
  pub loaded : List Frozen
  pub functions : List Fn
  pub defaults : List Defaults

-- the value of a .bzl file: itself, and all modules that its loads reach, each once
pub record ModuleValue : Type 0 where
  pub body : Body
  pub reached : List Body
