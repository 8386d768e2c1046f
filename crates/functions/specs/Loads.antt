-- The files of a tree that are evaluated, which modules they load, and where loads lead into a cycle.
use Rattle.std.specs.Prelude.{◌≡◌, ℕ, List, [], ◌∷◌, map, Option, Some, None, Result, Ok, Err, if◌then◌else◌}
use Rattle.std.specs.FinMap as map_of
use Rattle.std.specs.List.{list_any}
use Rattle.values_semantics.specs.declared.faults.TheConstants.{BAD_LABEL, BOUNDARY_CROSSED, NO_MODULE, NO_PACKAGE}
use Rattle.syntax_tree.specs.Tree.{Fi, Ld}
use Rattle.syntax_tokens.specs.Reading as tokens
use Rattle.syntax_grammar.specs.declared.kind.FileKind.{FileKind}
use Rattle.syntax_grammar.specs.declared.kind.FileKind.TheVariants as k
use Rattle.syntax_grammar.specs.Files.{parse_of}
use Rattle.labels.specs.Labels.{Target, label_of, label_text, label_file, is_module, boundaries}
use Rattle.filetree.specs.Files.{Files}
use Rattle.pattern.specs.Globs.{is_package}
use Rattle.engine_semantics.specs.Value.{In, AllDiffer}
use Rattle.engine_semantics.specs.Rotation.{rotated}
use Rattle.keys.specs.declared.value.Fault.{Fault}
use Rattle.keys.specs.declared.value.BuildName.{BuildName}
use Rattle.functions_directories.specs.Lookups.{build_of, build_path}
use Rattle.functions.specs.Sources.{fault_at, each_or_fault}

-- what is evaluated: the file of a module, or the BUILD file of a package
pub data Node : Type 0 where
  of_module : Target → Node
  of_package : (name : List ℕ) → Node

-- a file that can be evaluated: its path, its tree, and the modules of its load statements, in order
pub record File : Type 0 where
  pub path : List ℕ
  pub tree : Fi
  pub loads : List Target

-- the module of a load statement; fault 15 in its line if its label is bad or not a module's
abbrev pub if_module : Option Target → List ℕ → ℕ → Result Target Fault
if_module None path line = Err (fault_at BAD_LABEL path line)
if_module (Some t) path line = if is_module t then Ok t else Err (fault_at BAD_LABEL path line)

abbrev pub loaded_by : (path package_name : List ℕ) → Ld → Result Target Fault
loaded_by path package_name l = if_module (label_of l.label package_name) path l.line

abbrev pub with_loads : List ℕ → Fi → Result (List Target) Fault → Result File Fault
with_loads path tree (Ok ts) = Ok (record { path = path; tree = tree; loads = ts })
with_loads path tree (Err f) = Err f

-- the fault of the parse, else that of the first load that names no module
abbrev pub file_or_fault : (path package_name : List ℕ) → Result Fi tokens.Fault → Result File Fault
file_or_fault path package_name (Ok tree) = with_loads path tree (each_or_fault (loaded_by path package_name) tree.loads)
file_or_fault path package_name (Err f) = Err (fault_at f.code path f.line)

-- fault 16 if the file does not exist
abbrev pub of_text : FileKind → (path package_name : List ℕ) → Option (List ℕ) → Result File Fault
of_text kind path package_name None = Err (fault_at NO_MODULE path 0)
of_text kind path package_name (Some text) = file_or_fault path package_name (parse_of kind text)

abbrev pub loads_in : Result File Fault → List Target
loads_in (Ok f) = f.loads
loads_in (Err f) = []

module _ (files : Files) where
  -- A module's file. If its package does not exist: 1. If a package is between that and the file: 17.
  abbrev pub module_file : Target → Result File Fault
  module_file t =
      if is_package files t.package_name
      then (if list_any (is_package files) (boundaries t) then Err (fault_at BOUNDARY_CROSSED (label_file t) 0)
      else of_text k.Bzl (label_file t) t.package_name (map_of.get files (label_file t)))
      else Err (fault_at NO_PACKAGE t.package_name 0)

  abbrev pub build_file : (name : List ℕ) → Option BuildName → Result File Fault
  build_file name None = Err (fault_at NO_PACKAGE name 0)
  build_file name (Some build) = of_text k.Build (build_path name build) name (map_of.get files (build_path name build))

  -- the file that is evaluated, or its first fault
  abbrev pub file_of : Node → Result File Fault
  file_of (of_module t) = module_file t
  file_of (of_package name) = build_file name (build_of files name)

  -- the modules of its load statements, in order; none if it has a fault
  abbrev pub loads : Node → List Target
  loads n = loads_in (file_of n)

  -- along loads from one node to the other
  pub data Path : Node → Node → Type 0 where
    stay : {n : Node} → Path n n
    load : {n m : Node} {t : Target} → In t (loads n) → Path (of_module t) m → Path n m

  -- some walk along loads meets a module twice
  pub record ReachesCycle (n : Node) : Type 0 where
    pub twice : Target
    pub next : Target
    pub comes : Path n (of_module twice)
    pub loads_next : In next (loads (of_module twice))
    pub returns : Path (of_module next) (of_module twice)

  -- the first of some loads that reaches a cycle
  pub data FirstCyclic : List Target → Target → Type 0 where
    at_head : {t : Target} {ts : List Target} → ReachesCycle (of_module t) → FirstCyclic (t ∷ ts) t
    further : {t u : Target} {ts : List Target} → ¬ ReachesCycle (of_module u) → FirstCyclic ts t → FirstCyclic (u ∷ ts) t

  -- always along the first load that reaches a cycle, by way of these modules, to the last one
  pub data Follows : Node → List Target → Target → Type 0 where
    once : {n : Node} {m : Target} → FirstCyclic (loads n) m → Follows n [] m
    more : {n : Node} {t m : Target} {ts : List Target} → FirstCyclic (loads n) t → Follows (of_module t) ts m → Follows n (t ∷ ts) m

  -- the cycle that is shown: the cycle to which these loads lead, rotated so that its least label text by bytes is
  -- first
  pub record ShowsCycle (n : Node) (labels : List (List ℕ)) : Type 0 where
    pub first : Target
    pub before : List Target
    pub rest : List Target
    pub comes : Follows n before first
    pub returns : Follows (of_module first) rest first
    pub differ : AllDiffer (first ∷ rest)
    pub shown : labels ≡ rotated (map label_text (first ∷ rest))
