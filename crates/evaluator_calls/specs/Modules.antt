-- The module that is made of the parts of a file.
use Rattle.std.specs.Prelude.{ℕ, List}
use Rattle.syntax_tree.specs.Tree.{Fi}
use Rattle.values_modules.specs.Values.{Frozen, Defaults, Body, ModuleValue}
use Rattle.evaluator_semantics.specs.Environment.{defs}
use Rattle.evaluator_semantics.specs.Files.{frozen_loads}

-- the module of a file with this label, path and syntax, whose loads have these values, which leaves these globals and
-- defaults
abbrev pub body_of : (label path : List ℕ) → Fi → List ModuleValue → List Frozen → List Defaults → Body
body_of label path file loads own defaults = record {
  label = label;
  path = path;
  own = own;
  loaded = frozen_loads file.loads loads;
  functions = defs file.tops;
  defaults = defaults;
}
