-- Which expressions can wait for nothing: none in them calls a function of a file or a package call, and none has a
-- block of its own. Dictionaries are left out. A name of a call is taken for a function that every file has only where no block and no file has it.
use Rattle.std.specs.Prelude.{ℕ, List, Bool, true, false, ◌&&◌, not, Option, None, is_some, codes}
use Rattle.values_semantics.specs.declared.builtin.Builtin.{Builtin}
use Rattle.values_semantics.specs.Comparing.{same_text}
use Rattle.syntax_tree.specs.Tree as t
use Rattle.syntax_tree.specs.Tree.{Ex, Exs, Bound}
use Rattle.values_semantics.specs.Builtins.{plain_functions}
use Rattle.evaluator_semantics.specs.Names.{first_named}

-- the function that a name is in every file
abbrev pub plain_of : Ex → Option Builtin
plain_of (t.name x) = first_named x plain_functions
plain_of e = None

-- a name of such a function, which nothing hides
abbrev pub is_plain : (free : List ℕ → Bool) → Ex → Bool
is_plain free (t.name x) = free x && is_some (first_named x plain_functions)
is_plain free e = false

-- `native`, which may stand for the package calls
abbrev pub is_word_native : Ex → Bool
is_word_native (t.name x) = same_text x (codes "native")
is_word_native e = false

module _ (free : List ℕ → Bool) where
  abbrev mutual
    pub quiet : Ex → Bool
    quiet (t.name x) = true
    quiet (t.int n) = true
    quiet (t.str x) = true
    quiet (t.literal l) = true
    quiet (t.tuple es) = quiets es
    quiet (t.list es) = quiets es
    quiet (t.dict ks es) = false
    quiet (t.list_of e cs) = false
    quiet (t.dict_of k e cs) = false
    quiet (t.unary op e) = quiet e
    quiet (t.binary op a b) = quiet a && quiet b
    quiet (t.choice a c b) = quiet a && (quiet c && quiet b)
    quiet (t.index a i) = quiet a && quiet i
    quiet (t.slice a i j) = quiet a && (quiet_bound i && quiet_bound j)
    quiet (t.call f es names) = is_plain free f && quiets es
    quiet (t.method e name es names) = not (is_word_native e) && (quiet e && quiets es)

    pub quiets : Exs → Bool
    quiets t.no_exs = true
    quiets (t.ex e es) = quiet e && quiets es

    pub quiet_bound : Bound → Bool
    quiet_bound t.no_bound = true
    quiet_bound (t.bound e) = quiet e
