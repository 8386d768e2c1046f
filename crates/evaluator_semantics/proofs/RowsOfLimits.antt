-- Programs at a limit and one past it.
use Rattle.std.proofs.Common.{◌≡◌, ℕ, zero, suc, pos, List, [], ◌∷◌, ◌++◌, refl, codes, map}
use Rattle.syntax_tree.specs.Tree as t
use Rattle.syntax_tree.specs.Tree.{Suite, Fn}
use Rattle.values_semantics.specs.Freezing as z
use Rattle.values_semantics.specs.Operators.{times}
use Rattle.std.specs.Fmt.{digits}
use Rattle.values_semantics.specs.Printing.{int_text}
use Rattle.values_modules.specs.Values.{ModuleValue}
use Rattle.evaluator_semantics.proofs.Programs.{AllGive, is, code, expression, RowResult, tags, at_build, at_bzl, of_text, build, outcome, shown}

packaged : List ℕ → RowResult
unfolding build outcome shown
packaged text = shown (outcome (build [] [] text))

-- brackets inside one another
bracketed : ℕ → List ℕ
bracketed n = codes "x = " ++ times n (codes "(") ++ codes "1" ++ times n (codes ")") ++ codes "\n"

-- ones joined by `+`
joined : ℕ → List ℕ
joined n = codes "x = 1" ++ times n (codes " + 1") ++ codes "\n"

nesting : packaged (bracketed 64) ∷ packaged (bracketed 65) ∷ packaged (joined 64) ∷ packaged (joined 65) ∷ [] ≡ tags [] ∷ of_text 12 0 ∷ tags [] ∷ of_text 12 0 ∷ []
unfolding packaged bracketed joined
nesting = refl

-- a module of the functions f0 to fk, each calling the one before it on the line after that one's
name : ℕ → List ℕ
unfolding int_text digits
name k = codes "f" ++ int_text (pos k)

body : ℕ → Suite
unfolding name
body zero = t.next (t.pass 1) t.no_more
body (suc k) = t.next (t.eval (suc (suc k)) (t.call (t.name (name k)) t.no_exs [])) t.no_more

function : ℕ → Fn
unfolding body name
function k = record { line = suc k; name = name k; params = []; body = body k }

below : ℕ → List ℕ
below zero = []
below (suc k) = k ∷ below k

chain : ℕ → ModuleValue
unfolding function below name
chain k = record {
  body = record {
    label = codes "//k:m.bzl";
    path = codes "k/m.bzl";
    own = map (λ i. record { name = name i; value = z.function (codes "//k:m.bzl") (name i) }) (below (suc k));
    loaded = [];
    functions = map function (below (suc k));
    defaults = [];
  };
  reached = [];
}

calling : ℕ → RowResult
unfolding chain name build outcome shown
calling k = shown (outcome (build (chain k ∷ []) [] (codes "load(\":m.bzl\", f = \"" ++ name k ++ codes "\")\nf()\n")))

-- 64 calls are open at most
open_calls : calling 63 ≡ tags []
unfolding calling
open_calls = refl

one_too_many : calling 64 ≡ at_bzl 12 2
unfolding calling
one_too_many = refl

-- a list of lists of lists, so deep
deep : ℕ → List ℕ
deep n = codes "x = [[]]\n" ++ times n (codes "x[0] = [x[0]]\n")

-- 64 containers are entered at most by a walk
printed : ℕ → RowResult
unfolding packaged deep
printed n = packaged (deep n ++ codes "y = len(repr(x))\n")

depth : printed 62 ∷ printed 63 ∷ [] ≡ tags [] ∷ at_build 12 65 ∷ []
unfolding printed
depth = refl

-- 65,536 bytes or members at most
sizes : AllGive
    (("len(\"a\" * 65536)", is "65536")
    ∷ ("\"a\" * 65537", code 13)
    ∷ ("len([0] * 65536)", is "65536")
    ∷ ("[0] * 65537", code 13)
    ∷ ("(0,) * 65537", code 13)
    ∷ ("len(range(65536))", is "65536")
    ∷ ("range(-65537, 0)", code 13)
    ∷ ("\"\".join([\"ab\"] * 32769)", code 13)
    ∷ ("len(repr([\"\"] * 16384))", is "65536")
    ∷ ("len(repr([\"\"] * 16385))", code 13)
    ∷ ("(\",\" * 65536).split(\",\")", code 13)
    ∷ [])
unfolding expression
sizes = refl
