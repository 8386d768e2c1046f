-- Files with their outcomes: globals, modules and loads.
use Prim.Native.String.{String}
use Rattle.std.proofs.Common.{◌≡◌, [], ◌∷◌, refl, codes, map}
use Rattle.evaluator_semantics.proofs.Programs.{AllBuild, AllDefine, RowResult, tags, exported, texts, fails, at_build, at_bzl, of_text, built, defined, over_base, over_module, outcome, shown, unless_refused, base}

-- a global is bound once
globals : AllBuild
    (("x = 1\nx = 2\n", at_build 26 2)
    ∷ ("x = y\n", at_build 4 1)
    ∷ ("x = 9223372036854775807 + 1\n", at_build 9 1)
    ∷ ("x = x\n", at_build 4 1)
    ∷ ("y = x\nx = 1\n", at_build 4 1)
    ∷ ("x, x = 1, 2\n", at_build 26 1)
    ∷ ("a, (b, c) = 1, 2\n", at_build 5 1)
    ∷ ("a = 1\na, (b, c) = 1, 2\n", at_build 26 2)
    ∷ ("x = [1]\nx[0] = 2\nx[0] += 3\nfilegroup(name = \"t\", tags = [str(x[0])])\n", tags (texts ("5" ∷ [])))
    ∷ ("x = [1]\nx += [2]\n", of_text 3 0)
    ∷ ("x = [y for y in [1]]\ny = 2\nfilegroup(name = \"t\", tags = [str(x), str(y)])\n", tags (texts ("[1]" ∷ "2" ∷ [])))
    ∷ ("len = 3\nfilegroup(name = \"t\", tags = [str(len)])\n", tags (texts ("3" ∷ [])))
    ∷ ("x = len\nlen = 3\n", at_build 4 1)
    ∷ ("\"doc\"\nx = y\n", at_build 4 2)
    ∷ ("\"\"\"a\nb\"\"\"\nx = y\n", at_build 4 3)
    ∷ ("x = (1,\n1 // 0)\n", at_build 10 1)
    ∷ ("native.glob([])\n", at_build 4 1)
    ∷ ("x = native\n", at_build 4 1)
    ∷ [])
unfolding built
globals = refl

-- a text that has no tree
refused : AllBuild
    (("def f():\n    pass\n", of_text 3 0)
    ∷ ("x = 1\n# é\n", of_text 2 2)
    ∷ ("filegroup(name = \"l\"", of_text 3 0)
    ∷ ("return 1\n", of_text 3 0)
    ∷ ("f(a = 1, 2)\n", of_text 3 0)
    ∷ [])
unfolding built
refused = refl

-- what a .bzl file exports; while its own statements run no package call is allowed, and its lists nest at most 64 deep
modules : AllDefine
    (("A = 1\n_B = 2\ndef c():\n    pass\n", exported (texts ("A" ∷ "c" ∷ [])))
    ∷ ("", exported [])
    ∷ ("def f():\n    pass\ndef f():\n    pass\n", at_bzl 26 3)
    ∷ ("f = 1\ndef f():\n    pass\n", at_bzl 26 2)
    ∷ ("def f(x = 1 // 0):\n    pass\n", at_bzl 10 1)
    ∷ ("l = []\nl.append(l)\n", at_bzl 12 0)
    ∷ ("d = {}\nd[1] = d\n", at_bzl 12 0)
    ∷ ("def f(x = [1]):\n    pass\nl = [f]\nl.append(l)\n", at_bzl 12 0)
    ∷ ("def f(x = {}):\n    x[1] = x\nf()\n", at_bzl 12 0)
    ∷ ("native.glob([])\n", at_bzl 23 1)
    ∷ ("native.glob(5)\n", at_bzl 23 1)
    ∷ ("native.glob(1 // 0)\n", at_bzl 10 1)
    ∷ ("native.filegroup(1)\n", at_bzl 23 1)
    ∷ ("native.package_name()\n", at_bzl 23 1)
    ∷ ("def f():\n    native.alias()\nf()\n", at_bzl 23 2)
    ∷ ("def f():\n    return Y\nX = f()\nY = 1\n", at_bzl 4 2)
    ∷ ("glob([])\n", at_bzl 4 1)
    ∷ ("filegroup(name = \"a\")\n", at_bzl 4 1)
    ∷ ("native\n", at_bzl 5 1)
    ∷ ("native = 1\nX = native\n", exported (texts ("native" ∷ "X" ∷ [])))
    ∷ ("def f():\n    return [1]\nL = f()\nL.append(2)\n", exported (texts ("f" ∷ "L" ∷ [])))
    ∷ ("def f(x = []):\n    x.append(1)\n    return len(x)\nA = f()\nB = f()\nC = [1, 2][B - 1]\n", exported (texts ("f" ∷ "A" ∷ "B" ∷ "C" ∷ [])))
    ∷ [])
unfolding defined
modules = refl

-- .bzl files with a load of b.bzl
over : String → String → RowResult
unfolding over_base outcome shown unless_refused base
over below text = unless_refused (outcome (base (codes below))) (shown (outcome (over_base (codes below) (codes text))))

loads : map (over "_P = 1\nQ = 2\n") (
    "load(\":b.bzl\", \"_P\")\n"
    ∷ "load(\":b.bzl\", Z = \"Q\")\nY = Z\n"
    ∷ "load(\":b.bzl\", \"N\")\n"
    ∷ "load(\":b.bzl\", \"Q\")\nQ = 1\n"
    ∷ "load(\":b.bzl\", \"Q\", \"Q\")\n"
    ∷ "load(\":b.bzl\", \"Q\", Q = \"_P\")\n"
    ∷ "load(\":b.bzl\", _Q = \"Q\")\nR = _Q\n"
    ∷ [])
    ≡ at_bzl 18 1
    ∷ exported (texts ("Y" ∷ []))
    ∷ at_bzl 18 1
    ∷ at_bzl 26 2
    ∷ at_bzl 26 1
    ∷ at_bzl 18 1
    ∷ exported (texts ("R" ∷ []))
    ∷ []
unfolding over
loads = refl

-- what is loaded is frozen, and loaded names are not exported further
loaded_values : over "L = [1]\n" "load(\":b.bzl\", \"L\")\nL.append(2)\n" ∷ over "load(\":b.bzl\", \"X\")\n" "" ∷ [] ≡ at_bzl 6 2 ∷ fails 18 (codes "k/b.bzl") 1 ∷ []
unfolding over
loaded_values = refl

-- BUILD files with a load of m.bzl
package_over : String → String → RowResult
unfolding over_module outcome shown
package_over below text = shown (outcome (over_module [] (codes below) (codes text)))

-- a fault inside a function has the function's file and line; the order of a dictionary is kept
functions : package_over "L = []\ndef add():\n    L.append(1)\n" "load(\":m.bzl\", \"add\")\nadd()\n"
    ∷ package_over "D = {\"a\": 1, \"b\": 2}\n" "load(\":m.bzl\", \"D\")\nfilegroup(name = \"t\", tags = D.keys())\n"
    ∷ package_over "D = {\"b\": 1, \"a\": 2}\n" "load(\":m.bzl\", \"D\")\nfilegroup(name = \"t\", tags = D.keys())\n"
    ∷ package_over "V = [\"t\"]\n" "load(\":m.bzl\", \"V\")\nfilegroup(name = \"p\", tags = V)\n"
    ∷ package_over "def f(x):\n    x.append(\"b\")\n" "load(\":m.bzl\", \"f\")\nl = [\"a\"]\nf(l)\nfilegroup(name = \"p\", tags = l)\n"
    ∷ package_over "def f(g):\n    g(name = \"x\")\n" "load(\":m.bzl\", \"f\")\nf(filegroup)\nf(filegroup)\n"
    ∷ []
    ≡ at_bzl 6 3
    ∷ tags (texts ("a" ∷ "b" ∷ []))
    ∷ tags (texts ("b" ∷ "a" ∷ []))
    ∷ tags (texts ("t" ∷ []))
    ∷ tags (texts ("a" ∷ "b" ∷ []))
    ∷ at_bzl 20 2
    ∷ []
unfolding package_over
functions = refl
