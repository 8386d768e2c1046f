-- The steps that programs take.
use Prim.Native.String.{String}
use Rattle.std.proofs.Common.{◌≡◌, ℕ, List, [], ◌∷◌, refl, codes, map}
use Rattle.evaluator_semantics.specs.Environment.{Answers}
use Rattle.evaluator_semantics.proofs.Programs.{AllTake, RowResult, tags, needs, exported, taken, build, bzl, over_module, limited, at_build, at_bzl}

-- each expression node begun, and a statement
expressions : AllTake
    (("x = 1\n", 2)
    ∷ ("\"doc\"\nx = 1\n", 3)
    ∷ ("x = (1)\n", 2)
    ∷ ("x = [1, 2]\n", 4)
    ∷ ("x, y = 1, 2\n", 4)
    ∷ ("x = -1\n", 3)
    ∷ ("x = 0 and 1\n", 3)
    ∷ ("x = 1 if 2 else 3\n", 4)
    ∷ ("x = 1 + 2 * 3\n", 6)
    ∷ ("x = len([1])\n", 5)
    ∷ ("x = [1].append(2)\n", 5)
    ∷ ("filegroup(name = \"t\")\n", 4)
    ∷ ("x = [1, 2][0:]\n", 6)
    ∷ ("x = [1][None:]\n", 5)
    ∷ ("x = str(\"a\")\n", 4)
    ∷ ("x = min(2, 1)\n", 5)
    ∷ ("x = sorted([2, 1])\n", 6)
    ∷ [])
unfolding taken build
expressions = refl

-- each pair compared, each value printed, each value of a key that is hashed
walks : AllTake
    (("x = 1 == 1\n", 5)
    ∷ ("x = 1 == \"a\"\n", 5)
    ∷ ("x = [1] == [1]\n", 8)
    ∷ ("x = [1] == [1, 2]\n", 8)
    ∷ ("x = [1] < [2]\n", 9)
    ∷ ("x = 1 in [2, 1]\n", 8)
    ∷ ("x = \"a\" in \"ab\"\n", 4)
    ∷ ("x = {1: 2} == {1: 2}\n", 13)
    ∷ ("x = {1: 2}\n", 5)
    ∷ ("x = {(1, 2): 3}\n", 9)
    ∷ ("x = {1: 2}[1]\n", 8)
    ∷ ("x = 1 in {1: 2}\n", 8)
    ∷ ("x = {}.get(1)\n", 5)
    ∷ ("x = dict([(1, 2)], a = 3)\n", 10)
    ∷ ("x = repr([1, \"a\"])\n", 9)
    ∷ ("x = repr(\"a\")\n", 5)
    ∷ ("x = repr({1: 2})\n", 10)
    ∷ [])
unfolding taken build
walks = refl

-- each turn of a clause; the names of targets are no nodes, their operands are
turns : AllTake
    (("x = [n for n in [1, 2]]\n", 9)
    ∷ ("x = [n for n in [1, 2] if n]\n", 11)
    ∷ ("x = {n: n for n in [1]}\n", 8)
    ∷ ("L = [0]\nL[0] = 5\n", 7)
    ∷ ("D = {}\nD[1] = 5\n", 7)
    ∷ ("D = {1: 2}\nD[1] += 5\n", 11)
    ∷ [])
unfolding taken build
turns = refl

rows : List (String × ℕ)
rows =
    ("def f():\n    pass\n", 5)
    ∷ ("def f():\n    return 1\n", 6)
    ∷ ("def f():\n    for i in [1, 2]:\n        pass\n", 12)
    ∷ ("def f():\n    if False:\n        pass\n    elif False:\n        pass\n    else:\n        pass\n", 9)
    ∷ ("def f():\n    x = 1\n    x += 2\n", 8)
    ∷ ("def f():\n    d = {1: 2}\n    d[1] += 3\n", 15)
    ∷ ("def f():\n    return native.package_name()\n", 7)
    ∷ ("X = [1, 2, 3]\ndef f(x = X):\n    pass\n", 5)
    ∷ []

-- what a load and a call of a function take: the load, the statement, the call, its name, and the function's own
calls : map (λ r. taken (over_module [] (codes r.0) (codes "load(\":m.bzl\", \"f\")\nf()\n"))) rows ≡ map (λ r. r.1) rows
unfolding taken over_module rows
calls = refl

-- freezing visits each value of a file's globals, and of its defaults
frozen : map (λ r. taken (bzl [] (codes r))) ("X = [1]\n" ∷ "X = {1: (2, \"a\")}\n" ∷ "def f(x = 1):\n    pass\n" ∷ "X = [1]\nY = X\n" ∷ []) ≡ 5 ∷ 12 ∷ 4 ∷ 9 ∷ []
unfolding taken bzl
frozen = refl

-- the next step is fault 11, at the statement that it begins, or at the `for` whose turn it begins
spent : String → ℕ → RowResult
unfolding limited over_module
spent text steps = limited steps (over_module [] (codes text) (codes "load(\":m.bzl\", \"f\")\nf()\n"))

looped : String
looped = "def f():\n    for i in range(3):\n        for j in range(3):\n            pass\n"

turn_spent : map (spent looped) (3 ∷ 4 ∷ 8 ∷ 9 ∷ 13 ∷ 14 ∷ 15 ∷ 19 ∷ 40 ∷ 41 ∷ []) ≡ at_build 11 2 ∷ at_bzl 11 2 ∷ at_bzl 11 2 ∷ at_bzl 11 3 ∷ at_bzl 11 3 ∷ at_bzl 11 4 ∷ at_bzl 11 3 ∷ at_bzl 11 2 ∷ at_bzl 11 4 ∷ tags [] ∷ []
unfolding spent looped
turn_spent = refl

-- steps are counted across a glob: before its call they may be spent, at it the call waits, and after it they continue
-- from there
globbing : Answers → ℕ → RowResult
unfolding limited over_module
globbing known steps = limited steps (over_module known (codes "def f():\n    for i in range(3):\n        for j in range(10): pass\n    native.glob([\"x\"])\n    for i in range(3):\n        for j in range(10): pass\n") (codes "load(\":m.bzl\", \"f\")\nf()\n"))

unanswered : map (globbing []) (83 ∷ 86 ∷ 87 ∷ 88 ∷ 1000 ∷ []) ≡ at_bzl 11 4 ∷ at_bzl 11 4 ∷ at_bzl 11 4 ∷ needs (codes "x" ∷ []) ∷ needs (codes "x" ∷ []) ∷ []
unfolding globbing
unanswered = refl

counted_on : map (globbing ((codes "x", []) ∷ [])) (87 ∷ 88 ∷ 91 ∷ 92 ∷ 120 ∷ 166 ∷ 167 ∷ []) ≡ at_bzl 11 4 ∷ at_bzl 11 5 ∷ at_bzl 11 5 ∷ at_bzl 11 5 ∷ at_bzl 11 6 ∷ at_bzl 11 6 ∷ tags [] ∷ []
unfolding globbing
counted_on = refl

-- in freezing the line is 0
freezing_spent : map (λ n. limited n (bzl [] (codes "X = [1]\n"))) (0 ∷ 2 ∷ 3 ∷ 4 ∷ 5 ∷ []) ≡ at_bzl 11 1 ∷ at_bzl 11 1 ∷ at_bzl 11 0 ∷ at_bzl 11 0 ∷ exported (codes "X" ∷ []) ∷ []
unfolding limited bzl
freezing_spent = refl
