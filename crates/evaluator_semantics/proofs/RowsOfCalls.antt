-- Functions with what a call of them gives in a package, or its fault: arguments, open calls, frozen values, `native`.
use Rattle.std.proofs.Common.{[], ◌∷◌, refl}
use Rattle.evaluator_semantics.proofs.Programs.{AllCall, returns, at_bzl, called}

arguments : AllCall
    (("def g(a, b = 2, c = 3):\n    return (a, b, c)\n\ndef f():\n    return [g(1), g(1, c = 5), g(b = 0, a = 9), g(1, 2, 4)]\n", returns "[(1, 2, 3), (1, 2, 5), (9, 0, 3), (1, 2, 4)]")
    ∷ ("def g(a):\n    pass\n\ndef f():\n    g()\n", at_bzl 25 5)
    ∷ ("def g(a):\n    pass\n\ndef f():\n    g(1, a = 1)\n", at_bzl 25 5)
    ∷ ("def g(a):\n    pass\n\ndef f():\n    g(1, 2)\n", at_bzl 25 5)
    ∷ ("def g(a):\n    pass\n\ndef f():\n    g(1, d = 1)\n", at_bzl 25 5)
    ∷ ("def g(a):\n    pass\n\ndef f():\n    g(a = 1, a = 1)\n", at_bzl 25 5)
    ∷ ("def g(a):\n    pass\n\ndef f():\n    g(1 // 0)\n", at_bzl 10 5)
    ∷ ("def g(a):\n    return a\n\ndef f():\n    return g(a = 1 // 0, b = 1)\n", at_bzl 10 5)
    ∷ ("def f():\n    return 1(2)\n", at_bzl 5 2)
    ∷ [])
unfolding called
arguments = refl

-- evaluated once, at the `def`, and frozen with the file
defaults : AllCall
    (("def f(x = [1]):\n    x.append(2)\n", at_bzl 6 2)
    ∷ ("X = 1\ndef f(x = X):\n    return x\n", returns "1")
    ∷ ("def f(x = 1 // 0):\n    pass\n", at_bzl 10 1)
    ∷ ("def f(x = Y):\n    pass\n\nY = 1\n", at_bzl 4 1)
    ∷ ("def f(x = [[1]]):\n    return x[0]\n", returns "[1]")
    ∷ [])
unfolding called
defaults = refl

-- arguments, then a function that is open already
open_calls : AllCall
    (("def f():\n    return f()\n", at_bzl 14 2)
    ∷ ("def f():\n    return g()\n\ndef g():\n    return f()\n", at_bzl 14 5)
    ∷ ("def f(x = 0):\n    return f(1, 2)\n", at_bzl 25 2)
    ∷ ("def g(x):\n    return x + 1\n\ndef f():\n    return g(g(g(0)))\n", returns "3")
    ∷ ("def g(h):\n    return h()\n\ndef k():\n    return 5\n\ndef f():\n    return g(k)\n", returns "5")
    ∷ [])
unfolding called
open_calls = refl

-- a function is equal by its label and name, and shown by its name
functions : AllCall
    (("def g():\n    pass\n\ndef f():\n    return (g, g == f, g == g, type(g), len)\n", returns "(<function g>, False, True, \"function\", <built-in len>)")
    ∷ ("def g():\n    pass\n\nh = g\n\ndef f():\n    return [h, h == g]\n", returns "[<function g>, True]")
    ∷ ("def f():\n    return {f: 1}\n", at_bzl 5 2)
    ∷ ("def f():\n    return f < f\n", at_bzl 5 2)
    ∷ [])
unfolding called
functions = refl

-- what a file leaves can be changed no more
frozen : AllCall
    (("L = []\ndef f():\n    L.append(1)\n", at_bzl 6 3)
    ∷ ("D = {}\ndef f():\n    D[1] = 1\n", at_bzl 6 3)
    ∷ ("T = ([],)\ndef f():\n    T[0].extend([1])\n", at_bzl 6 3)
    ∷ ("L = [1]\ndef f():\n    return L + [2]\n", returns "[1, 2]")
    ∷ ("L = []\nL.append(1)\ndef f():\n    return L\n", returns "[1]")
    ∷ [])
unfolding called
frozen = refl

-- `native` is before a dot, where it gives the package calls
natives : AllCall
    (("def f():\n    return native.package_name()\n", returns "\"k\"")
    ∷ ("def f():\n    native\n", at_bzl 5 2)
    ∷ ("def f():\n    native()\n", at_bzl 5 2)
    ∷ ("def f():\n    native.foo()\n", at_bzl 5 2)
    ∷ ("def f():\n    native.foo(1 // 0)\n", at_bzl 10 2)
    ∷ ("def f():\n    native.package_name(1)\n", at_bzl 25 2)
    ∷ ("def f():\n    return (native).package_name()\n", returns "\"k\"")
    ∷ ("def f(native = [1]):\n    return native.append(2)\n", at_bzl 6 2)
    ∷ ("def f():\n    return [native.get(1) for native in [{1: 2}]]\n", returns "[2]")
    ∷ ("def f():\n    return glob([])\n", at_bzl 4 2)
    ∷ ("def f():\n    return native.glob([])\n", returns "[]")
    ∷ ("def f():\n    return native.filegroup(name = \"u\")\n", returns "None")
    ∷ [])
unfolding called
natives = refl
