-- Functions with what a call of them gives in a package, or its fault: statements.
use Rattle.std.proofs.Common.{[], ◌∷◌, refl}
use Rattle.evaluator_semantics.proofs.Programs.{AllCall, returns, at_bzl, called}

loops : AllCall
    (("def f():\n    r = []\n    for i in range(5):\n        if i == 1:\n            continue\n        elif i == 3:\n            break\n        else:\n            r.append(i)\n    return r\n", returns "[0, 2]")
    ∷ ("def f():\n    for x in [1, 2]:\n        for y in [3, 4]:\n            if y == 4:\n                return (x, y)\n", returns "(1, 4)")
    ∷ ("def f():\n    r = []\n    for x, y in {(1, 2): 0, (3, 4): 0}:\n        r.append(x * y)\n    return r\n", returns "[2, 12]")
    ∷ ("def f():\n    for x in 5:\n        pass\n", at_bzl 5 2)
    ∷ ("def f():\n    for a, b in [(1, 2), (3,)]:\n        pass\n", at_bzl 5 2)
    ∷ ("def f():\n    L = [0]\n    for L[0] in [7, 8]:\n        pass\n    return L\n", returns "[8]")
    ∷ [])
unfolding called
loops = refl

-- A list or dictionary is not changed while it is iterated; afterwards it may be.
iterated : AllCall
    (("def f():\n    L = [1]\n    for x in L:\n        L.append(x)\n", at_bzl 7 4)
    ∷ ("def f():\n    d = {1: 2}\n    for k in d:\n        d[k] = 3\n", at_bzl 7 4)
    ∷ ("def f():\n    L = [1]\n    return [L.append(x) for x in L]\n", at_bzl 7 3)
    ∷ ("def g(L):\n    for x in L:\n        return x\n\ndef f():\n    L = [1]\n    g(L)\n    L.append(2)\n    return L\n", returns "[1, 2]")
    ∷ ("def f():\n    L = [1, 2]\n    for x in L:\n        for y in L:\n            break\n        L[0] = 5\n", at_bzl 7 6)
    ∷ ("def f():\n    L = [1]\n    for x in L[:]:\n        L.append(2)\n    return L\n", returns "[1, 2]")
    ∷ ("L = [1]\ndef f():\n    for x in L:\n        L.append(x)\n", at_bzl 6 4)
    ∷ [])
unfolding called
iterated = refl

-- the right side, then the operands of the targets, then what is stored, from left to right
assignments : AllCall
    (("def f():\n    L = [0]\n    L[1 // 0] = [][0]\n", at_bzl 8 3)
    ∷ ("def f():\n    L = [0, 0]\n    i = 0\n    i, L[i] = 1, 2\n    return (i, L)\n", returns "(1, [2, 0])")
    ∷ ("def f():\n    L = [0]\n    L[1 // 0], b = 5\n", at_bzl 10 3)
    ∷ ("def f():\n    a, (b, [c]) = 1, (2, (3,))\n    return [a, b, c]\n", returns "[1, 2, 3]")
    ∷ ("def f():\n    a, b = {1: 2, 3: 4}\n", at_bzl 5 2)
    ∷ ("def f():\n    a, b = [1, 2, 3]\n", at_bzl 5 2)
    ∷ ("def f():\n    L = [0]\n    L[0], (b, c) = 9, 5\n    return L\n", at_bzl 5 3)
    ∷ ("def f():\n    d = {1: 2}\n    d[1], d[\"x\"] = 3, d\n    return d[\"x\"][1]\n", returns "3")
    ∷ ("def f():\n    L = [1]\n    L[5] = 0\n", at_bzl 8 3)
    ∷ ("def f():\n    L = [1]\n    L[True] = 0\n", at_bzl 5 3)
    ∷ ("def f():\n    \"a\"[0] = 1\n", at_bzl 5 2)
    ∷ ("def f():\n    (1,)[0] = 1\n", at_bzl 5 2)
    ∷ ("def f():\n    {}[[]] = 1\n", at_bzl 5 2)
    ∷ [])
unfolding called
assignments = refl

-- the operands of the target once, its present value, the right side, then what is stored
augmented : AllCall
    (("def g(n):\n    n.append(0)\n    return 0\n\ndef f():\n    n = []\n    L = [10]\n    L[g(n)] += 5\n    return (L, n)\n", returns "([15], [0])")
    ∷ ("def f():\n    x = 7\n    x -= 2\n    x *= 3\n    x //= 2\n    x %= 4\n    return x\n", returns "3")
    ∷ ("def f():\n    a = [1]\n    b = a\n    b += [2]\n    return a\n", returns "[1, 2]")
    ∷ ("def f():\n    a = [1]\n    b = a\n    b = b + [2]\n    return a\n", returns "[1]")
    ∷ ("def f():\n    L = [1, 2]\n    L += L\n    return L\n", returns "[1, 2, 1, 2]")
    ∷ ("def f():\n    L = [1]\n    t = (L,)\n    t[0] += [2]\n", at_bzl 5 4)
    ∷ ("def f():\n    L = [1]\n    L += (2,)\n", at_bzl 5 3)
    ∷ ("def f():\n    d = {}\n    d[1] += [1 // 0]\n", at_bzl 8 3)
    ∷ ("def f():\n    x += 1 // 0\n", at_bzl 4 2)
    ∷ ("G = 1\ndef f():\n    G += 1\n", at_bzl 4 3)
    ∷ ("L = [1]\ndef f():\n    x = L\n    x += [2]\n", at_bzl 6 4)
    ∷ ("def f():\n    L = [1]\n    for x in L:\n        L += [2]\n", at_bzl 7 4)
    ∷ [])
unfolding called
augmented = refl

-- a name bound anywhere in a function is local in all of it
names : AllCall
    (("def f():\n    if False:\n        x = 1\n    return x\n", at_bzl 4 4)
    ∷ ("def f():\n    return Y\n\nY = 7\n", returns "7")
    ∷ ("x = 1\ndef f():\n    y = x\n    for x in [2]:\n        pass\n    return y\n", at_bzl 4 3)
    ∷ ("def f():\n    x = 1\n    y = [x for x in [2, 3]]\n    return (x, y)\n", returns "(1, [2, 3])")
    ∷ ("def f():\n    for x in []:\n        pass\n    return x\n", at_bzl 4 4)
    ∷ ("def f():\n    return undefined\n", at_bzl 4 2)
    ∷ ("len = 5\ndef f():\n    return len\n", returns "5")
    ∷ ("def f(len = 3):\n    return len\n", returns "3")
    ∷ ("def f():\n    return len([1])\n    len = 2\n", at_bzl 4 2)
    ∷ [])
unfolding called
names = refl

conditions : AllCall
    (("def f():\n    if 0:\n        return 1\n    elif []:\n        return 2\n    else:\n        return 3\n", returns "3")
    ∷ ("def f():\n    if 1: return 1\n    elif 1 // 0: return 2\n", returns "1")
    ∷ ("def f():\n    if False:\n        pass\n    elif 1 // 0:\n        pass\n", at_bzl 10 4)
    ∷ ("def f():\n    if 1 // 0:\n        pass\n", at_bzl 10 2)
    ∷ ("def f():\n    if True:\n        pass\n        1 // 0\n", at_bzl 10 4)
    ∷ ("def f():\n    x = (1,\n        2 // 0)\n", at_bzl 10 2)
    ∷ ("def f():\n    pass\n", returns "None")
    ∷ ("def f():\n    return\n", returns "None")
    ∷ ("def f():\n    return 1, 2\n", returns "(1, 2)")
    ∷ [])
unfolding called
conditions = refl
