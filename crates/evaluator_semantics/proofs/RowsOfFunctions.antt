-- Expressions with their values: functions that every file has, methods, and calls.
use Rattle.std.proofs.Common.{[], ◌∷◌, refl}
use Rattle.evaluator_semantics.proofs.Programs.{AllGive, is, code, expression}

lengths : AllGive
    (("len(\"abc\")", is "3")
    ∷ ("len([])", is "0")
    ∷ ("len((1, 2))", is "2")
    ∷ ("len({1: 2})", is "1")
    ∷ ("len(5)", code 5)
    ∷ ("len(None)", code 5)
    ∷ ("len()", code 25)
    ∷ ("len([], [])", code 25)
    ∷ ("len(x = [])", code 25)
    ∷ [])
unfolding expression
lengths = refl

ranges : AllGive
    (("range(3)", is "[0, 1, 2]")
    ∷ ("range(1, 4)", is "[1, 2, 3]")
    ∷ ("range(10, 0, -3)", is "[10, 7, 4, 1]")
    ∷ ("range(0, 10, 3)", is "[0, 3, 6, 9]")
    ∷ ("range(0)", is "[]")
    ∷ ("range(2, 0)", is "[]")
    ∷ ("range(-2)", is "[]")
    ∷ ("range(1, 2, 0)", code 25)
    ∷ ("range(\"a\", 1, 0)", code 25)
    ∷ ("range(1, 2, False)", code 5)
    ∷ ("range(True)", code 5)
    ∷ ("range(\"a\")", code 5)
    ∷ ("range()", code 25)
    ∷ ("range(1, 2, 3, 4)", code 25)
    ∷ ("range(65537)", code 13)
    ∷ [])
unfolding expression
ranges = refl

texts : AllGive
    (("str(\"a\")", is "\"a\"")
    ∷ ("str(-1)", is "\"-1\"")
    ∷ ("str([1, \"a\"])", is "\"[1, \\\"a\\\"]\"")
    ∷ ("repr(\"a\")", is "\"\\\"a\\\"\"")
    ∷ ("\"q\\\"\\\\\\n\\t\\r\"", is "\"q\\\"\\\\\\n\\t\\r\"")
    ∷ ("[None, True, False, 0, (), (1,), (1, 2), [], {}]", is "[None, True, False, 0, (), (1,), (1, 2), [], {}]")
    ∷ ("{1: [2], \"k\": (None,)}", is "{1: [2], \"k\": (None,)}")
    ∷ ("len", is "<built-in len>")
    ∷ ("glob", is "<built-in glob>")
    ∷ ("test_suite", is "<built-in test_suite>")
    ∷ ("str()", code 25)
    ∷ [])
unfolding expression
texts = refl

types : AllGive
    (("[type(x) for x in [None, True, 1, \"a\", [], (), {}, len, glob]]", is "[\"NoneType\", \"bool\", \"int\", \"string\", \"list\", \"tuple\", \"dict\", \"function\", \"function\"]")
    ∷ ("type()", code 25)
    ∷ [])
unfolding expression
types = refl

sorting : AllGive
    (("sorted([3, 1, 2])", is "[1, 2, 3]")
    ∷ ("sorted([\"b\", \"a\", \"B\"], reverse = True)", is "[\"b\", \"a\", \"B\"]")
    ∷ ("sorted({2: 0, 1: 0})", is "[1, 2]")
    ∷ ("sorted([])", is "[]")
    ∷ ("sorted([1, \"a\"])", code 5)
    ∷ ("sorted([True])", code 5)
    ∷ ("sorted([], reverse = 1)", code 5)
    ∷ ("sorted([1], True)", code 25)
    ∷ ("sorted([], revers = True)", code 25)
    ∷ ("sorted(5)", code 5)
    ∷ ("sorted(\"ba\")", code 5)
    ∷ [])
unfolding expression
sorting = refl

sequences : AllGive
    (("reversed([1, 2])", is "[2, 1]")
    ∷ ("reversed(\"ab\")", code 5)
    ∷ ("enumerate([\"a\", \"b\"])", is "[(0, \"a\"), (1, \"b\")]")
    ∷ ("zip([1, 2], (3, 4, 5))", is "[(1, 3), (2, 4)]")
    ∷ ("zip()", is "[]")
    ∷ ("zip([1])", is "[(1,)]")
    ∷ ("zip([1], 1)", code 5)
    ∷ ("list()", is "[]")
    ∷ ("list((1, 2))", is "[1, 2]")
    ∷ ("tuple({1: 2})", is "(1,)")
    ∷ ("tuple()", is "()")
    ∷ ("list(1)", code 5)
    ∷ ("list([], [])", code 25)
    ∷ [])
unfolding expression
sequences = refl

made_dictionaries : AllGive
    (("dict()", is "{}")
    ∷ ("dict([(1, 2), [3, 4]], x = 5)", is "{1: 2, 3: 4, \"x\": 5}")
    ∷ ("dict({1: 2}, a = 1)", is "{1: 2, \"a\": 1}")
    ∷ ("dict(x = 1)", is "{\"x\": 1}")
    ∷ ("dict([(1, 2), (3, 4), (1, 5)])", is "{1: 5, 3: 4}")
    ∷ ("dict({\"a\": 1}, a = 2)", is "{\"a\": 2}")
    ∷ ("dict([1])", code 5)
    ∷ ("dict([(1,)])", code 5)
    ∷ ("dict([\"ab\"])", code 5)
    ∷ ("dict(5)", code 5)
    ∷ ("dict([([], 1)])", code 5)
    ∷ ("dict({}, {})", code 25)
    ∷ ("dict(a = 1, a = 2)", code 25)
    ∷ [])
unfolding expression
made_dictionaries = refl

tests : AllGive
    (("bool()", is "False")
    ∷ ("bool([0])", is "True")
    ∷ ("bool(\"\")", is "False")
    ∷ ("any([])", is "False")
    ∷ ("any([0, 2])", is "True")
    ∷ ("all([])", is "True")
    ∷ ("all([1, 0])", is "False")
    ∷ ("any(1)", code 5)
    ∷ ("bool(1, 2)", code 25)
    ∷ [])
unfolding expression
tests = refl

extremes : AllGive
    (("min([3, 1, 2])", is "1")
    ∷ ("max(3, 7)", is "7")
    ∷ ("max(\"a\", \"b\")", is "\"b\"")
    ∷ ("max({1: 0, 5: 0})", is "5")
    ∷ ("min([])", code 25)
    ∷ ("min()", code 25)
    ∷ ("min(\"ab\")", code 5)
    ∷ ("min(1, \"a\")", code 5)
    ∷ ("min(1)", code 5)
    ∷ ("max([True])", code 5)
    ∷ [])
unfolding expression
extremes = refl

failing : AllGive
    (("fail(\"x\")", code 24)
    ∷ ("fail()", code 25)
    ∷ ("fail(1, 2)", code 25)
    ∷ ("fail(1 // 0)", code 10)
    ∷ [])
unfolding expression
failing = refl

strings : AllGive
    (("\"abc\".startswith(\"ab\")", is "True")
    ∷ ("\"abc\".endswith(\"bc\")", is "True")
    ∷ ("\"abc\".endswith(\"abcd\")", is "False")
    ∷ ("\"abc\".startswith(1)", code 5)
    ∷ ("\", \".join([\"a\", \"b\"])", is "\"a, b\"")
    ∷ ("\"\".join([])", is "\"\"")
    ∷ ("\"\".join([1])", code 5)
    ∷ ("\"\".join(\"ab\")", code 5)
    ∷ ("\"a,,b\".split(\",\")", is "[\"a\", \"\", \"b\"]")
    ∷ ("\"\".split(\",\")", is "[\"\"]")
    ∷ ("\"aXXbXX\".split(\"XX\")", is "[\"a\", \"b\", \"\"]")
    ∷ ("\"x\".split(\"\")", code 25)
    ∷ ("\"x\".split(1)", code 5)
    ∷ ("\"x\".split()", code 25)
    ∷ ("\"aaa\".replace(\"aa\", \"x\")", is "\"xa\"")
    ∷ ("\"abab\".replace(\"ab\", \"\")", is "\"\"")
    ∷ ("\"x\".replace(\"\", 5)", code 25)
    ∷ ("\"x\".replace(\"a\", 5)", code 5)
    ∷ ("\"x\".replace(5, \"\")", code 5)
    ∷ ("\" \\n a b\\t\".strip()", is "\"a b\"")
    ∷ ("\"a\".strip(1)", code 25)
    ∷ ("\"a\".upper()", code 5)
    ∷ [])
unfolding expression
strings = refl

-- an unknown method is refused once the arguments are evaluated
methods : AllGive
    (("{1: 2}.get(1)", is "2")
    ∷ ("{1: 2}.get(3)", is "None")
    ∷ ("{1: 2}.get(3, 4)", is "4")
    ∷ ("{}.get([])", code 5)
    ∷ ("{}.get()", code 25)
    ∷ ("{1: 2, 3: 4}.keys()", is "[1, 3]")
    ∷ ("{1: 2}.values()", is "[2]")
    ∷ ("{1: 2}.items()", is "[(1, 2)]")
    ∷ ("{}.keys(1)", code 25)
    ∷ ("[].append(1)", is "None")
    ∷ ("[].append()", code 25)
    ∷ ("[].append(x = 1)", code 25)
    ∷ ("[].extend(5)", code 5)
    ∷ ("[].foo()", code 5)
    ∷ ("[].foo(x = 1)", code 5)
    ∷ ("[].foo(1 // 0)", code 10)
    ∷ ("(1,).append(2)", code 5)
    ∷ ("None.x()", code 5)
    ∷ ("0.strip()", code 5)
    ∷ [])
unfolding expression
methods = refl

calls : AllGive
    (("1(2)", code 5)
    ∷ ("1(1 // 0)", code 10)
    ∷ ("None()", code 5)
    ∷ ("(1 // 0)(5)", code 10)
    ∷ ("len(len)", code 5)
    ∷ ("len(x = 1 // 0)", code 10)
    ∷ ("[f(1) for f in [str, repr, bool, type]]", is "[\"1\", \"1\", True, \"int\"]")
    ∷ [])
unfolding expression
calls = refl
