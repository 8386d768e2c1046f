-- Expressions with their values: operators, indexes and comprehensions.
use Rattle.std.proofs.Common.{[], ◌∷◌, refl}
use Rattle.evaluator_semantics.proofs.Programs.{AllGive, is, code, expression}

integers : AllGive
    (("1 + 2", is "3")
    ∷ ("7 - 10", is "-3")
    ∷ ("3 * -4", is "-12")
    ∷ ("--5", is "5")
    ∷ ("+5", is "5")
    ∷ ("2 + 3 * 4", is "14")
    ∷ ("10 - 3 - 2", is "5")
    ∷ ("9223372036854775807 + 1", code 9)
    ∷ ("-9223372036854775807 - 1", is "-9223372036854775808")
    ∷ ("-9223372036854775807 - 2", code 9)
    ∷ ("9223372036854775807 * 2", code 9)
    ∷ ("-(-9223372036854775807 - 1)", code 9)
    ∷ ("True + 1", code 5)
    ∷ ("-True", code 5)
    ∷ ("1 + \"a\"", code 5)
    ∷ ("1 - None", code 5)
    ∷ [])
unfolding expression
integers = refl

-- `//` rounds towards negative infinity, and `%` has the sign of the divisor
quotients : AllGive
    (("7 // 2", is "3")
    ∷ ("-7 // 2", is "-4")
    ∷ ("7 // -2", is "-4")
    ∷ ("-7 // -2", is "3")
    ∷ ("7 % 2", is "1")
    ∷ ("-7 % 2", is "1")
    ∷ ("7 % -2", is "-1")
    ∷ ("-7 % -2", is "-1")
    ∷ ("6 % -3", is "0")
    ∷ ("1 // 0", code 10)
    ∷ ("1 % 0", code 10)
    ∷ ("(-9223372036854775807 - 1) // -1", code 9)
    ∷ ("\"a\" // 1", code 5)
    ∷ ("\"%d\" % 1", code 5)
    ∷ ("1 // 0 // \"a\"", code 10)
    ∷ [])
unfolding expression
quotients = refl

joining : AllGive
    (("\"a\" + \"b\"", is "\"ab\"")
    ∷ ("[1] + [2]", is "[1, 2]")
    ∷ ("(1,) + (2, 3)", is "(1, 2, 3)")
    ∷ ("[1] + (2,)", code 5)
    ∷ ("{} + {}", code 5)
    ∷ ("\"a\" - \"b\"", code 5)
    ∷ ("\"ab\" * 3", is "\"ababab\"")
    ∷ ("2 * [0, 1]", is "[0, 1, 0, 1]")
    ∷ ("(1,) * 0", is "()")
    ∷ ("[1] * -1", is "[]")
    ∷ ("\"a\" * True", code 5)
    ∷ ("[1] * [2]", code 5)
    ∷ ("{} * 2", code 5)
    ∷ [])
unfolding expression
joining = refl

-- values of different types are unequal; the order of a dictionary does not count
equality : AllGive
    (("1 == 1", is "True")
    ∷ ("1 == True", is "False")
    ∷ ("0 == False", is "False")
    ∷ ("None == None", is "True")
    ∷ ("None == False", is "False")
    ∷ ("\"a\" == \"a\"", is "True")
    ∷ ("[1, [2]] == [1, [2]]", is "True")
    ∷ ("[1] == (1,)", is "False")
    ∷ ("[1] == [1, 2]", is "False")
    ∷ ("{1: 2, 3: 4} == {3: 4, 1: 2}", is "True")
    ∷ ("{1: 2} == {1: 3}", is "False")
    ∷ ("{1: 2} == {2: 2}", is "False")
    ∷ ("len == len", is "True")
    ∷ ("len != str", is "True")
    ∷ ("1 != 2", is "True")
    ∷ ("[1 // 0] == []", code 10)
    ∷ [])
unfolding expression
equality = refl

order : AllGive
    (("1 < 2", is "True")
    ∷ ("\"a\" < \"B\"", is "False")
    ∷ ("\"a\" < \"ab\"", is "True")
    ∷ ("[1, 2] < [1, 3]", is "True")
    ∷ ("[1] < [1, 0]", is "True")
    ∷ ("(2,) < (1, 9)", is "False")
    ∷ ("[] < []", is "False")
    ∷ ("[] <= []", is "True")
    ∷ ("1 >= 1", is "True")
    ∷ ("2 > 1", is "True")
    ∷ ("1 < \"a\"", code 5)
    ∷ ("None < None", code 5)
    ∷ ("False < True", code 5)
    ∷ ("{} < {}", code 5)
    ∷ ("[1] < (1,)", code 5)
    ∷ ("[{}] < [{}]", is "False")
    ∷ ("[{}] < [{1: 1}]", code 5)
    ∷ [])
unfolding expression
order = refl

membership : AllGive
    (("1 in [1, 2]", is "True")
    ∷ ("3 not in [1, 2]", is "True")
    ∷ ("[1] in ([1],)", is "True")
    ∷ ("2 in (1,)", is "False")
    ∷ ("\"b\" in \"abc\"", is "True")
    ∷ ("\"\" in \"\"", is "True")
    ∷ ("\"bd\" in \"abc\"", is "False")
    ∷ ("1 in {1: 0}", is "True")
    ∷ ("0 in {1: 0}", is "False")
    ∷ ("1 in \"1\"", code 5)
    ∷ ("1 in 1", code 5)
    ∷ ("[] in {}", code 5)
    ∷ ("True in [1]", is "False")
    ∷ [])
unfolding expression
membership = refl

-- `and` and `or` give an operand, and leave out the second where the first decides
truth : AllGive
    (("[not x for x in [None, False, 0, \"\", [], (), {}]]", is "[True, True, True, True, True, True, True]")
    ∷ ("[not x for x in [True, 1, -1, \"a\", [0], (0,), {0: 0}, len]]", is "[False, False, False, False, False, False, False, False]")
    ∷ ("0 or \"x\"", is "\"x\"")
    ∷ ("1 or 1 // 0", is "1")
    ∷ ("0 and 1 // 0", is "0")
    ∷ ("1 and []", is "[]")
    ∷ ("1 and 2 and 3", is "3")
    ∷ ("None or 0 or \"\"", is "\"\"")
    ∷ ("1 if [] else 2", is "2")
    ∷ ("1 if [0] else 1 // 0", is "1")
    ∷ ("1 // 0 if False else 2", is "2")
    ∷ [])
unfolding expression
truth = refl

indexes : AllGive
    (("[1, 2, 3][-1]", is "3")
    ∷ ("[1, 2, 3][0]", is "1")
    ∷ ("(1, 2)[1]", is "2")
    ∷ ("\"abc\"[1]", is "\"b\"")
    ∷ ("{\"a\": 1}[\"a\"]", is "1")
    ∷ ("{(1, \"a\"): 2}[(1, \"a\")]", is "2")
    ∷ ("[1][1]", code 8)
    ∷ ("[1][-2]", code 8)
    ∷ ("\"\"[0]", code 8)
    ∷ ("{}[1]", code 8)
    ∷ ("{1: 2}[True]", code 8)
    ∷ ("{}[[]]", code 5)
    ∷ ("[1][True]", code 5)
    ∷ ("[1][\"a\"]", code 5)
    ∷ ("1[0]", code 5)
    ∷ ("None[0]", code 5)
    ∷ [])
unfolding expression
indexes = refl

-- a bound is an int or None, from the end when negative, and is cut to the range
slices : AllGive
    (("\"abcdef\"[1:3]", is "\"bc\"")
    ∷ ("[1, 2, 3][:-1]", is "[1, 2]")
    ∷ ("[1, 2, 3][2:1]", is "[]")
    ∷ ("[1, 2, 3][-2:9]", is "[2, 3]")
    ∷ ("(1, 2)[None:None]", is "(1, 2)")
    ∷ ("\"abc\"[:]", is "\"abc\"")
    ∷ ("[1, 2][-9:1]", is "[1]")
    ∷ ("[1][\"a\":]", code 5)
    ∷ ("[1][:True]", code 5)
    ∷ ("{}[0:1]", code 5)
    ∷ ("5[:]", code 5)
    ∷ [])
unfolding expression
slices = refl

-- in the order of insertion; a key twice in one expression is refused once its value is evaluated
dictionaries : AllGive
    (("{\"b\": 1, \"a\": 2}", is "{\"b\": 1, \"a\": 2}")
    ∷ ("{True: 1, 1: 2}", is "{True: 1, 1: 2}")
    ∷ ("{1: 0, 1: 0}", code 25)
    ∷ ("{1: 0, 1: 1 // 0}", code 10)
    ∷ ("{[]: 1}", code 5)
    ∷ ("{[]: 1 // 0}", code 10)
    ∷ ("{(1, []): 0}", code 5)
    ∷ ("{None: 0, (): 1}", is "{None: 0, (): 1}")
    ∷ ("{len: 1}", code 5)
    ∷ [])
unfolding expression
dictionaries = refl

-- a comprehension has names of its own; its first sequence is evaluated outside them
comprehensions : AllGive
    (("[n * n for n in [1, 2, 3] if n != 2]", is "[1, 9]")
    ∷ ("[(x, y) for x in [1, 2] for y in [x, 3]]", is "[(1, 1), (1, 3), (2, 2), (2, 3)]")
    ∷ ("[y for x in [[1], [2, 3]] for y in x]", is "[1, 2, 3]")
    ∷ ("[x for x in x]", code 4)
    ∷ ("[y for x in [1] for y in [y]]", code 4)
    ∷ ("[[x for x in [x, 3]] for x in [1]]", is "[[1, 3]]")
    ∷ ("[a + b for a, b in [(1, 2), [3, 4]]]", is "[3, 7]")
    ∷ ("[c for (a, [b, c]) in [(1, (2, 3))]]", is "[3]")
    ∷ ("[a for a, b in [(1, 2, 3)]]", code 5)
    ∷ ("[a for a, b in [\"ab\"]]", code 5)
    ∷ ("[1 for x in 5]", code 5)
    ∷ ("[1 for c in \"ab\"]", code 5)
    ∷ ("[k for k in {\"a\": 1, \"b\": 2}]", is "[\"a\", \"b\"]")
    ∷ ("{k: 0 for k in [1, 2, 1]}", is "{1: 0, 2: 0}")
    ∷ ("{k: v for k, v in [(1, 2), (3, 4), (1, 5)]}", is "{1: 5, 3: 4}")
    ∷ ("{x: 1 for x in [[]]}", code 5)
    ∷ [])
unfolding expression
comprehensions = refl
