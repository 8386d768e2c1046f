-- BUILD files with their outcomes: rules and `glob`.
use Prim.Native.String.{String}
use Rattle.std.proofs.Common.{◌≡◌, List, [], ◌∷◌, ◌++◌, refl, codes, map}
use Rattle.values_modules.specs.Values.{single, several}
use Rattle.evaluator_semantics.specs.Environment.{Answers}
use Rattle.evaluator_semantics.specs.Files.{Outcome, a_package}
use Rattle.evaluator_semantics.proofs.Programs.{AllBuild, RowResult, tags, needs, texts, at_build, built, build, over_module, outcome, shown}

-- in order: the arguments, their types, labels and names, a name that is used already
rules : AllBuild
    (("filegroup()\n", at_build 25 1)
    ∷ ("filegroup(\"a\")\n", at_build 25 1)
    ∷ ("filegroup(name = None)\n", at_build 25 1)
    ∷ ("filegroup(name = \"a\", bogus = 1)\n", at_build 25 1)
    ∷ ("filegroup(name = \"a\", name = None)\n", at_build 25 1)
    ∷ ("filegroup(name = \"a\", cmd = \"x\")\n", at_build 25 1)
    ∷ ("alias(name = \"a\", actual = \"b\", srcs = [])\n", at_build 25 1)
    ∷ ("filegroup(name = 5)\n", at_build 5 1)
    ∷ ("filegroup(name = \"a\", srcs = \"b\")\n", at_build 5 1)
    ∷ ("filegroup(name = \"a\", srcs = (\"b\",))\n", at_build 5 1)
    ∷ ("filegroup(name = \"a\", tags = [1])\n", at_build 5 1)
    ∷ ("alias(name = \"a\", actual = [\"b\"])\n", at_build 5 1)
    ∷ ("genrule(name = \"a b\", cmd = 5)\n", at_build 5 1)
    ∷ ("filegroup(name = \"a b\")\n", at_build 15 1)
    ∷ ("filegroup(name = \"a\", srcs = [\"//\"])\n", at_build 15 1)
    ∷ ("filegroup(name = \"a\", srcs = [\"@x//y\"])\n", at_build 15 1)
    ∷ ("genrule(name = \"a\", outs = [\"../x\"])\n", at_build 15 1)
    ∷ ("filegroup(name = \"l\")\nalias(name = \"l\", actual = \"c\")\n", at_build 20 2)
    ∷ ("filegroup(name = \"l\")\nalias(name = \"l\", actual = \"//\")\n", at_build 15 2)
    ∷ ("filegroup(name = \"a\", bogus = None, tags = [\"x\"])\n", tags (texts ("x" ∷ [])))
    ∷ ("filegroup(name = \"a\", data = None, tags = [\"b\", \"a\", \"b\"])\n", tags (texts ("b" ∷ "a" ∷ "b" ∷ [])))
    ∷ ("l = [\"a\"]\nfilegroup(name = \"t\", tags = l)\nl.append(\"b\")\n", tags (texts ("a" ∷ [])))
    ∷ ("filegroup(name = \"t\", tags = [str(filegroup(name = \"u\"))])\n", tags (texts ("None" ∷ [])))
    ∷ ("filegroup(name = \"t\", tags = [package_name()])\n", tags (texts ("k" ∷ [])))
    ∷ ("package_name(1)\n", at_build 25 1)
    ∷ ("package_name(x = 1)\n", at_build 25 1)
    ∷ ("filegroup(name = \"t\", tags = [str(-7 // 2), str(-7 % 2)])\n", tags (texts ("-4" ∷ "1" ∷ [])))
    ∷ [])
unfolding built
rules = refl

-- the targets of a BUILD file
made : String → Outcome
unfolding build outcome
made text = outcome (build [] [] (codes text))

-- attributes and targets are in byte order; labels are shown with their package
targets : made "filegroup(name = \"l\")\n" ≡ a_package (record { kind = codes "filegroup"; name = codes "l"; attributes = [] } ∷ [])
unfolding made
targets = refl

labels : made "x = [n * n for n in [1, 2, 3] if n != 2]\nfilegroup(name = \"t\", srcs = [\"//z\", \":u\", \"w/v\"], tags = [str(n) for n in x])\n"
    ≡ a_package (record {
      kind = codes "filegroup";
      name = codes "t";
      attributes = (codes "srcs", several (texts ("//z:z" ∷ "//k:u" ∷ "//k:w/v" ∷ []))) ∷ (codes "tags", several (texts ("1" ∷ "9" ∷ []))) ∷ [];
    } ∷ [])
unfolding made
labels = refl

in_byte_order : made "genrule(name = \"b\", tools = [\"t\"], cmd = \"c\", outs = [\"o/p\"], visibility = [\"?\"])\nalias(name = \"a\", actual = \"b\")\ntest_suite(name = \"B\", tests = [])\n"
    ≡ a_package (record { kind = codes "test_suite"; name = codes "B"; attributes = (codes "tests", several []) ∷ [] }
    ∷ record { kind = codes "alias"; name = codes "a"; attributes = (codes "actual", single (codes "//k:b")) ∷ [] }
    ∷ record {
      kind = codes "genrule";
      name = codes "b";
      attributes = (codes "cmd", single (codes "c")) ∷ (codes "outs", several (texts ("o/p" ∷ []))) ∷ (codes "tools", several (texts ("//k:t" ∷ []))) ∷ (codes "visibility", several (texts ("?" ∷ []))) ∷ [];
    } ∷ [])
unfolding made
in_byte_order = refl

-- ---- glob

-- the answers of some patterns in a package, and a BUILD file with the paths that it finds as its tags
answers : Answers
answers = (codes "*.c", texts ("x.c" ∷ "a.c" ∷ [])) ∷ (codes "**", texts ("BUILD" ∷ "x.c" ∷ "a.c" ∷ "d/m.h" ∷ "d/m1" ∷ [])) ∷ (codes "none", []) ∷ (codes "s/* dirs", texts ("s/d" ∷ "s/x" ∷ [])) ∷ []

globbed : String → RowResult
unfolding build outcome shown answers
globbed text = shown (outcome (build [] answers (codes "filegroup(name = \"t\", tags = " ++ codes text ++ codes ")\n")))

abbrev AllGlob : List (String × RowResult) → Type 0
AllGlob rows = map (λ r. globbed r.0) rows ≡ map (λ r. r.1) rows

-- what the includes find and no exclude matches, in byte order; else the patterns that have no answer
globs : AllGlob
    (("glob([\"*.c\"])", tags (texts ("a.c" ∷ "x.c" ∷ [])))
    ∷ ("glob(include = [\"*.c\"])", tags (texts ("a.c" ∷ "x.c" ∷ [])))
    ∷ ("glob([\"**\", \"*.c\"], exclude = [\"**/*.h\", \"BUILD\"])", tags (texts ("a.c" ∷ "d/m1" ∷ "x.c" ∷ [])))
    ∷ ("glob([\"**\"], [\"d/**\"])", tags (texts ("BUILD" ∷ "a.c" ∷ "x.c" ∷ [])))
    ∷ ("glob([\"*.c\", \"*.c\"])", tags (texts ("a.c" ∷ "x.c" ∷ [])))
    ∷ ("glob([\"*.c\"]) + glob([\"none\"])", tags (texts ("a.c" ∷ "x.c" ∷ [])))
    ∷ ("glob([])", tags [])
    ∷ ("glob([\"none\"])", tags [])
    ∷ ("glob([\"none\"], allow_empty = False)", at_build 22 1)
    ∷ ("glob([], allow_empty = False)", at_build 22 1)
    ∷ ("glob([\"*.c\"], [\"*\"], False)", at_build 22 1)
    ∷ ("glob([\"*.c\"], allow_empty = False)", tags (texts ("a.c" ∷ "x.c" ∷ [])))
    ∷ ("glob([\"q\"])", needs (texts ("q" ∷ [])))
    ∷ ("glob([\"r\", \"*.c\", \"q\", \"r\"])", needs (texts ("r" ∷ "q" ∷ [])))
    ∷ ("glob([\"*.c\"]) + glob([\"q\"]) + glob([\"r\"])", needs (texts ("q" ∷ [])))
    ∷ ("[glob([\"q\"]), 1 // 0]", needs (texts ("q" ∷ [])))
    ∷ ("[1 // 0, glob([\"q\"])]", at_build 10 1)
    ∷ ("glob([\"a//b\"])", at_build 21 1)
    ∷ ("glob([\"q\", \"***\"])", at_build 21 1)
    ∷ ("glob([\"q\"], exclude = [\"./x\"])", at_build 21 1)
    ∷ ("glob([\"\"])", at_build 21 1)
    ∷ ("glob(\"*.c\")", at_build 5 1)
    ∷ ("glob((\"*.c\",))", at_build 5 1)
    ∷ ("glob([1])", at_build 5 1)
    ∷ ("glob([\"q\"], exclude = None)", at_build 5 1)
    ∷ ("glob([\"q\"], allow_empty = 1)", at_build 5 1)
    ∷ ("glob([\"//\"], allow_empty = 0)", at_build 5 1)
    ∷ ("glob()", at_build 25 1)
    ∷ ("glob([], [], True, 1)", at_build 25 1)
    ∷ ("glob([], include = [])", at_build 25 1)
    ∷ ("glob([], bogus = 1)", at_build 25 1)
    ∷ ("glob(exclude = [])", at_build 25 1)
    ∷ ("glob(include = [], include = [])", at_build 25 1)
    ∷ ("glob(5, bogus = 1)", at_build 25 1)
    ∷ ("glob([\"*.c\"], exclude_directories = 1)", tags (texts ("a.c" ∷ "x.c" ∷ [])))
    ∷ ("glob([\"q\", \"*.c\"], exclude_directories = 0)", needs (texts ("q dirs" ∷ "*.c dirs" ∷ [])))
    ∷ ("glob([\"s/*\"], [\"s/x\"], exclude_directories = 0)", tags (texts ("s/d" ∷ [])))
    ∷ ("glob([], [], True, 0)", at_build 25 1)
    ∷ ("glob([], exclude_directories = False)", at_build 5 1)
    ∷ ("glob([\"//\"], exclude_directories = 2)", at_build 25 1)
    ∷ ("glob([\"//\"], allow_empty = 1, exclude_directories = 2)", at_build 5 1)
    ∷ ("glob([\"//\"], exclude_directories = 0)", at_build 21 1)
    ∷ [])
unfolding globbed
globs = refl

-- the same call through a function of a module, twice in one expression: each asks as it is reached
both_files : Answers → RowResult
unfolding over_module outcome shown
both_files known = shown (outcome (over_module known (codes "def src(p):\n    return native.glob([p]) + [native.package_name()]\n") (codes "load(\":m.bzl\", \"src\")\nfilegroup(name = \"g\", tags = src(\"*.t\") + src(\"*.u\"))\n")))

through_a_module : both_files []
    ∷ both_files ((codes "*.t", texts ("a.t" ∷ [])) ∷ [])
    ∷ both_files ((codes "*.t", texts ("a.t" ∷ [])) ∷ (codes "*.u", texts ("b.u" ∷ [])) ∷ [])
    ∷ []
    ≡ needs (texts ("*.t" ∷ []))
    ∷ needs (texts ("*.u" ∷ []))
    ∷ tags (texts ("a.t" ∷ "k" ∷ "b.u" ∷ "k" ∷ []))
    ∷ []
unfolding both_files
through_a_module = refl
