-- The functions that files have without a binding: their numbers, their names, and which of them are package calls.
use Rattle.std.specs.Prelude.{ℕ, List, [], ◌∷◌, ◌++◌, ◌==◌, Bool, Option, Some, None, slice_get, codes}
use Rattle.values_semantics.specs.declared.builtin.Builtin.{Builtin}
use Rattle.values_semantics.specs.declared.builtin.Builtin.TheVariants as b

abbrev pub builtin_number : Builtin → ℕ
builtin_number b.Len = 0
builtin_number b.Range = 1
builtin_number b.Str = 2
builtin_number b.Repr = 3
builtin_number b.Type = 4
builtin_number b.Sorted = 5
builtin_number b.Reversed = 6
builtin_number b.Enumerate = 7
builtin_number b.Zip = 8
builtin_number b.List = 9
builtin_number b.Tuple = 10
builtin_number b.Dict = 11
builtin_number b.Bool = 12
builtin_number b.Any = 13
builtin_number b.All = 14
builtin_number b.Min = 15
builtin_number b.Max = 16
builtin_number b.Fail = 17
builtin_number b.Glob = 18
builtin_number b.Filegroup = 19
builtin_number b.Genrule = 20
builtin_number b.Alias = 21
builtin_number b.TestSuite = 22
builtin_number b.PackageName = 23

abbrev pub builtin_name : Builtin → List ℕ
builtin_name b.Len = codes "len"
builtin_name b.Range = codes "range"
builtin_name b.Str = codes "str"
builtin_name b.Repr = codes "repr"
builtin_name b.Type = codes "type"
builtin_name b.Sorted = codes "sorted"
builtin_name b.Reversed = codes "reversed"
builtin_name b.Enumerate = codes "enumerate"
builtin_name b.Zip = codes "zip"
builtin_name b.List = codes "list"
builtin_name b.Tuple = codes "tuple"
builtin_name b.Dict = codes "dict"
builtin_name b.Bool = codes "bool"
builtin_name b.Any = codes "any"
builtin_name b.All = codes "all"
builtin_name b.Min = codes "min"
builtin_name b.Max = codes "max"
builtin_name b.Fail = codes "fail"
builtin_name b.Glob = codes "glob"
builtin_name b.Filegroup = codes "filegroup"
builtin_name b.Genrule = codes "genrule"
builtin_name b.Alias = codes "alias"
builtin_name b.TestSuite = codes "test_suite"
builtin_name b.PackageName = codes "package_name"

-- built-in functions are equal by name
abbrev pub same_builtin : Builtin → Builtin → Bool
same_builtin a b = builtin_number a == builtin_number b

-- the functions that every file has
abbrev pub plain_functions : List Builtin
plain_functions = b.Len ∷ b.Range ∷ b.Str ∷ b.Repr ∷ b.Type ∷ b.Sorted ∷ b.Reversed ∷ b.Enumerate ∷ b.Zip ∷ b.List ∷ b.Tuple ∷ b.Dict ∷ b.Bool ∷ b.Any ∷ b.All ∷ b.Min ∷ b.Max ∷ b.Fail ∷ []

-- the package calls, which BUILD files have by their names and .bzl files as methods of `native`
abbrev pub package_functions : List Builtin
package_functions = b.Glob ∷ b.Filegroup ∷ b.Genrule ∷ b.Alias ∷ b.TestSuite ∷ b.PackageName ∷ []

abbrev pub the_function : Option Builtin → Builtin
the_function (Some f) = f
the_function None = b.Len

-- the function of a number: the lists are in the order of the numbers
abbrev pub builtin_at : ℕ → Builtin
builtin_at n = the_function (slice_get (plain_functions ++ package_functions) n)
