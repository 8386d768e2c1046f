-- A built-in function is the one of its number.
use Rattle.std.proofs.Common.{◌≡◌, refl}
use Rattle.values_semantics.specs.declared.builtin.Builtin.{Builtin}
use Rattle.values_semantics.specs.declared.builtin.Builtin.TheVariants as b
use Rattle.values_semantics.specs.Builtins.{builtin_number, builtin_at}

pub numbered : (f : Builtin) → builtin_at (builtin_number f) ≡ f
numbered b.Len = refl
numbered b.Range = refl
numbered b.Str = refl
numbered b.Repr = refl
numbered b.Type = refl
numbered b.Sorted = refl
numbered b.Reversed = refl
numbered b.Enumerate = refl
numbered b.Zip = refl
numbered b.List = refl
numbered b.Tuple = refl
numbered b.Dict = refl
numbered b.Bool = refl
numbered b.Any = refl
numbered b.All = refl
numbered b.Min = refl
numbered b.Max = refl
numbered b.Fail = refl
numbered b.Glob = refl
numbered b.Filegroup = refl
numbered b.Genrule = refl
numbered b.Alias = refl
numbered b.TestSuite = refl
numbered b.PackageName = refl
