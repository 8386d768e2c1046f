-- When two values are equal.
use Rattle.std.specs.Prelude.{ℕ, List, Bool, true, false, ◌&&◌, nat_eq}
use Rattle.std.specs.Option.{option_eq}
use Rattle.std.specs.Cmp.Lexicographic.{pointwise}
use Rattle.values_modules.specs.Equal.{target_eq, loaded_eq}
use Rattle.keys.specs.Directories.{DirectoryView}
use Rattle.keys.specs.declared.value.BuildName.{BuildName}
use Rattle.keys.specs.declared.value.BuildName.TheVariants.{BuildBazel, Build}
use Rattle.keys.specs.declared.value.Fault as fault
use Rattle.keys.specs.declared.value.Value.{Value}
use Rattle.keys.specs.declared.value.Value.TheVariants.{File, Listing, Lookup, Paths, Module, Package, Fault, Cycle}

-- texts with the same bytes
abbrev pub text_eq : List ℕ → List ℕ → Bool
text_eq = pointwise nat_eq

abbrev pub build_eq : BuildName → BuildName → Bool
build_eq BuildBazel BuildBazel = true
build_eq BuildBazel Build = false
build_eq Build BuildBazel = false
build_eq Build Build = true

-- names that are the same in the same order
abbrev pub listed_eq : DirectoryView → DirectoryView → Bool
listed_eq l m = pointwise text_eq l.files m.files && pointwise text_eq l.directories m.directories

-- faults with the same code, path and line
abbrev pub fault_eq : fault.Fault → fault.Fault → Bool
fault_eq f g = nat_eq f.code g.code && text_eq f.path g.path && nat_eq f.line g.line

-- values of one kind, with equal parts
abbrev pub value_eq : Value → Value → Bool
value_eq (File s) (File t) = option_eq text_eq s t
value_eq (File s) (Listing m) = false
value_eq (File s) (Lookup b) = false
value_eq (File s) (Paths qs) = false
value_eq (File s) (Module n) = false
value_eq (File s) (Package ys) = false
value_eq (File s) (Fault g) = false
value_eq (File s) (Cycle ts) = false
value_eq (Listing l) (File t) = false
value_eq (Listing l) (Listing m) = option_eq listed_eq l m
value_eq (Listing l) (Lookup b) = false
value_eq (Listing l) (Paths qs) = false
value_eq (Listing l) (Module n) = false
value_eq (Listing l) (Package ys) = false
value_eq (Listing l) (Fault g) = false
value_eq (Listing l) (Cycle ts) = false
value_eq (Lookup a) (File t) = false
value_eq (Lookup a) (Listing m) = false
value_eq (Lookup a) (Lookup b) = option_eq build_eq a b
value_eq (Lookup a) (Paths qs) = false
value_eq (Lookup a) (Module n) = false
value_eq (Lookup a) (Package ys) = false
value_eq (Lookup a) (Fault g) = false
value_eq (Lookup a) (Cycle ts) = false
value_eq (Paths ps) (File t) = false
value_eq (Paths ps) (Listing m) = false
value_eq (Paths ps) (Lookup b) = false
value_eq (Paths ps) (Paths qs) = pointwise text_eq ps qs
value_eq (Paths ps) (Module n) = false
value_eq (Paths ps) (Package ys) = false
value_eq (Paths ps) (Fault g) = false
value_eq (Paths ps) (Cycle ts) = false
value_eq (Module m) (File t) = false
value_eq (Module m) (Listing l) = false
value_eq (Module m) (Lookup b) = false
value_eq (Module m) (Paths qs) = false
value_eq (Module m) (Module n) = loaded_eq m n
value_eq (Module m) (Package ys) = false
value_eq (Module m) (Fault g) = false
value_eq (Module m) (Cycle ts) = false
value_eq (Package xs) (File t) = false
value_eq (Package xs) (Listing m) = false
value_eq (Package xs) (Lookup b) = false
value_eq (Package xs) (Paths qs) = false
value_eq (Package xs) (Module n) = false
value_eq (Package xs) (Package ys) = pointwise target_eq xs ys
value_eq (Package xs) (Fault g) = false
value_eq (Package xs) (Cycle ts) = false
value_eq (Fault f) (File t) = false
value_eq (Fault f) (Listing m) = false
value_eq (Fault f) (Lookup b) = false
value_eq (Fault f) (Paths qs) = false
value_eq (Fault f) (Module n) = false
value_eq (Fault f) (Package ys) = false
value_eq (Fault f) (Fault g) = fault_eq f g
value_eq (Fault f) (Cycle ts) = false
value_eq (Cycle ss) (File t) = false
value_eq (Cycle ss) (Listing m) = false
value_eq (Cycle ss) (Lookup b) = false
value_eq (Cycle ss) (Paths qs) = false
value_eq (Cycle ss) (Module n) = false
value_eq (Cycle ss) (Package ys) = false
value_eq (Cycle ss) (Fault g) = false
value_eq (Cycle ss) (Cycle ts) = pointwise text_eq ss ts
