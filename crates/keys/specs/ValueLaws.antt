-- Two values are equal exactly where they are one value, so equality is an equivalence.
use Rattle.std.proofs.Common.{◌≡◌, ℕ, List, Bool, true, false, ◌&&◌, Option, Some, None, refl, sym, ◌∙◌, ap}
use Rattle.std.specs.Bool.{Decides}
use Rattle.std.specs.Prelude.{nat_eq}
use Rattle.std.specs.Option.{option_eq}
use Rattle.std.specs.Cmp.{IsEquivalence, both_ways, unsigned_Decides}
use Rattle.std.specs.Cmp.Lexicographic.{pointwise}
use lib.Pointwise.{pointwise_decides}
use Rattle.keys.specs.declared.value.BuildName.{BuildName}
use Rattle.keys.specs.declared.value.BuildName.TheVariants.{BuildBazel, Build}
use Rattle.values_modules.specs.EqualLaws.{targets_decide, loaded_decide}
use Rattle.keys.specs.declared.value.Fault as fault
use Rattle.keys.specs.declared.value.Value.{Value}
use Rattle.keys.specs.declared.value.Value.TheVariants.{File, Listing, Lookup, Paths, Module, Package, Fault, Cycle}
use Rattle.keys.specs.Directories.{DirectoryView}
use Rattle.keys.specs.Values.{text_eq, build_eq, listed_eq, fault_eq, value_eq}

-- a test that holds exactly of a value and itself
module _ {X : Type 0} (E : X → X → Bool) (exact : (x y : X) → Decides (E x y) (x ≡ y)) where
  pub equiv_from_exact : IsEquivalence E
  equiv_from_exact = record {
    refl = λ x. (exact x x).1 refl;
    symm = λ x y. both_ways (E x y) (E y x) (λ h. (exact y x).1 (sym ((exact x y).0 h))) (λ h. (exact x y).1 (sym ((exact y x).0 h)));
    congr = λ x y z h. ap (λ w. E w z) ((exact x y).0 h);
  }

  pub exact_option : (s t : Option X) → Decides (option_eq E s t) (s ≡ t)
  exact_option None None = (λ h. refl, λ e. refl)
  exact_option None (Some y) = (λ h. cc, λ e. cc)
  exact_option (Some x) None = (λ h. cc, λ e. cc)
  exact_option (Some x) (Some y) = (λ h. ap Some ((exact x y).0 h), λ e. (exact x y).1 (cc))

pub exact_texts : (s t : List ℕ) → Decides (text_eq s t) (s ≡ t)
exact_texts = pointwise_decides unsigned_Decides

pub exact_builds : (a b : BuildName) → Decides (build_eq a b) (a ≡ b)
exact_builds BuildBazel BuildBazel = (λ h. refl, λ e. refl)
exact_builds BuildBazel Build = (λ h. cc, λ e. cc)
exact_builds Build BuildBazel = (λ h. cc, λ e. cc)
exact_builds Build Build = (λ h. refl, λ e. refl)

pub exact_names : (ss ts : List (List ℕ)) → Decides (pointwise text_eq ss ts) (ss ≡ ts)
exact_names = pointwise_decides exact_texts

both : (a b : Bool) → a && b ≡ true → (a ≡ true) × (b ≡ true)
both true true e = (refl, refl)
both true false e = cc
both false b e = cc

join : (a b : Bool) → a ≡ true → b ≡ true → a && b ≡ true
join a b h g = ap (λ x. x && b) h ∙ g

pub exact_listed : (l m : DirectoryView) → Decides (listed_eq l m) (l ≡ m)
exact_listed l m =
    let d = exact_names l.files m.files in
    let e = exact_names l.directories m.directories in (
      λ h. let p = both (pointwise text_eq l.files m.files) (pointwise text_eq l.directories m.directories) h in λ i. record { files = d.0 p.0 i; directories = e.0 p.1 i },
      λ q. join (pointwise text_eq l.files m.files) (pointwise text_eq l.directories m.directories) (d.1 (ap (λ (x : DirectoryView). x.files) q)) (e.1 (ap (λ (x : DirectoryView). x.directories) q)),
    )

pub exact_faults : (f g : fault.Fault) → Decides (fault_eq f g) (f ≡ g)
exact_faults f g =
    let c = unsigned_Decides f.code g.code in
    let p = exact_texts f.path g.path in
    let l = unsigned_Decides f.line g.line in (
      λ h. let front = both (nat_eq f.code g.code && text_eq f.path g.path) (nat_eq f.line g.line) h in
          let first = both (nat_eq f.code g.code) (text_eq f.path g.path) front.0 in λ i. record { code = c.0 first.0 i; path = p.0 first.1 i; line = l.0 front.1 i },
      λ q. join (nat_eq f.code g.code && text_eq f.path g.path) (nat_eq f.line g.line)
          (join (nat_eq f.code g.code) (text_eq f.path g.path) (c.1 (ap (λ (x : fault.Fault). x.code) q)) (p.1 (ap (λ (x : fault.Fault). x.path) q))) (l.1 (ap (λ (x : fault.Fault). x.line) q)),
    )

-- equal values are one value
pub exact_values : (v w : Value) → Decides (value_eq v w) (v ≡ w)
exact_values (File s) (File t) = let d = exact_option text_eq exact_texts s t in (λ h. ap File (d.0 h), λ e. d.1 (cc))
exact_values (File s) (Listing m) = (λ h. cc, λ e. cc)
exact_values (File s) (Lookup b) = (λ h. cc, λ e. cc)
exact_values (File s) (Paths qs) = (λ h. cc, λ e. cc)
exact_values (File s) (Module n) = (λ h. cc, λ e. cc)
exact_values (File s) (Package ys) = (λ h. cc, λ e. cc)
exact_values (File s) (Fault g) = (λ h. cc, λ e. cc)
exact_values (File s) (Cycle ts) = (λ h. cc, λ e. cc)
exact_values (Listing l) (File t) = (λ h. cc, λ e. cc)
exact_values (Listing l) (Listing m) = let d = exact_option listed_eq exact_listed l m in (λ h. ap Listing (d.0 h), λ e. d.1 (cc))
exact_values (Listing l) (Lookup b) = (λ h. cc, λ e. cc)
exact_values (Listing l) (Paths qs) = (λ h. cc, λ e. cc)
exact_values (Listing l) (Module n) = (λ h. cc, λ e. cc)
exact_values (Listing l) (Package ys) = (λ h. cc, λ e. cc)
exact_values (Listing l) (Fault g) = (λ h. cc, λ e. cc)
exact_values (Listing l) (Cycle ts) = (λ h. cc, λ e. cc)
exact_values (Lookup a) (File t) = (λ h. cc, λ e. cc)
exact_values (Lookup a) (Listing m) = (λ h. cc, λ e. cc)
exact_values (Lookup a) (Lookup b) = let d = exact_option build_eq exact_builds a b in (λ h. ap Lookup (d.0 h), λ e. d.1 (cc))
exact_values (Lookup a) (Paths qs) = (λ h. cc, λ e. cc)
exact_values (Lookup a) (Module n) = (λ h. cc, λ e. cc)
exact_values (Lookup a) (Package ys) = (λ h. cc, λ e. cc)
exact_values (Lookup a) (Fault g) = (λ h. cc, λ e. cc)
exact_values (Lookup a) (Cycle ts) = (λ h. cc, λ e. cc)
exact_values (Paths ps) (File t) = (λ h. cc, λ e. cc)
exact_values (Paths ps) (Listing m) = (λ h. cc, λ e. cc)
exact_values (Paths ps) (Lookup b) = (λ h. cc, λ e. cc)
exact_values (Paths ps) (Paths qs) = let d = exact_names ps qs in (λ h. ap Paths (d.0 h), λ e. d.1 (cc))
exact_values (Paths ps) (Module n) = (λ h. cc, λ e. cc)
exact_values (Paths ps) (Package ys) = (λ h. cc, λ e. cc)
exact_values (Paths ps) (Fault g) = (λ h. cc, λ e. cc)
exact_values (Paths ps) (Cycle ts) = (λ h. cc, λ e. cc)
exact_values (Module m) (File t) = (λ h. cc, λ e. cc)
exact_values (Module m) (Listing l) = (λ h. cc, λ e. cc)
exact_values (Module m) (Lookup b) = (λ h. cc, λ e. cc)
exact_values (Module m) (Paths qs) = (λ h. cc, λ e. cc)
exact_values (Module m) (Module n) = let d = loaded_decide m n in (λ h. ap Module (d.0 h), λ e. d.1 (cc))
exact_values (Module m) (Package ys) = (λ h. cc, λ e. cc)
exact_values (Module m) (Fault g) = (λ h. cc, λ e. cc)
exact_values (Module m) (Cycle ts) = (λ h. cc, λ e. cc)
exact_values (Package xs) (File t) = (λ h. cc, λ e. cc)
exact_values (Package xs) (Listing m) = (λ h. cc, λ e. cc)
exact_values (Package xs) (Lookup b) = (λ h. cc, λ e. cc)
exact_values (Package xs) (Paths qs) = (λ h. cc, λ e. cc)
exact_values (Package xs) (Module n) = (λ h. cc, λ e. cc)
exact_values (Package xs) (Package ys) = let d = pointwise_decides targets_decide xs ys in (λ h. ap Package (d.0 h), λ e. d.1 (cc))
exact_values (Package xs) (Fault g) = (λ h. cc, λ e. cc)
exact_values (Package xs) (Cycle ts) = (λ h. cc, λ e. cc)
exact_values (Fault f) (File t) = (λ h. cc, λ e. cc)
exact_values (Fault f) (Listing m) = (λ h. cc, λ e. cc)
exact_values (Fault f) (Lookup b) = (λ h. cc, λ e. cc)
exact_values (Fault f) (Paths qs) = (λ h. cc, λ e. cc)
exact_values (Fault f) (Module n) = (λ h. cc, λ e. cc)
exact_values (Fault f) (Package ys) = (λ h. cc, λ e. cc)
exact_values (Fault f) (Fault g) = let d = exact_faults f g in (λ h. ap Fault (d.0 h), λ e. d.1 (cc))
exact_values (Fault f) (Cycle ts) = (λ h. cc, λ e. cc)
exact_values (Cycle ss) (File t) = (λ h. cc, λ e. cc)
exact_values (Cycle ss) (Listing m) = (λ h. cc, λ e. cc)
exact_values (Cycle ss) (Lookup b) = (λ h. cc, λ e. cc)
exact_values (Cycle ss) (Paths qs) = (λ h. cc, λ e. cc)
exact_values (Cycle ss) (Module n) = (λ h. cc, λ e. cc)
exact_values (Cycle ss) (Package ys) = (λ h. cc, λ e. cc)
exact_values (Cycle ss) (Fault g) = (λ h. cc, λ e. cc)
exact_values (Cycle ss) (Cycle ts) = let d = exact_names ss ts in (λ h. ap Cycle (d.0 h), λ e. d.1 (cc))

pub builds_equiv : IsEquivalence build_eq
builds_equiv = equiv_from_exact build_eq exact_builds

pub names_equiv : IsEquivalence (pointwise text_eq)
names_equiv = equiv_from_exact (pointwise text_eq) exact_names

pub listed_equiv : IsEquivalence listed_eq
listed_equiv = equiv_from_exact listed_eq exact_listed

pub faults_equiv : IsEquivalence fault_eq
faults_equiv = equiv_from_exact fault_eq exact_faults

pub values_equiv : IsEquivalence value_eq
values_equiv = equiv_from_exact value_eq exact_values
