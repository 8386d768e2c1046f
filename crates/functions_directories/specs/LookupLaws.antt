-- The group of a look-up has no key twice, and a look-up ends with no cycle.
use Rattle.std.proofs.Common.{◌≡◌, ◌≢◌, ℕ, ◌+◌, List, [], ◌∷◌, ◌++◌, length, map, Bool, true, false, cond, None, refl, ap, subst, arith, codes, length-append}
use Rattle.engine_semantics.specs.Reply.{Reply, Ask, Done}
use Rattle.engine_semantics.specs.Value.{AllDiffer}
use Rattle.keys.specs.declared.key.Key.{Key}
use Rattle.keys.specs.declared.key.Key.TheVariants as key
use Rattle.keys.specs.declared.value.BuildName.TheVariants.{BuildBazel, Build}
use Rattle.keys.specs.declared.value.Value.{Value}
use Rattle.keys.specs.declared.value.Value.TheVariants as value
use Rattle.keys.specs.Turns.{NoCycle}
use Rattle.functions_directories.specs.Lookups.{build_path, is_short, candidates, lookup_group, asks_first, first_there, next}

-- the two files of a package are at two paths
longer : (p : List ℕ) → length (build_path p BuildBazel) ≡ length (build_path p Build) + 6
longer [] = refl
longer (b ∷ p) = omega (arith, length-append ((b ∷ p) ++ codes "/") (codes "BUILD.bazel"), length-append ((b ∷ p) ++ codes "/") (codes "BUILD"))

paths_differ : (p : List ℕ) → key.File (build_path p BuildBazel) ≢ key.File (build_path p Build)
paths_differ p e = let h : build_path p BuildBazel ≡ build_path p Build = cc in omega (arith, longer p, ap length h)

group_differs : (p : List ℕ) → AllDiffer (lookup_group p)
group_differs p = go (is_short p BuildBazel) (is_short p Build)
  where
    go : (s t : Bool) → AllDiffer (map (λ name. key.File (build_path p name)) (cond s (BuildBazel ∷ cond t (Build ∷ []) []) (cond t (Build ∷ []) [])))
    go true true = ((paths_differ p, tt), (tt, tt))
    go true false = (tt, tt)
    go false true = (tt, tt)
    go false false = tt

asked_first : (g group : List Key) → asks_first g ≡ Ask group → g ≡ group
asked_first [] group e = cc
asked_first (k ∷ g) group e = cc

pub lookup_differs : (p : List ℕ) (answers : List Value) (group : List Key) → next p answers ≡ Ask group → AllDiffer group
lookup_differs p [] group e = subst AllDiffer (asked_first (lookup_group p) group e) (group_differs p)
lookup_differs p (v ∷ vs) group e = cc

abbrev ending : Value → Reply Key Value
ending v = Done v

plain_at : (u v : Value) → NoCycle u → ending u ≡ Done v → NoCycle v
plain_at u v p e = let h : u ≡ v = cc in subst NoCycle h p

plain_first : (g : List Key) (v : Value) → asks_first g ≡ Done v → NoCycle v
plain_first [] v e = plain_at (value.Lookup None) v tt e
plain_first (k ∷ g) v e = cc

pub lookup_plain : (p : List ℕ) (answers : List Value) (v : Value) → next p answers ≡ Done v → NoCycle v
lookup_plain p [] v e = plain_first (lookup_group p) v e
lookup_plain p (w ∷ ws) v e = plain_at (value.Lookup (first_there (candidates p) (w ∷ ws))) v tt e
