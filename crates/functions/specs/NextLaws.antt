-- The laws of the node functions: no group has a key twice, and no turn ends with a cycle.
use Rattle.std.proofs.Common.{◌≡◌, List, None, subst}
use Rattle.std.specs.List.{AllByRecursion}
use Rattle.engine_semantics.specs.Reply.{Reply, Ask, Done}
use Rattle.engine_semantics.specs.Value.{AllDiffer}
use Rattle.keys.specs.declared.key.Key.{Key}
use Rattle.keys.specs.declared.key.Key.TheVariants as key
use Rattle.keys.specs.declared.value.Value.{Value}
use Rattle.keys.specs.declared.value.Value.TheVariants as value
use Rattle.keys.specs.Turns.{NoCycle}
use Rattle.functions_directories.specs.LookupLaws.{lookup_differs, lookup_plain}
use Rattle.functions_directories.specs.GlobLaws.{step_differs, step_plain}
use Rattle.functions_directories.specs.TurnLaws.{under_differs, under_plain}
use Rattle.functions.specs.SourceLaws.{good_module, good_package}
use Rattle.functions.specs.Next.{next}

pub groups_differ : (k : Key) (answers : List Value) (group : List Key) → next k answers ≡ Ask group → AllDiffer group
groups_differ (key.File path) answers group e = cc
groups_differ (key.Listing directory) answers group e = cc
groups_differ (key.Lookup name) answers group e = lookup_differs name answers group e
groups_differ (key.Glob directory pattern directories) answers group e = step_differs directory directories pattern answers group e
groups_differ (key.Module label) answers group e = (good_module label answers).differ group e
groups_differ (key.Package name) answers group e = (good_package name answers).differ group e
groups_differ (key.Under directory) answers group e = under_differs directory answers group e

abbrev ending : Value → Reply Key Value
ending v = Done v

plain_at : (u v : Value) → NoCycle u → ending u ≡ Done v → NoCycle v
plain_at u v p e = let h : u ≡ v = cc in subst NoCycle h p

pub ends_plain : (k : Key) (answers : List Value) (v : Value) → AllByRecursion NoCycle answers → next k answers ≡ Done v → NoCycle v
ends_plain (key.File path) answers v p e = plain_at (value.File None) v tt e
ends_plain (key.Listing directory) answers v p e = plain_at (value.Listing None) v tt e
ends_plain (key.Lookup name) answers v p e = lookup_plain name answers v e
ends_plain (key.Glob directory pattern directories) answers v p e = step_plain directory directories pattern answers v e
ends_plain (key.Module label) answers v p e = (good_module label answers).plain v e
ends_plain (key.Package name) answers v p e = (good_package name answers).plain v e
ends_plain (key.Under directory) answers v p e = under_plain directory answers v e
