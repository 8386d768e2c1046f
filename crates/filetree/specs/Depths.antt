-- A folder is deeper than those in it.
use Rattle.std.specs.Prelude.{◌≤◌, ◌+◌, ℕ, List, [], ◌∷◌, String, map as each}
use Rattle.std.specs.declared.alloc.Global.{Global}
use Rattle.std.specs.declared.sync.Arc.{Arc}
use Rattle.std.proofs.Common.{arith}
use denote.Param.Weighed.{most}
use Rattle.filetree.specs.declared.name_map.NameMap.{NameMap}
use Rattle.filetree.specs.declared.name_map.NameMap.TheVariants.{Few, Many}
use Rattle.filetree.specs.declared.folder.Folder.TheInside.{Inside}
use Rattle.filetree.specs.declared.folder.Folder.TheDeep.{deep-Folder}
use Rattle.filetree.specs.declared.folder.Folder.TheShapes.{weighed-Folder-folders-at-3, weighed-Folder-folders-at-6}
use Rattle.filetree.specs.NameMaps.{listed, name_value}
use Rattle.filetree.specs.Folders.{Below, depth_above, depth_of}

few : (es : List (List ℕ × Arc Below Global)) → most ((weighed-Folder-folders-at-3).weight Below (λ b. b.depth + 1)) es ≤ most depth_above (listed es)
few [] = omega arith
few (e ∷ es) = omega (arith, few es)

many : (es : List (String Global × Arc Below Global)) → most ((weighed-Folder-folders-at-6).weight Below (λ b. b.depth + 1)) (each (λ e. e.1) es) ≤ most depth_above (each name_value es)
many [] = omega arith
many (e ∷ es) = omega (arith, many es)

in_map : (a : Inside) (f : NameMap Below) → deep-Folder (record a { folders = f }) ≤ depth_of f
in_map a (Few list) = omega (arith, few list.items)
in_map a (Many m) = omega (arith, many m.entries)

pub depth_falls : (a : Inside) → deep-Folder a ≤ depth_of a.folders
depth_falls a = in_map a a.folders
