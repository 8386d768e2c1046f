-- The files below a folder.
use Rattle.std.specs.Prelude.{◌≡◌, ◌<◌, ℕ, ◌+◌, List, [], ◌∷◌, ◌++◌, length, Bool, true, ◌&&◌, ◌==◌, not, nat_lt, Option, Some, None, map as each, flat_map, string_bytes, String, bytes_eq, if◌then◌else◌}
use Rattle.std.specs.declared.alloc.Global.{Global}
use Rattle.std.specs.declared.sync.Arc.{Arc}
use Rattle.std.specs.Map.{lookup, set_value}
use Rattle.std.specs.List.{list_all}
use Rattle.filetree.specs.declared.name_map.NameMap.{NameMap}
use Rattle.filetree.specs.NameMaps.{folder_entries, is_ascending}
use denote.Param.Weighed.{most}

-- paths with their texts
abbrev pub Entries : Type 0
Entries = List (List ℕ × List ℕ)

-- the files below a folder, and how deep folders are in one another
pub record Below : Type 0 where
  pub entries : Entries
  pub depth : ℕ

-- the entries below a name: those whose path is the name, a slash and more
abbrev pub behind : List ℕ → Entries → Entries
behind name es = each (λ e. (name ++ 47 ∷ e.0, e.1)) es

-- the files of one folder, and those of the folders in it after their names
abbrev pub level : Entries → List (List ℕ × Below) → Entries
level files folders = files ++ flat_map (λ e. behind e.0 e.1.entries) folders

-- a folder's depth is one more than those of the folders in it
abbrev pub depth_above : List ℕ × Below → ℕ
depth_above e = e.1.depth + 1

abbrev pub depth_of : NameMap Below → ℕ
depth_of folders = most depth_above (folder_entries folders)

abbrev pub has_no_slash : List ℕ → Bool
has_no_slash name = list_all (λ b. not (b == 47)) name

abbrev pub is_distinct : {X : Type 0} → List (List ℕ × X) → Bool
is_distinct [] = true
is_distinct (e ∷ es) = list_all (λ f. not (bytes_eq e.0 f.0)) es && is_distinct es

-- a folder in another has a name without a slash, and is not empty
abbrev pub is_inner : List ℕ × Below → Bool
is_inner e = has_no_slash e.0 && nat_lt 0 (length e.1.entries)

-- names have no slash, no folder in it is empty, and the names of both kinds ascend
abbrev pub is_sound : Entries → List (List ℕ × Below) → Bool
is_sound files folders = list_all (λ e. has_no_slash e.0) files && (list_all is_inner folders && (is_ascending files && is_ascending folders))

-- the files below a folder that may be there
abbrev pub entries_of : Option (Arc Below Global) → Entries
entries_of None = []
entries_of (Some folder) = folder.value.entries

-- the text at a path
abbrev pub text_at : Entries → List ℕ → Option (List ℕ)
text_at es path = lookup (bytes_eq path) es

-- below a name, the new entries have w at one path, and at the others what the old have
abbrev pub Changes : List ℕ → List ℕ → Option (List ℕ) → Entries → Entries → Type 0
Changes name rest w old new = (r : List ℕ) → text_at new r ≡ (if bytes_eq rest r then w else text_at old (name ++ 47 ∷ r))

-- the files have this text at one path, and at the others what they had
abbrev pub IsPut : List ℕ → List ℕ → Below → Below → Type 0
IsPut rest text old new = (r : List ℕ) → text_at new.entries r ≡ (if bytes_eq rest r then Some text else text_at old.entries r)

-- one of the folders in a folder is replaced by another one, with which it is related in this way
pub record Rewrites (name : List ℕ) (so : Below → Below → Type 0) (old new : List (List ℕ × Below)) : Type 0 where
  pub before : Below
  pub after : Below
  pub found : lookup (bytes_eq name) old ≡ Some before
  pub is : new ≡ set_value (bytes_eq name) old after
  pub changed : so before after

-- a path is a first name, a slash and a rest
pub record IsSplit (path name rest : List ℕ) : Type 0 where
  pub plain : has_no_slash name ≡ true
  pub joined : path ≡ name ++ 47 ∷ rest
  pub shorter : length rest < length path
