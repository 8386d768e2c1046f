-- The keys whose jobs are out, by which were added and which were removed.
use Rattle.std.specs.Prelude.{List, [], ◌∷◌, Bool, not, filter, if◌then◌else◌}
use Rattle.std.specs.List.{fold, list_any}
use Rattle.keys.specs.Keys.{key_eq}
use Rattle.keys.specs.declared.key.Key.{Key}

-- the others
abbrev pub keys_without : Key → List Key → List Key
keys_without k keys = filter (λ j. not (key_eq k j)) keys

-- a key was added, if it was not there, or was removed
abbrev pub after_change : List Key → Key × Bool → List Key
after_change keys change = if change.1 then (if list_any (key_eq change.0) keys then keys else change.0 ∷ keys) else keys_without change.0 keys

-- the keys that were added and not removed since
abbrev pub keys_after : List (Key × Bool) → List Key
keys_after changes = fold after_change [] changes
