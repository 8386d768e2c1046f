-- A set of keys as its least key, where that is apart, and the others.
use Rattle.std.specs.Prelude.{◌≡◌, ◌++◌, All, List, Option}
use Rattle.std.specs.Option.{option_to_list}
use Rattle.std.specs.declared.cmp.Ordering.TheVariants.{Less}
use Rattle.keys.specs.Keys.{key_cmp}
use Rattle.keys.specs.declared.key.Key.{Key}

-- the keys of both, the least first
abbrev pub keys_of : Option Key → List Key → List Key
keys_of next rest = option_to_list next ++ rest

-- a key is below all of these
abbrev pub IsBelowAll : Key → List Key → Type 0
IsBelowAll key keys = All (λ k. key_cmp key k ≡ Less) keys

-- the key that is apart is below the others
abbrev pub IsBelow : Option Key → List Key → Type 0
IsBelow next rest = All (λ n. IsBelowAll n rest) (option_to_list next)
