-- What ties an adapter's history to its device. A fact of this kind has one proof at most.
use Rattle.std.specs.Prelude.{◌≡◌, ℕ, ◌<◌, List, [], ◌++◌, Option, None, Some, OnSome}
use Rattle.std.specs.Io.KnownBytes.{Appends, Consumes, IsAtEnd}
use Rattle.std.specs.Coded.{Unit-prop, →_prop, Coded-set, coded_list, coded_ℕ}

bytes_are_a_set : (xs ys : List ℕ) → IsProp (xs ≡ ys)
bytes_are_a_set = Coded-set (coded_list coded_ℕ)

pub Consumes-prop : (before after : Option (List ℕ)) (bytes : List ℕ) → IsProp (Consumes before after bytes)
Consumes-prop None after bytes = Unit-prop
Consumes-prop (Some xs) None bytes = λ x y. absurd x
Consumes-prop (Some xs) (Some ys) bytes = bytes_are_a_set xs (bytes ++ ys)

pub Appends-prop : (before after : Option (List ℕ)) (bytes : List ℕ) → IsProp (Appends before after bytes)
Appends-prop None after bytes = Unit-prop
Appends-prop (Some xs) None bytes = λ x y. absurd x
Appends-prop (Some xs) (Some ys) bytes = bytes_are_a_set ys (xs ++ bytes)

-- a device that has reported its end has nothing left, where its first bytes are known
abbrev pub EndsWithNothing : ℕ → Option (List ℕ) → Option (List ℕ) → Type 0
EndsWithNothing ends first left = 0 < ends → OnSome first (IsAtEnd left)

at_end_once : (first left : Option (List ℕ)) → IsProp (OnSome first (IsAtEnd left))
at_end_once None left = Unit-prop
at_end_once (Some xs) None = Unit-prop
at_end_once (Some xs) (Some ys) = bytes_are_a_set ys []

pub EndsWithNothing-prop : (ends : ℕ) (first left : Option (List ℕ)) → IsProp (EndsWithNothing ends first left)
EndsWithNothing-prop ends first left = →_prop (at_end_once first left)
