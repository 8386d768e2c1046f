use Rattle.std.proofs.Common.{◌≡◌, ◌++◌, length, reverse, map}
use denote.Text.{Utf8}
use denote.Shadow.{shadow}
use Rattle.labels.specs.Labels.{ancestors}
use Rattle.keys.specs.declared.key.Key.TheVariants as key
use Rattle.node.proofs.marks.listings_above.Given as goal

-- what is left, and what was found, the longest first
abbrev pub invariant-loop-directory : goal.invariant-loop-directory
invariant-loop-directory l = shadow (Utf8 l.rest)
    × (map key.Listing (ancestors l.rest) ++ reverse l.listings.items ≡ map key.Listing (ancestors l.path))

abbrev pub decreases-loop-directory : goal.decreases-loop-directory
decreases-loop-directory l = length l.rest
