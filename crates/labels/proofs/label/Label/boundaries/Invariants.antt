use Rattle.std.proofs.Common.{◌≡◌, ◌++◌, length, reverse, map as each}
use denote.Text.{Utf8}
use denote.Shadow.{shadow}
use Rattle.labels.specs.Labels.{ancestors, joined}
use Rattle.labels.proofs.label.Label.boundaries.Given as goal

-- what is left, and what was found, the longest first
abbrev pub invariant-loop-directory : goal.invariant-loop-directory
invariant-loop-directory l = shadow (Utf8 l.rest)
    × (each (joined l.self-inside.package_name) (ancestors l.rest) ++ reverse l.names.items ≡ each (joined l.self-inside.package_name) (ancestors l.self-inside.name))

abbrev pub decreases-loop-directory : goal.decreases-loop-directory
decreases-loop-directory l = length l.rest
