-- When two frozen values are one value: of one kind, with the same parts in the same order. A dictionary's order
-- counts, and a function is its file's label and its name.
use Rattle.std.specs.Prelude.{ℕ, suc, ◌-◌, ◌==◌, ◌&&◌, Bool, true, false, if◌then◌else◌, max, nat_eq}
use Rattle.std.specs.Bool.{beq}
use Rattle.std.specs.Ordering.{int_eq}
use Rattle.std.specs.Cmp.Lexicographic.{pointwise}
use Rattle.values_semantics.specs.Builtins.{same_builtin}
use Rattle.values_semantics.specs.Freezing.{Fz, Fzs, Pairs, nothing, boolean, whole, built_in, text, list, tuple, dict, function, no_members, member, no_pairs, pair}

-- how many containers are inside one another
abbrev mutual
  pub depth : Fz → ℕ
  depth nothing = 0
  depth (boolean b) = 0
  depth (whole n) = 0
  depth (built_in b) = 0
  depth (text bytes) = 0
  depth (list fs) = suc (depths fs)
  depth (tuple fs) = suc (depths fs)
  depth (dict ps) = suc (pair_depths ps)
  depth (function label name) = 0

  pub depths : Fzs → ℕ
  depths no_members = 0
  depths (member f fs) = max (depth f) (depths fs)

  pub pair_depths : Pairs → ℕ
  pair_depths no_pairs = 0
  pair_depths (pair k f ps) = max (max (depth k) (depth f)) (pair_depths ps)

-- one value, where this many containers may be entered inside one another; deeper ones are not compared and not taken
-- for one
abbrev mutual
  pub same_within : Fz → Fz → ℕ → Bool
  same_within nothing nothing n = true
  same_within (boolean a) (boolean b) n = beq a b
  same_within (whole a) (whole b) n = int_eq a b
  same_within (built_in a) (built_in b) n = same_builtin a b
  same_within (text a) (text b) n = pointwise nat_eq a b
  same_within (list fs) (list gs) n = if n == 0 then false else same_members fs gs (n - 1)
  same_within (tuple fs) (tuple gs) n = if n == 0 then false else same_members fs gs (n - 1)
  same_within (dict ps) (dict qs) n = if n == 0 then false else same_pairs ps qs (n - 1)
  same_within (function l f) (function m g) n = pointwise nat_eq l m && pointwise nat_eq f g
  same_within a b n = false

  pub same_members : Fzs → Fzs → ℕ → Bool
  same_members no_members no_members n = true
  same_members (member f fs) (member g gs) n = if same_within f g n then same_members fs gs n else false
  same_members fs gs n = false

  pub same_pairs : Pairs → Pairs → ℕ → Bool
  same_pairs no_pairs no_pairs n = true
  same_pairs (pair k f ps) (pair l g qs) n = if same_within k l n && same_within f g n then same_pairs ps qs n else false
  same_pairs ps qs n = false

abbrev pub same_entry : Fz × Fz → Fz × Fz → ℕ → Bool
same_entry p q n = same_within p.0 q.0 n && same_within p.1 q.1 n

abbrev pub same : Fz → Fz → Bool
same a b = same_within a b (depth a)
