-- How much is left to do before the next step of the language is paid for.
use Rattle.std.specs.Prelude.{◌≡◌, ◌<◌, ◌≤◌, ℕ, ◌+◌, List, length, sum_by}
use Rattle.syntax_tree.specs.Tree as t
use Rattle.syntax_tree.specs.Tree.{Ex, Exs}
use Rattle.syntax_tree.specs.View.{shared_tree}
use Rattle.evaluator_frames.specs.declared.frame.Frame.{Frame}
use Rattle.evaluator_frames.specs.declared.frame.Frame.TheVariants as f
use Rattle.evaluator_frames.specs.declared.frame.Control.{Control}
use Rattle.evaluator_frames.specs.declared.frame.Control.TheVariants as c
use Rattle.evaluator_frames.specs.Frames.{trees_from, params_at}

-- targets are gone through without steps
abbrev mutual
  pub aim_size : Ex → ℕ
  aim_size (t.tuple es) = aim_sizes es + 4
  aim_size (t.list es) = aim_sizes es + 4
  aim_size e = 1

  pub aim_sizes : Exs → ℕ
  aim_sizes t.no_exs = 0
  aim_sizes (t.ex e es) = aim_size e + aim_sizes es + 4

abbrev pub frame_weight : Frame → ℕ
frame_weight (f.Items line s) = 9
frame_weight (f.Key line pairs next) = 5
frame_weight (f.Entry line pairs next k) = 4
frame_weight (f.Called line es names) = 9
frame_weight (f.On line name es names) = 9
frame_weight (f.Aims line es done) = aim_sizes (trees_from (length done.items + 1) es) + 2
frame_weight (f.Assign line target) = aim_size (shared_tree target) + 4
frame_weight (f.Change line op a x) = 6
frame_weight (f.Branch ss bs next other) = 4
frame_weight (f.For line target ss) = 4
frame_weight (f.Turn u x) = 8
frame_weight (f.First line target comp) = 8
frame_weight (f.Each line target comp inner got) = 4
frame_weight (f.Aimed u x got) = 8
frame_weight (f.Only line comp inner got) = 4
frame_weight (f.Sliced line i j) = 4
frame_weight (f.From line x j) = 3
frame_weight (f.Default line def next done) = length (params_at next def) + 8
frame_weight frame = 2

abbrev pub control_weight : Control → ℕ
control_weight (c.Signal sig) = 0
control_weight (c.Fault line code) = 0
control_weight (c.Items line s) = 8
control_weight (c.Entries line pairs next) = 3
control_weight (c.Aim line e) = aim_size (shared_tree e) + 1
control_weight (c.Aims line es done) = aim_sizes (trees_from (length done.items) es) + 1
control_weight (c.Branches bs next other) = 2
control_weight (c.First line target comp v) = 6
control_weight (c.Enter line place xs names) = 6
control_weight (c.Builtin line g xs names) = 5
control_weight (c.Method line call) = 5
control_weight (c.Package line g xs names) = 5
control_weight (c.Add line a x y) = 5
control_weight (c.Defaults line def next done) = length (params_at next def) + 7
control_weight (c.Define line def xs) = 5
control_weight control = 1

abbrev pub frames_weight : List Frame → ℕ
frames_weight frames = sum_by frame_weight frames

-- fewer steps are left; or as many, and less is to be done before the next
pub record Lighter (s w s' w' : ℕ) : Type 0 where
  pub steps : s' ≤ s
  pub weight : s' ≡ s → w' < w
