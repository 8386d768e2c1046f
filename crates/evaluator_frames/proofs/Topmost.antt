-- The topmost frame.
use Rattle.std.proofs.Common.{◌≡◌, ◌++◌, ◌∷◌, [], ℕ, false, List, refl, ap, ◌∙◌}
use Rattle.evaluator_semantics.specs.World.{World, Here, Ends, then_runs, pure}
use Rattle.evaluator_semantics.specs.Environment.{Env}
use Rattle.evaluator_frames.specs.declared.frame.Frame.{Frame}
use Rattle.evaluator_frames.specs.declared.frame.Frame.TheVariants as f
use Rattle.evaluator_frames.specs.Frames.{Sig, frame_does, stack_does, calls_below, here_below, is_leave, above}
use Rattle.evaluator_frames.proofs.Bind.{stack_push}

pub same_calls : (n : ℕ) (frame : Frame) → is_leave frame ≡ false → calls_below frame n ≡ n
same_calls z (f.Items line s) said = refl
same_calls z (f.Key line pairs next) said = refl
same_calls z (f.Entry line pairs next k) said = refl
same_calls z (f.Unary line op) said = refl
same_calls z (f.Right line op b) said = refl
same_calls z (f.Both line op v) said = refl
same_calls z (f.Choice line a b) said = refl
same_calls z (f.Indexed line i) said = refl
same_calls z (f.Index line v) said = refl
same_calls z (f.Sliced line i j) said = refl
same_calls z (f.From line v j) said = refl
same_calls z (f.To line v y) said = refl
same_calls z (f.Called line es names) said = refl
same_calls z (f.On line name es names) said = refl
same_calls z (f.Container line i) said = refl
same_calls z (f.Member line v) said = refl
same_calls z (f.Aims line es done) said = refl
same_calls z f.Discard said = refl
same_calls z (f.Assign line target) said = refl
same_calls z (f.Store line v) said = refl
same_calls z (f.Augment line op e) said = refl
same_calls z (f.Change line op a v) said = refl
same_calls z f.Return said = refl
same_calls z (f.Branch ss bs next other) said = refl
same_calls z (f.For line target ss) said = refl
same_calls z (f.Turn u v) said = refl
same_calls z (f.Turns u) said = refl
same_calls z (f.Rest ss next) said = refl
same_calls z (f.Leave caller) said = absurd cc
same_calls z (f.First line target comp) said = refl
same_calls z (f.Each line target comp inner got) said = refl
same_calls z (f.Only line comp inner got) said = refl
same_calls z (f.Aimed u v got) said = refl
same_calls z (f.Gather u) said = refl
same_calls z (f.OneMore line got) said = refl
same_calls z (f.OneKey line e got) said = refl
same_calls z (f.OneEntry line k got) said = refl
same_calls z f.EndBlock said = refl
same_calls z (f.MakeList line) said = refl
same_calls z (f.MakeDict line) said = refl
same_calls z (f.Default line def next done) said = refl
same_calls z (f.Tops file next) said = refl

pub same_here : (here : Here) (frame : Frame) → is_leave frame ≡ false → here_below frame here ≡ here
same_here z (f.Items line s) said = refl
same_here z (f.Key line pairs next) said = refl
same_here z (f.Entry line pairs next k) said = refl
same_here z (f.Unary line op) said = refl
same_here z (f.Right line op b) said = refl
same_here z (f.Both line op v) said = refl
same_here z (f.Choice line a b) said = refl
same_here z (f.Indexed line i) said = refl
same_here z (f.Index line v) said = refl
same_here z (f.Sliced line i j) said = refl
same_here z (f.From line v j) said = refl
same_here z (f.To line v y) said = refl
same_here z (f.Called line es names) said = refl
same_here z (f.On line name es names) said = refl
same_here z (f.Container line i) said = refl
same_here z (f.Member line v) said = refl
same_here z (f.Aims line es done) said = refl
same_here z f.Discard said = refl
same_here z (f.Assign line target) said = refl
same_here z (f.Store line v) said = refl
same_here z (f.Augment line op e) said = refl
same_here z (f.Change line op a v) said = refl
same_here z f.Return said = refl
same_here z (f.Branch ss bs next other) said = refl
same_here z (f.For line target ss) said = refl
same_here z (f.Turn u v) said = refl
same_here z (f.Turns u) said = refl
same_here z (f.Rest ss next) said = refl
same_here z (f.Leave caller) said = absurd cc
same_here z (f.First line target comp) said = refl
same_here z (f.Each line target comp inner got) said = refl
same_here z (f.Only line comp inner got) said = refl
same_here z (f.Aimed u v got) said = refl
same_here z (f.Gather u) said = refl
same_here z (f.OneMore line got) said = refl
same_here z (f.OneKey line e got) said = refl
same_here z (f.OneEntry line k got) said = refl
same_here z f.EndBlock said = refl
same_here z (f.MakeList line) said = refl
same_here z (f.MakeDict line) said = refl
same_here z (f.Default line def next done) said = refl
same_here z (f.Tops file next) said = refl

-- a signal for the topmost frame
pub handed_down : (env : Env) (n : ℕ) (here : Here) (frames : List Frame) (frame : Frame) (sig : Sig) (w : World) → is_leave frame ≡ false → above env n here (pure sig) (frames ++ frame ∷ []) w ≡ above env n here (frame_does env n here frame sig) frames w
handed_down env n here frames frame sig w e =
    ap (λ (j : Sig → World → Ends Sig). j sig w) (stack_push env n here frames frame (frames ++ frame ∷ []) refl)
    ∙ ap (λ k. then_runs (frame_does env n here frame sig w) (stack_does env k (here_below frame here) frames)) (same_calls n frame e)
    ∙ ap (λ h. then_runs (frame_does env n here frame sig w) (stack_does env n h frames)) (same_here here frame e)
