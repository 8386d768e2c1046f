-- Calls that begin and end.
use Rattle.std.proofs.Common.{◌≡◌, ◌+◌, ◌++◌, ◌∷◌, [], ℕ, zero, suc, List, Option, Some, None, Vec, Global, vec_len, drop, map, reverse, MatchOption, refl, sym, ap, ◌∙◌, Err}
use Rattle.std.specs.Option.{option_to_list}
use Rattle.std.proofs.lemmas.List.{reverse-append, nil_from_length}
use Rattle.values_semantics.specs.declared.val.Val.{Val}
use Rattle.values_semantics.specs.Functions.{KeywordArguments}
use Rattle.syntax_tree.specs.Tree.{Fn, Suite}
use Rattle.evaluator_semantics.proofs.Below.{Asks, Below}
use Rattle.evaluator_package_calls.specs.View.{EndsAs}
use Rattle.evaluator_state.specs.View.{Ran}
use Rattle.values_objects.specs.declared.halt.Halt.{Halt}
use Rattle.values_objects.specs.declared.halt.Halt.TheVariants.{Code, Memory}
use Rattle.evaluator_frames.specs.declared.frame.Control.{Control}
use Rattle.evaluator_frames.specs.Frames.{Goes, Sig, a_value, an_exit, given_by}
use Rattle.evaluator.specs.declared.machine.Environment.{Environment}
use Rattle.evaluator.specs.declared.machine.Machine.{Machine}
use Rattle.evaluator.specs.declared.machine.Stop.{Stop}
use Rattle.evaluator.specs.declared.machine.Stop.TheVariants as stops
use Rattle.evaluator.specs.Machines.{Stops, Leads, Under, site_at}
use Rattle.evaluator_semantics.specs.World.{World, Site, Block, Here, Ends, ended, failed, waits, Runs, then_runs, ◌>>=◌, pure, with_blocks, in_blocks}
use Rattle.evaluator_semantics.specs.Statements as s
use Rattle.evaluator_semantics.specs.Statements.{suite}
use Rattle.evaluator_semantics.specs.Environment.{Env, need_names, functions_of, function_named}
use Rattle.evaluator_semantics.specs.Calls.{call, enter, result_of_completion, function_block, body_does}
use Rattle.evaluator_calls.specs.declared.functions.ActiveCall.{ActiveCall}
use Rattle.evaluator_calls.specs.View.{open_of, running_of}
use Rattle.evaluator.specs.Finding.{body_runs, calls_on}

-- the functions that are open, without the last one
pub one_closed : (v w : Vec ActiveCall Global) (o : Option ActiveCall) → v.items ≡ w.items ++ option_to_list o → MatchOption o ((vec_len v ≡ 0) × (vec_len w ≡ 0)) (λ _. vec_len w + 1 ≡ vec_len v) → drop 1 (running_of v.items) ≡ running_of w.items
one_closed v w (Some x) e h = ap (λ (l : List ActiveCall). drop 1 (map open_of (reverse l))) e ∙ ap (λ (l : List ActiveCall). drop 1 (map open_of l)) (reverse-append w.items (x ∷ []))
one_closed v w None e h =
    let nil : w.items ≡ [] = nil_from_length w.items (sym w.ok.0 ∙ h.1) in
    ap (λ (l : List ActiveCall). drop 1 (map open_of (reverse l))) (e ∙ ap (λ (l : List ActiveCall). l ++ []) nil) ∙ ap (λ (l : List ActiveCall). map open_of (reverse l)) (sym nil)

-- a call, where so many more may be open
pub call_enters : (env : Env) (n : ℕ) → call env n ≡ enter env (body_runs env n)
unfolding call
call_enters env zero = refl
call_enters env (suc n) = refl

-- a call of a function that was found, behind the names of its file
pub found_calls : (env : Env) (n : ℕ) (label name : List ℕ) (xs : List Val) (ns : KeywordArguments) (here : Here) (f : Fn) (w u : World)
    → need_names env label here w ≡ ended tt u → function_named name (functions_of env label) ≡ Some f → f.name ≡ name
    → call env n label name xs ns here w ≡ calls_on env n label f xs ns here u
found_calls env n label name xs ns here f w u needs found named =
    ap (λ c. c label name xs ns here w) (call_enters env n)
    ∙ rw (needs, found, ← named) refl

-- a call of a name that the file has not
pub no_call : (env : Env) (n : ℕ) (label name : List ℕ) (xs : List Val) (ns : KeywordArguments) (here : Here) (w u : World)
    → need_names env label here w ≡ ended tt u → function_named name (functions_of env label) ≡ None
    → call env n label name xs ns here w ≡ failed 5 here.site
no_call env n label name xs ns here w u needs found =
    ap (λ c. c label name xs ns here w) (call_enters env n) ∙ rw (needs, found) refl

pub needs_stop : (env : Env) (n : ℕ) (label name : List ℕ) (xs : List Val) (ns : KeywordArguments) (here : Here) (w : World) (code : ℕ)
    → need_names env label here w ≡ failed code here.site → call env n label name xs ns here w ≡ failed code here.site
needs_stop env n label name xs ns here w code needs =
    ap (λ c. c label name xs ns here w) (call_enters env n) ∙ rw (needs) refl

-- the body of a function, above a frame that ends the call
pub body_above : (e : Ends s.Exit) (blocks : List Block) (j : Sig → Runs Sig)
    → then_runs (then_runs (then_runs (then_runs e (λ a u. ended a (with_blocks blocks u))) (λ exit. pure (result_of_completion exit))) (λ v. pure (a_value v))) j
    ≡ then_runs (then_runs e (λ exit. pure (an_exit exit))) (λ sig u. then_runs (ended (given_by sig) (with_blocks blocks u)) j)
body_above (ended exit u) blocks j = refl
body_above (failed c site) blocks j = refl
body_above (waits ps) blocks j = refl

-- the body of a function where at least one more call may be open
pub body_goes : (env : Env) (left k : ℕ) (f : Fn) (ps : Block) (within here : Here) → left ≡ suc k
    → body_does (body_runs env left) f ps within here ≡ (in_blocks (function_block f ps ∷ []) (suite env (call env k) f.body within) >>= λ exit. pure (result_of_completion exit))
body_goes env left k f ps within here e = ap (λ n. body_does (body_runs env n) f ps within here) e

-- one more function is open
pub one_opened : (running : List ActiveCall) (open' : ActiveCall) → running_of (running ++ open' ∷ []) ≡ open_of open' ∷ running_of running
one_opened running open' = ap (map open_of) (reverse-append running (open' ∷ []))

-- the same body, where it stands in memory
pub same_body : (env : Env) (n : ℕ) (ss : Suite) (within stands : Here) (w u : World) (blocks : List Block) (j k : Sig → Runs Sig)
    → within ≡ stands → w ≡ u → k ≡ (λ (sig : Sig) (z : World). then_runs (ended (given_by sig) (with_blocks blocks z)) j)
    → then_runs (then_runs (suite env (call env n) ss within w) (λ exit. pure (an_exit exit))) (λ sig z. then_runs (ended (given_by sig) (with_blocks blocks z)) j)
    ≡ then_runs (then_runs (suite env (call env n) ss stands u) (λ exit. pure (an_exit exit))) k
same_body env n ss within stands w u blocks j k place world frames =
    ap (λ (h : Here). then_runs (then_runs (suite env (call env n) ss h w) (λ exit. pure (an_exit exit))) (λ sig z. then_runs (ended (given_by sig) (with_blocks blocks z)) j)) place
    ∙ ap (λ (z : World). then_runs (then_runs (suite env (call env n) ss stands z) (λ exit. pure (an_exit exit))) (λ sig z. then_runs (ended (given_by sig) (with_blocks blocks z)) j)) world
    ∙ ap (λ i. then_runs (then_runs (suite env (call env n) ss stands u) (λ exit. pure (an_exit exit))) i) (sym frames)

-- why a part stops, as a turn
pub goes_stop : (e : Environment) (before : Env → Ends Sig) (path : List ℕ) (line : ℕ) (halt : Halt) (stop : Stop) (m : Machine) (after : Env → Control → Ends Sig) → Stops path line halt stop
    → Under e (λ env. Goes (site_at path line) (before env) (Err halt) (after env)) → Leads e before (Err stop) m
goes_stop e before path line (Code code) (stops.Fault c p l) m after h g = λ more knows. g more knows ∙ ap (λ d. failed d (site_at path line)) (sym h.0) ∙ ap (λ q. failed c (site_at q line)) (sym h.1) ∙ ap (λ i. failed c (site_at p i)) (sym h.2)
goes_stop e before path line (Memory _) (stops.Fault c p l) m after h g = absurd h
goes_stop e before path line (Code code) (stops.Memory _) m after h g = tt
goes_stop e before path line (Memory _) (stops.Memory _) m after h g = tt

-- what a package call ends with, under more answers
pub more_ended : {Q : Asks} (a b : Ends Val) (x : Val) (u : World) → Below Q a b → a ≡ ended x u → b ≡ ended x u
more_ended {Q = Q} (ended y w) b x u p e = p.at ∙ e
more_ended {Q = Q} (failed c site) b x u p e = absurd cc
more_ended {Q = Q} (waits ps) b x u p e = absurd cc

pub more_failed : {Q : Asks} (a b : Ends Val) (c : ℕ) (site : Site) → Below Q a b → a ≡ failed c site → b ≡ failed c site
more_failed {Q = Q} (ended y w) b c site p e = absurd cc
more_failed {Q = Q} (failed d s) b c site p e = p.at ∙ e
more_failed {Q = Q} (waits ps) b c site p e = absurd cc

-- a package call that stops, under more answers
pub package_stops : {Q : Asks} (a b : Ends Val) (halt : Halt) (site : Site) (u : World) (k : Val → Runs Sig) (j : Sig → Runs Sig) (after : Control → Ends Sig) → Below Q a b → EndsAs site a (Err halt) u → Goes site (then_runs (then_runs b k) j) (Err halt) after
package_stops a b (Code c) site u k j after below e = ap (λ o. then_runs (then_runs o k) j) (more_failed a b c site below e)
package_stops a b (Memory _) site u k j after below e = tt

-- the names of a file can't be put on the heap
pub needs_goes : (env : Env) (n : ℕ) (label name : List ℕ) (xs : List Val) (ns : KeywordArguments) (here : Here) (w u : World) (halt : Halt) (k : Val → Runs Sig) (j : Sig → Runs Sig) (after : Control → Ends Sig)
    → Ran {A = Unit {0}} here.site (need_names env label here w) (Err halt) u → Goes here.site (then_runs (then_runs (call env n label name xs ns here w) k) j) (Err halt) after
needs_goes env n label name xs ns here w u (Code c) k j after e = ap (λ o. then_runs (then_runs o k) j) (needs_stop env n label name xs ns here w c e)
needs_goes env n label name xs ns here w u (Memory _) k j after e = tt
