-- What a machine that stands in the middle of a file has still to do, in the words of the language's meaning.
--
-- A machine has a control, which is next, and frames, each of which waits for what the part above it ends with: a value,
-- what a target aims at, how a statement ends, or what a comprehension has gathered. Each frame stands for the rest of the
-- definition behind that part: `frame_does` of the frame of a left operand is what the definition does with the operand's
-- value, and so on. A call stands between two frames: what is above `Leave` runs in the function, what is below it in the
-- caller, so the meaning of the frames goes along the calls that are open.
--
-- The blocks of the function that runs are the state's; `Leave` keeps those of the caller, and `EndBlock` ends the block of
-- a comprehension.
use Rattle.std.specs.Prelude.{◌≡◌, ℕ, ◌+◌, Bool, true, false, List, [], ◌∷◌, ◌++◌, length, drop, map, reverse, Result, Ok, Err}
use Rattle.std.specs.declared.vec.Vec.{Vec}
use Rattle.std.specs.declared.alloc.Global.{Global}
use Rattle.std.specs.declared.sync.Arc.{Arc}
use Rattle.std.specs.Arc.{arc_value}
use Rattle.syntax_tree.specs.Tree as t
use Rattle.syntax_tree.specs.Tree.{Ex, Exs, Bound, Clauses, Suite, Branches, Pa, Fn, Tp}
use Rattle.syntax_tree.specs.declared.expr.BinaryOp.{BinaryOp}
use Rattle.syntax_tree.specs.declared.expr.UnaryOp.{UnaryOp}
use Rattle.syntax_tree.specs.declared.expr.BinaryOp.TheVariants as o
use Rattle.syntax_tree.specs.declared.expr.Expr.{Expr}
use Rattle.syntax_tree.specs.declared.stmt.Stmt.{Stmt}
use Rattle.syntax_tree.specs.declared.stmt.Branch.{Branch}
use Rattle.syntax_tree.specs.declared.def.Def.{Def}
use Rattle.syntax_tree.specs.declared.def.File.{File}
use Rattle.syntax_tree.specs.View.{trees_of, shared_tree, bound_tree, clause_trees}
use Rattle.syntax_tree.specs.Statements.{stmts_of, branch_trees, fn_of, top_of, param_of}
use Rattle.values_semantics.specs.declared.val.Val.{Val}
use Rattle.values_semantics.specs.Heap.{Entries, makes, function, makes_list, makes_tuple, makes_dict, at}
use Rattle.values_semantics.specs.Indexing.{index, slice}
use Rattle.values_semantics.specs.Binary.{binary}
use Rattle.values_semantics.specs.Functions.{builtin}
use Rattle.values_semantics.specs.Methods.{method}
use Rattle.values_objects.specs.declared.halt.Halt.{Halt}
use Rattle.values_objects.specs.declared.halt.Halt.TheVariants.{Code, Memory}
use Rattle.evaluator_semantics.specs.World.{Site, Here, at_line, Ends, ended, failed, Runs, ◌>>=◌, pure, fault, on_heap, tick, by_truth, in_block, with_blocks, without_block}
use Rattle.evaluator_semantics.specs.Names.{new_block, clause_names, bind}
use Rattle.evaluator_semantics.specs.Environment.{Env}
use Rattle.evaluator_semantics.specs.Arguments.{plain_part, named_part}
use Rattle.evaluator_semantics.specs.Targets as ta
use Rattle.evaluator_semantics.specs.Targets.{to_member, to_each, store}
use Rattle.evaluator_semantics.specs.Packages.{package_call}
use Rattle.evaluator_semantics.specs.Loops as l
use Rattle.evaluator_semantics.specs.Loops.{nothing_yet, one_more, one_entry, gather, over, unlocks}
use Rattle.evaluator_semantics.specs.Expressions as e
use Rattle.evaluator_semantics.specs.Expressions.{Call, unary, between, comprehension, operator_of, fresh, call_object, apply, apply_method, on_receiver, value, values, each_value, entries, bound_value, aim, aims, clauses}
use Rattle.evaluator_semantics.specs.Statements as s
use Rattle.evaluator_semantics.specs.Statements.{goes_on, breaks, continues, returns, unless_over, augmented_sum, augmented_value, present, after_turn, turns, turn, exec, suite, first_true}
use Rattle.evaluator_semantics.specs.Calls.{call, result_of_completion}
use Rattle.evaluator_semantics.specs.Files.{keep_defaults}
use Rattle.evaluator_state.specs.View.{block_view, here_of}
use Rattle.evaluator_state.specs.AimView.{before, aim_of, gathered_of}
pub use Rattle.evaluator_direct.specs.StatementResults.{first_line, stmt_line}
use Rattle.evaluator_frames.specs.declared.frame.Exit.{Exit}
use Rattle.evaluator_frames.specs.declared.frame.Exit.TheVariants as x
use Rattle.evaluator_frames.specs.declared.frame.Signal.{Signal}
use Rattle.evaluator_frames.specs.declared.frame.Signal.TheVariants as g
use Rattle.evaluator_frames.specs.declared.frame.Receiver.{Receiver}
use Rattle.evaluator_frames.specs.declared.frame.Receiver.TheVariants as r
use Rattle.evaluator_frames.specs.declared.frame.Purpose.{Purpose}
use Rattle.evaluator_frames.specs.declared.frame.Purpose.TheVariants as p
use Rattle.evaluator_frames.specs.declared.frame.Item.{Item}
use Rattle.evaluator_frames.specs.declared.frame.Item.TheVariants as i
use Rattle.evaluator_frames.specs.declared.frame.Comprehension.{Comprehension}
use Rattle.evaluator_frames.specs.declared.frame.Turns.{Turns}
use Rattle.evaluator_frames.specs.declared.frame.Gathering.{Gathering}
use Rattle.evaluator_frames.specs.declared.frame.Frame.{Frame}
use Rattle.evaluator_frames.specs.declared.frame.Frame.TheVariants as f
use Rattle.evaluator_frames.specs.declared.frame.Control.{Control}
use Rattle.evaluator_frames.specs.declared.frame.Control.TheVariants as c

-- ---- signals

pub data Sig : Type 0 where
  a_value : Val → Sig
  an_aim : ta.Aim → Sig
  an_exit : s.Exit → Sig
  a_gathered : l.Collection → Sig

abbrev pub exit_of : Exit → s.Exit
exit_of x.GoesOn = goes_on
exit_of x.Breaks = breaks
exit_of x.Continues = continues
exit_of (x.Returns v) = returns v

abbrev pub sig_of : Signal → Sig
sig_of (g.Value v) = a_value v
sig_of (g.Aim a) = an_aim (aim_of a)
sig_of (g.Exit exit) = an_exit (exit_of exit)
sig_of (g.Gathered got) = a_gathered (gathered_of got.value)

abbrev pub valued : Runs Val → Runs Sig
valued m = m >>= λ v. pure (a_value v)

abbrev pub aimed : Runs ta.Aim → Runs Sig
aimed m = m >>= λ a. pure (an_aim a)

abbrev pub exited : Runs s.Exit → Runs Sig
exited m = m >>= λ exit. pure (an_exit exit)

abbrev pub gathered : Runs l.Collection → Runs Sig
gathered m = m >>= λ got. pure (a_gathered got)

-- A frame waits for signals of one kind. Any other signal passes it by, and goes to the frame below.
abbrev pub on_value : (Val → Runs Sig) → Sig → Runs Sig
on_value k (a_value v) = k v
on_value k sig = pure sig

abbrev pub on_aim : (ta.Aim → Runs Sig) → Sig → Runs Sig
on_aim k (an_aim a) = k a
on_aim k sig = pure sig

abbrev pub on_exit : (s.Exit → Runs Sig) → Sig → Runs Sig
on_exit k (an_exit exit) = k exit
on_exit k sig = pure sig

abbrev pub on_gathered : (l.Collection → Runs Sig) → Sig → Runs Sig
on_gathered k (a_gathered got) = k got
on_gathered k sig = pure sig

-- what a call gives its caller, by the signal that its body ends with
abbrev pub given_by : Sig → Sig
given_by (an_exit exit) = a_value (result_of_completion exit)
given_by sig = sig

-- ---- operands

-- the second operand, behind the first
abbrev pub right : BinaryOp → Val → Runs Val → Here → Runs Val
right o.Or x second here = by_truth x (pure x) second
right o.And x second here = by_truth x second (pure x)
right op x second here = second >>= λ y. on_heap here (binary (operator_of op) x y)

abbrev pub receiver_of : Receiver → e.Receiver
receiver_of r.Native = e.native
receiver_of (r.Of x) = e.receiver x

abbrev pub shared_trees : Arc (Vec Expr Global) Global → Exs
shared_trees es = trees_of (arc_value es).items

-- those from a place on
abbrev pub trees_from : ℕ → Arc (Vec Expr Global) Global → Exs
trees_from n es = trees_of (drop n (arc_value es).items)

abbrev pub clauses_from : ℕ → Comprehension → Clauses
clauses_from n comp = clause_trees (drop n (arc_value comp.clauses).items)

abbrev pub shared_suite : Arc (Vec Stmt Global) Global → Suite
shared_suite ss = stmts_of (arc_value ss).items

abbrev pub suite_from : ℕ → Arc (Vec Stmt Global) Global → Suite
suite_from n ss = stmts_of (drop n (arc_value ss).items)

abbrev pub branches_from : ℕ → Arc (Vec Branch Global) Global → Branches
branches_from n bs = branch_trees (drop n (arc_value bs).items)

-- the line of a statement of a file
abbrev pub top_line : Tp → ℕ
top_line (t.stmt st) = stmt_line st
top_line (t.def f) = f.line

abbrev pub tops_line : List Tp → ℕ
tops_line [] = 0
tops_line (x ∷ xs) = top_line x

-- the statements of a file from a place on
abbrev pub tops_at : ℕ → Arc File Global → List Tp
tops_at n file = map top_of (drop n (arc_value file).tops.items)

-- the parameters of a function from a place on
abbrev pub params_at : ℕ → Arc Def Global → List Pa
params_at n def = map param_of (drop n (arc_value def).params.items)

-- the line of the statement that is next
abbrev pub suite_line : Suite → ℕ
suite_line t.no_more = 0
suite_line (t.next st ss) = stmt_line st

-- ---- what is left of each form; `n` more calls may be open, and `here` is where the function that runs stands

module _ (env : Env) (n : ℕ) (here : Here) where
  abbrev pub on : ℕ → Here
  on line = at_line line here

  abbrev pub ex : Ex → ℕ → Runs Val
  ex e line = value env (call env n) e (on line)

  abbrev pub body : Suite → Runs s.Exit
  body ss = suite env (call env n) ss here

  abbrev pub aims_at : Ex → ℕ → Runs ta.Aim
  aims_at e line = aim env (call env n) e (on line)

  abbrev pub use_items : Purpose → List Val → ℕ → Runs Val
  use_items p.Tuple xs line = on_heap (on line) (makes_tuple xs)
  use_items p.List xs line = on_heap (on line) (makes_list xs)
  use_items (p.Call g names) xs line = apply env (call env n) g (plain_part xs (arc_value names).items) (named_part xs (arc_value names).items) (on line)
  use_items (p.Method r name names) xs line = apply_method env (receiver_of r) name (plain_part xs (arc_value names).items) (named_part xs (arc_value names).items) (on line)

  -- the items that are left, behind those done
  abbrev pub items_from : Purpose → Exs → List Val → ℕ → Runs Val
  items_from p es done line = values env (call env n) es (on line) >>= λ xs. use_items p (done ++ xs) line

  -- the upper bound of a slice, and the slice
  abbrev pub sliced : Val → Val → Bound → ℕ → Runs Val
  sliced v y j line = bound_value env (call env n) j (on line) >>= λ z. on_heap (on line) (slice v y z)

  -- both bounds of a slice, and the slice
  abbrev pub sliced_from : Val → Bound → Bound → ℕ → Runs Val
  sliced_from v i j line = bound_value env (call env n) i (on line) >>= λ y. sliced v y j line

  -- the entries that are left, behind those done
  abbrev pub entries_from : Exs → Exs → Entries → ℕ → Runs Val
  entries_from ks vs done line = entries env (call env n) ks (each_value env (call env n) vs (on line)) done (on line) >>= λ found. on_heap (on line) (makes_dict found)

  -- behind a key and its value: the entry, and the entries behind it
  abbrev pub entry_set : Val → Val → Exs → Exs → Entries → ℕ → Runs Entries
  entry_set k y ks vs done line = fresh k y done (on line) >>= λ more. entries env (call env n) ks (each_value env (call env n) vs (on line)) more (on line)

  -- behind a key: its value and the entries behind it; where no value is left there are no more entries
  abbrev pub entry_from : Val → Exs → Exs → Entries → ℕ → Runs Val
  entry_from k t.no_exs ks done line = on_heap (on line) (makes_dict done)
  entry_from k (t.ex e vs) ks done line = (ex e line >>= λ y. entry_set k y ks vs done line) >>= λ found. on_heap (on line) (makes_dict found)

  abbrev pub aims_from : Exs → List ta.Aim → ℕ → Runs ta.Aim
  aims_from es done line = aims env (call env n) es (on line) >>= λ more. pure (to_each (before done more))

  abbrev pub turn_of : Turns → Val → Runs s.Exit
  turn_of u = turn env (call env n) (shared_tree u.target) (body (shared_suite u.body)) (on u.line)

  -- the turns behind one that ended, and the end of the loop
  abbrev pub turns_behind : Turns → s.Exit → Runs s.Exit
  turns_behind u exit = after_turn exit (turns (turn_of u) (drop u.next u.items.items)) >>= λ a. on_heap (on u.line) (unlocks u.over) >>= λ _. pure a

  abbrev pub item_does : Item → ℕ → l.Collection → Runs l.Collection
  item_does (i.Member e) line got = ex (shared_tree e) line >>= λ x. one_more x got (on line)
  item_does (i.Entry k e) line got = ex (shared_tree k) line >>= λ x. ex (shared_tree e) line >>= λ y. one_entry x y got (on line)

  -- the clauses of a comprehension from a place on
  abbrev pub clauses_do : Comprehension → ℕ → ℕ → l.Collection → Runs l.Collection
  clauses_do comp inner line = clauses env (call env n) (clauses_from inner comp) (item_does comp.item line) (on line)

  abbrev pub gather_turn : Ex → Comprehension → ℕ → ℕ → Val → l.Collection → Runs l.Collection
  gather_turn target comp inner line y got = tick (on line) >>= λ _. aims_at target line >>= λ a. store a y (on line) >>= λ _. clauses_do comp inner line got

  -- the turns of a clause that are left, and the end of its going over
  abbrev pub gather_from : Gathering → l.Collection → Runs l.Collection
  gather_from u got = gather (gather_turn (shared_tree u.target) (arc_value u.of) u.inner u.line) (drop u.next u.items.items) got >>= λ a. on_heap (on u.line) (unlocks u.over) >>= λ _. pure a

  -- a call of a method: the receiver, the arguments, the call
  abbrev pub method_does : Ex → List ℕ → Exs → List (List ℕ) → ℕ → Runs Val
  method_does e name es names line = on_receiver e (ex e line) (on line) >>= λ r. values env (call env n) es (on line) >>= λ xs. apply_method env r name (plain_part xs names) (named_part xs names) (on line)

  -- the other forms with parts, behind the step that each takes
  abbrev pub unary_does : UnaryOp → Ex → ℕ → Runs Val
  unary_does op a line = ex a line >>= λ v. unary op v (on line)

  abbrev pub binary_does : BinaryOp → Ex → Ex → ℕ → Runs Val
  binary_does op a b line = between op (ex a line) (ex b line) (on line)

  abbrev pub choice_does : Ex → Ex → Ex → ℕ → Runs Val
  choice_does a condition b line = ex condition line >>= λ v. by_truth v (ex a line) (ex b line)

  abbrev pub index_does : Ex → Ex → ℕ → Runs Val
  index_does a i line = ex a line >>= λ v. ex i line >>= λ y. on_heap (on line) (index v y)

  abbrev pub slice_does : Ex → Bound → Bound → ℕ → Runs Val
  slice_does a i j line = ex a line >>= λ v. sliced_from v i j line

  abbrev pub call_does : Ex → Exs → List (List ℕ) → ℕ → Runs Val
  call_does f es names line = ex f line >>= λ g. values env (call env n) es (on line) >>= λ xs. apply env (call env n) g (plain_part xs names) (named_part xs names) (on line)

  abbrev pub list_of_does : Ex → Clauses → ℕ → Runs Val
  list_of_does e cs line = comprehension env (call env n) cs (λ got. ex e line >>= λ x. one_more x got (on line)) (on line) >>= λ got. on_heap (on line) (makes_list got.members)

  abbrev pub dict_of_does : Ex → Ex → Clauses → ℕ → Runs Val
  dict_of_does k e cs line = comprehension env (call env n) cs (λ got. ex k line >>= λ x. ex e line >>= λ y. one_entry x y got (on line)) (on line) >>= λ got. on_heap (on line) (makes_dict got.entries)

  -- a comprehension, whose first clause goes over a value
  abbrev pub first_does : Ex → Comprehension → ℕ → Val → Runs l.Collection
  first_does target comp line v = in_block (new_block (clause_names (clause_trees (arc_value comp.clauses).items))) (over v (λ xs. gather (gather_turn target comp 1 line) xs nothing_yet) (on line))

  -- a further clause, which goes over a value
  abbrev pub each_does : Ex → Comprehension → ℕ → ℕ → l.Collection → Val → Runs l.Collection
  each_does target comp inner line got v = over v (λ xs. gather (gather_turn target comp inner line) xs got) (on line)

  -- an assignment, behind its right side
  abbrev pub assigned : Ex → Val → ℕ → Runs Sig
  assigned target v line = exited (aims_at target line >>= λ a. store a v (on line) >>= λ _. pure goes_on)

  -- an augmented assignment, behind the target's value and its right side
  abbrev pub changes : BinaryOp → ta.Aim → Val → Val → ℕ → Runs Sig
  changes op a v y line = exited (augmented_value op v y (on line) >>= λ z. store a z (on line) >>= λ _. pure goes_on)

  -- the value of a default, before those behind it
  abbrev pub default_one : Bound → ℕ → Runs (List Val) → Runs (List Val)
  default_one t.no_bound line rest = rest
  default_one (t.bound e) line rest = ex e line >>= λ x. rest >>= λ xs. pure (x ∷ xs)

  -- the values of the defaults of parameters
  abbrev pub defaults_from : List Pa → ℕ → Runs (List Val)
  defaults_from [] line = pure []
  defaults_from (p ∷ ps) line = default_one p.default line (defaults_from ps line)

  -- a function is made, its defaults are kept, and its name is bound
  abbrev pub defined : Fn → List Val → ℕ → Runs s.Exit
  defined f xs line = on_heap (on line) (makes (function here.label f.name)) >>= λ x. keep_defaults here.label f.name xs >>= λ _. bind f.name x (on line) >>= λ _. pure goes_on

  -- the same, behind the defaults that are left
  abbrev pub defines : Fn → List Pa → List Val → ℕ → Runs s.Exit
  defines f ps done line = defaults_from ps line >>= λ xs. defined f (done ++ xs) line

  abbrev pub top_does : Tp → Runs s.Exit
  top_does (t.stmt st) = exec env (call env n) st here
  top_does (t.def f) = tick (on f.line) >>= λ _. defines f f.params [] f.line

  -- the statements of a file
  abbrev pub tops_do : List Tp → Runs s.Exit
  tops_do [] = pure goes_on
  tops_do (x ∷ xs) = top_does x >>= λ _. tops_do xs

  -- what a frame does with the signal that it waits for
  abbrev pub frame_does : Frame → Sig → Runs Sig
  frame_does (f.Items line s) = on_value λ v. valued (items_from s.value.purpose (trees_from (length s.value.done.items + 1) s.value.items) (s.value.done.items ++ v ∷ []) line)
  frame_does (f.Key line pairs next) = on_value λ k. valued (entry_from k (trees_from next pairs.value.values) (trees_from (next + 1) pairs.value.keys) pairs.value.done.entries line)
  frame_does (f.Entry line pairs next k) = on_value λ y. valued (entry_set k y (trees_from next pairs.value.keys) (trees_from next pairs.value.values) pairs.value.done.entries line >>= λ found. on_heap (on line) (makes_dict found))
  frame_does (f.Unary line op) = on_value λ v. valued (unary op v (on line))
  frame_does (f.Right line op b) = on_value λ v. valued (right op v (ex (shared_tree b) line) (on line))
  frame_does (f.Both line op v) = on_value λ y. valued (on_heap (on line) (binary (operator_of op) v y))
  frame_does (f.Choice line a b) = on_value λ v. valued (by_truth v (ex (shared_tree a) line) (ex (shared_tree b) line))
  frame_does (f.Indexed line i) = on_value λ v. valued (ex (shared_tree i) line >>= λ y. on_heap (on line) (index v y))
  frame_does (f.Index line v) = on_value λ y. valued (on_heap (on line) (index v y))
  frame_does (f.Sliced line i j) = on_value λ v. valued (sliced_from v (bound_tree i) (bound_tree j) line)
  frame_does (f.From line v j) = on_value λ y. valued (sliced v y (bound_tree j) line)
  frame_does (f.To line v y) = on_value λ z. valued (on_heap (on line) (slice v y z))
  frame_does (f.Called line es names) = on_value λ g. valued (items_from (p.Call g names) (shared_trees es) [] line)
  frame_does (f.On line name es names) = on_value λ v. valued (items_from (p.Method (r.Of v) name names) (shared_trees es) [] line)
  frame_does (f.Container line i) = on_value λ v. aimed (ex (shared_tree i) line >>= λ y. pure (to_member v y))
  frame_does (f.Member line v) = on_value λ y. pure (an_aim (to_member v y))
  frame_does (f.Aims line es done) = on_aim λ a. aimed (aims_from (trees_from (length done.items + 1) es) (map aim_of done.items ++ a ∷ []) line)
  frame_does f.Discard = on_value λ v. pure (an_exit goes_on)
  frame_does (f.Assign line target) = on_value λ v. assigned (shared_tree target) v line
  frame_does (f.Store line v) = on_aim λ a. exited (store a v (on line) >>= λ _. pure goes_on)
  frame_does (f.Augment line op e) = on_aim λ a. exited (present a (on line) >>= λ v. ex (shared_tree e) line >>= λ y. augmented_value op v y (on line) >>= λ z. store a z (on line) >>= λ _. pure goes_on)
  frame_does (f.Change line op a v) = on_value λ y. changes op (aim_of a.value) v y line
  frame_does f.Return = on_value λ v. pure (an_exit (returns v))
  frame_does (f.Branch ss bs next other) = on_value λ v. exited (by_truth v (body (shared_suite ss)) (first_true env (call env n) (branches_from next bs) (body (shared_suite other)) here))
  frame_does (f.For line target ss) = on_value λ v. exited (over v (turns (turn env (call env n) (shared_tree target) (body (shared_suite ss)) (on line))) (on line))
  frame_does (f.Turn u v) = on_aim λ a. exited ((store a v (on u.value.line) >>= λ _. body (shared_suite u.value.body)) >>= turns_behind u.value)
  frame_does (f.Turns u) = on_exit λ exit. exited (turns_behind u.value exit)
  frame_does (f.Rest ss next) = on_exit λ exit. exited (unless_over exit (body (suite_from next ss)))
  frame_does (f.Leave caller) = λ sig w. ended (given_by sig) (with_blocks (map block_view caller.value.blocks.items) w)
  frame_does (f.First line target comp) = on_value λ v. gathered (first_does (shared_tree target) (arc_value comp) line v)
  frame_does (f.Each line target comp inner got) = on_value λ v. gathered (each_does (shared_tree target) (arc_value comp) inner line (gathered_of got.value) v)
  frame_does (f.Only line comp inner got) = on_value λ v. gathered (by_truth v (clauses_do (arc_value comp) inner line (gathered_of got.value)) (pure (gathered_of got.value)))
  frame_does (f.Aimed u v got) = on_aim λ a. gathered ((store a v (on u.value.line) >>= λ _. clauses_do (arc_value u.value.of) u.value.inner u.value.line (gathered_of got.value)) >>= gather_from u.value)
  frame_does (f.Gather u) = on_gathered λ got. gathered (gather_from u.value got)
  frame_does (f.OneMore line got) = on_value λ v. gathered (one_more v (gathered_of got.value) (on line))
  frame_does (f.OneKey line e got) = on_value λ k. gathered (ex (shared_tree e) line >>= λ y. one_entry k y (gathered_of got.value) (on line))
  frame_does (f.OneEntry line k got) = on_value λ y. gathered (one_entry k y (gathered_of got.value) (on line))
  frame_does f.EndBlock = on_gathered λ got w. ended (a_gathered got) (without_block w)
  frame_does (f.MakeList line) = on_gathered λ got. valued (on_heap (on line) (makes_list got.members))
  frame_does (f.MakeDict line) = on_gathered λ got. valued (on_heap (on line) (makes_dict got.entries))
  frame_does (f.Default line def next done) = on_value λ v. exited (defines (fn_of (arc_value def)) (params_at next def) (done.items ++ v ∷ []) line)
  frame_does (f.Tops file next) = on_exit λ exit. exited (tops_do (tops_at next file))

-- the line of the statement that a frame stands in
abbrev pub frame_line : ℕ → Frame → ℕ
frame_line base (f.Items line s) = line
frame_line base (f.Key line pairs next) = line
frame_line base (f.Entry line pairs next k) = line
frame_line base (f.Unary line op) = line
frame_line base (f.Right line op b) = line
frame_line base (f.Both line op v) = line
frame_line base (f.Choice line a b) = line
frame_line base (f.Indexed line i) = line
frame_line base (f.Index line v) = line
frame_line base (f.Sliced line i j) = line
frame_line base (f.From line v j) = line
frame_line base (f.To line v y) = line
frame_line base (f.Called line es names) = line
frame_line base (f.On line name es names) = line
frame_line base (f.Container line i) = line
frame_line base (f.Member line v) = line
frame_line base (f.Aims line es done) = line
frame_line base (f.Assign line target) = line
frame_line base (f.Store line v) = line
frame_line base (f.Augment line op e) = line
frame_line base (f.Change line op a v) = line
frame_line base (f.For line target ss) = line
frame_line base (f.Turn u v) = u.value.line
frame_line base (f.Turns u) = u.value.line
frame_line base (f.First line target comp) = line
frame_line base (f.Each line target comp inner got) = line
frame_line base (f.Only line comp inner got) = line
frame_line base (f.Aimed u v got) = u.value.line
frame_line base (f.Gather u) = u.value.line
frame_line base (f.OneMore line got) = line
frame_line base (f.OneKey line e got) = line
frame_line base (f.OneEntry line k got) = line
frame_line base (f.MakeList line) = line
frame_line base (f.MakeDict line) = line
frame_line base (f.Default line def next done) = line
frame_line base frame = base

-- a frame that ends a call
abbrev pub is_leave : Frame → Bool
is_leave (f.Leave caller) = true
is_leave frame = false

-- ---- the frames, along the calls that are open

-- how many more calls may be open below a frame, and where what is below it stands
abbrev pub calls_below : Frame → ℕ → ℕ
calls_below (f.Leave caller) n = caller.value.left
calls_below frame n = n

abbrev pub here_below : Frame → Here → Here
here_below (f.Leave caller) here = here_of caller.value.at caller.value.at.line (drop 1 here.running)
here_below frame here = here

-- all frames below, the topmost first
abbrev pub frames_do : Env → ℕ → Here → List Frame → Sig → Runs Sig
frames_do env n here [] = pure
frames_do env n here (frame ∷ frames) = λ sig. frame_does env n here frame sig >>= frames_do env (calls_below frame n) (here_below frame here) frames

-- the frames of a machine, of which the last is the topmost
unfoldable pub stack_does : Env → ℕ → Here → List Frame → Sig → Runs Sig
stack_does env n here frames = frames_do env n here (reverse frames)

-- ---- what is next

module _ (env : Env) (n : ℕ) (here : Here) where
  abbrev pub control_does : Control → Runs Sig
  control_does (c.Signal sig) = pure (sig_of sig)
  control_does (c.Eval line e) = valued (ex env n here (shared_tree e) line)
  control_does (c.Items line s) = valued (items_from env n here s.value.purpose (trees_from (length s.value.done.items) s.value.items) s.value.done.items line)
  control_does (c.Entries line pairs next) = valued (entries_from env n here (trees_from next pairs.value.keys) (trees_from next pairs.value.values) pairs.value.done.entries line)
  control_does (c.Aim line e) = aimed (aims_at env n here (shared_tree e) line)
  control_does (c.Aims line es done) = aimed (aims_from env n here (trees_from (length done.items) es) (map aim_of done.items) line)
  control_does (c.Suite ss next) = exited (body env n here (suite_from next ss))
  control_does (c.Branches bs next other) = exited (first_true env (call env n) (branches_from next bs) (body env n here (shared_suite other)) here)
  control_does (c.Turns u) = exited (turns_behind env n here u.value goes_on)
  control_does (c.Clauses line comp inner got) = gathered (clauses_do env n here (arc_value comp) inner line (gathered_of got.value))
  control_does (c.Gather u got) = gathered (gather_from env n here u.value (gathered_of got.value))
  control_does (c.First line target comp v) = gathered (first_does env n here (shared_tree target) (arc_value comp) line v)
  control_does (c.Enter line place xs names) = valued (λ w. call_object (call env n) (at place w.store) (plain_part xs.items (arc_value names).items) (named_part xs.items (arc_value names).items) (at_line line here) w)
  control_does (c.Builtin line g xs names) = valued (on_heap (at_line line here) (builtin g (plain_part xs.items (arc_value names).items) (named_part xs.items (arc_value names).items)))
  control_does (c.Method line call) = valued (on_heap (at_line line here) (method call.value.receiver call.value.name (plain_part call.value.arguments.items (arc_value call.value.names).items) (named_part call.value.arguments.items (arc_value call.value.names).items)))
  control_does (c.Package line g xs names) = valued (package_call env g (plain_part xs.items (arc_value names).items) (named_part xs.items (arc_value names).items) (at_line line here))
  control_does (c.Tops file next) = exited (tops_do env n here (tops_at next file))
  control_does (c.Defaults line def next done) = exited (defines env n here (fn_of (arc_value def)) (params_at next def) done.items line)
  control_does (c.Define line def xs) = exited (defined env n here (fn_of (arc_value def)) xs.items line)
  control_does (c.Fault line code) = fault code (at_line line here)
  control_does (c.Add line a x y) = exited (on_heap (at_line line here) (augmented_sum x y) >>= λ z. store (aim_of a.value) z (at_line line here) >>= λ _. pure goes_on)

  -- a piece, with the frames below it
  abbrev pub above : Runs Sig → List Frame → Runs Sig
  above m frames = m >>= stack_does env n here frames

  -- what a machine means
  abbrev pub machine_does : Control → List Frame → Runs Sig
  machine_does control frames = above (control_does control) frames

-- the line of the statement that a control stands in
abbrev pub control_line : ℕ → Control → ℕ
control_line base (c.Signal sig) = base
control_line base (c.Eval line e) = line
control_line base (c.Items line s) = line
control_line base (c.Entries line pairs next) = line
control_line base (c.Aim line e) = line
control_line base (c.Aims line es done) = line
control_line base (c.Suite ss next) = suite_line (suite_from next ss)
control_line base (c.Branches bs next other) = first_line (branches_from next bs)
control_line base (c.Turns u) = u.value.line
control_line base (c.Clauses line comp inner got) = line
control_line base (c.Gather u got) = u.value.line
control_line base (c.First line target comp v) = line
control_line base (c.Enter line place xs names) = line
control_line base (c.Builtin line g xs names) = line
control_line base (c.Method line call) = line
control_line base (c.Package line g xs names) = line
control_line base (c.Add line a x y) = line
control_line base (c.Tops file next) = tops_line (tops_at next file)
control_line base (c.Defaults line def next done) = line
control_line base (c.Define line def xs) = line
control_line base (c.Fault line code) = line

-- what goes on within a function or a file, and calls nothing
abbrev pub is_within : Control → Bool
is_within (c.Signal sig) = false
is_within (c.First line target comp v) = false
is_within (c.Enter line place xs names) = false
is_within (c.Builtin line g xs names) = false
is_within (c.Method line call) = false
is_within (c.Package line g xs names) = false
is_within (c.Add line a x y) = false
is_within (c.Define line def xs) = false
is_within control = true

-- how far a part of a step leads: to a control that means the same, or to a fault
abbrev pub Goes : Site → Ends Sig → Result Control Halt → (Control → Ends Sig) → Type 0
Goes site before (Ok control) after = before ≡ after control
Goes site before (Err (Code c)) after = before ≡ failed c site
Goes site before (Err (Memory _)) after = Unit {0}
