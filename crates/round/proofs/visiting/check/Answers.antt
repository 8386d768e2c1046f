use Rattle.round.proofs.Framing.{frame_phase, checks_no_turn, checks_not_out}
use Rattle.std.proofs.Common.{subst, ℕ, []}
use Rattle.keys.specs.Leaves as leaves
use Rattle.round.proofs.Wanting.{leads_err}
use Rattle.round_nodes.specs.Steps.{HasPhase}
use Rattle.round_nodes.specs.declared.table.Phase.TheVariants as phase
use Rattle.round.proofs.Checking.{passes_all, awaits_found, differs_found, passes_found, set_keeps, passed_whole, passed_out, passed_turns, passed_true, rerun_whole, rerun_out, rerun_turns, rerun_true}
use Rattle.round.proofs.visiting.check.Goals as goal

pub confirm_node-requires-clause-passed : goal.confirm_node-requires-clause-passed
confirm_node-requires-clause-passed c = passes_all c.args.graph.now c.args.table.now c.args.table.now c.args.key.now c.args.passed c.requires.checking c.requires.whole _ c.in_ok-found.ensures c.in-Unchanged.is

pub returns-in-Unchanged-clause-truth : goal.returns-in-Unchanged-clause-truth
returns-in-Unchanged-clause-truth c = c.confirm_node.ensures.truth (leaves.read c.args.tree.now)

pub wait_for_group-requires-clause-awaiting : goal.wait_for_group-requires-clause-awaiting
wait_for_group-requires-clause-awaiting c = awaits_found c.args.graph.now c.args.table.now c.args.table.now c.args.key.now c.args.passed c.requires.checking c.requires.whole _ c.in_ok-found.ensures c.in-NeedsMembers.missing c.in-NeedsMembers.is _ c.as_slice.ensures.value

pub returns-in_ok-restart-in-Changed-clause-whole : goal.returns-in_ok-restart-in-Changed-clause-whole
returns-in_ok-restart-in-Changed-clause-whole c = let f = differs_found c.args.graph.now c.args.table.now c.restart.new.table c.args.key.now c.args.passed c.requires.checking c.requires.whole _ c.in_ok-found.ensures c.in-Changed.is in
    rerun_whole c.args.graph.now c.args.table.now c.restart.new.table c.args.key.now c.args.passed c.requires.checking c.requires.whole f c.in_ok-restart-in-Changed.ensures.readies c.in_ok-restart-in-Changed.ensures.phase

pub returns-in_ok-restart-in-Changed-clause-out : goal.returns-in_ok-restart-in-Changed-clause-out
returns-in_ok-restart-in-Changed-clause-out c = let f = differs_found c.args.graph.now c.args.table.now c.restart.new.table c.args.key.now c.args.passed c.requires.checking c.requires.whole _ c.in_ok-found.ensures c.in-Changed.is in
    rerun_out c.args.graph.now c.args.table.now c.restart.new.table c.args.key.now c.args.passed c.requires.checking c.requires.whole f c.in_ok-restart-in-Changed.ensures.readies c.in_ok-restart-in-Changed.ensures.phase

pub returns-in_ok-restart-in-Changed-clause-turns : goal.returns-in_ok-restart-in-Changed-clause-turns
returns-in_ok-restart-in-Changed-clause-turns c = let f = differs_found c.args.graph.now c.args.table.now c.restart.new.table c.args.key.now c.args.passed c.requires.checking c.requires.whole _ c.in_ok-found.ensures c.in-Changed.is in
    rerun_turns c.args.graph.now c.args.table.now c.restart.new.table c.args.key.now c.args.passed c.requires.checking c.requires.whole f c.in_ok-restart-in-Changed.ensures.readies c.in_ok-restart-in-Changed.ensures.phase

pub returns-in_ok-restart-in-Changed-clause-truth : goal.returns-in_ok-restart-in-Changed-clause-truth
returns-in_ok-restart-in-Changed-clause-truth c = let f = differs_found c.args.graph.now c.args.table.now c.restart.new.table c.args.key.now c.args.passed c.requires.checking c.requires.whole _ c.in_ok-found.ensures c.in-Changed.is in
    rerun_true c.args.graph.now c.args.table.now c.restart.new.table c.args.key.now c.args.passed c.requires.checking c.requires.whole f c.in_ok-restart-in-Changed.ensures.readies c.in_ok-restart-in-Changed.ensures.phase (leaves.read c.args.tree.now)

pub returns-in_ok-pass_groups-in-NextGroup-clause-whole : goal.returns-in_ok-pass_groups-in-NextGroup-clause-whole
returns-in_ok-pass_groups-in-NextGroup-clause-whole c = let f = passes_found c.args.graph.now c.args.table.now c.pass_groups.new.table c.args.key.now c.args.passed c.requires.checking c.requires.whole _ c.in_ok-found.ensures c.in-NextGroup.next c.in-NextGroup.is in
    passed_whole c.args.graph.now c.args.table.now c.pass_groups.new.table c.args.key.now c.args.passed c.requires.checking c.requires.whole f.0 c.in_ok-pass_groups-in-NextGroup.ensures.pends (subst (λ (n : ℕ). HasPhase c.args.table.now.nodes c.pass_groups.new.table.nodes c.args.key.now (phase.Checking n)) f.1 c.in_ok-pass_groups-in-NextGroup.ensures.phase)

pub returns-in_ok-pass_groups-in-NextGroup-clause-out : goal.returns-in_ok-pass_groups-in-NextGroup-clause-out
returns-in_ok-pass_groups-in-NextGroup-clause-out c = let f = passes_found c.args.graph.now c.args.table.now c.pass_groups.new.table c.args.key.now c.args.passed c.requires.checking c.requires.whole _ c.in_ok-found.ensures c.in-NextGroup.next c.in-NextGroup.is in
    passed_out c.args.graph.now c.args.table.now c.pass_groups.new.table c.args.key.now c.args.passed c.requires.checking c.requires.whole f.0 c.in_ok-pass_groups-in-NextGroup.ensures.pends (subst (λ (n : ℕ). HasPhase c.args.table.now.nodes c.pass_groups.new.table.nodes c.args.key.now (phase.Checking n)) f.1 c.in_ok-pass_groups-in-NextGroup.ensures.phase)

pub returns-in_ok-pass_groups-in-NextGroup-clause-turns : goal.returns-in_ok-pass_groups-in-NextGroup-clause-turns
returns-in_ok-pass_groups-in-NextGroup-clause-turns c = let f = passes_found c.args.graph.now c.args.table.now c.pass_groups.new.table c.args.key.now c.args.passed c.requires.checking c.requires.whole _ c.in_ok-found.ensures c.in-NextGroup.next c.in-NextGroup.is in
    passed_turns c.args.graph.now c.args.table.now c.pass_groups.new.table c.args.key.now c.args.passed c.requires.checking c.requires.whole f.0 c.in_ok-pass_groups-in-NextGroup.ensures.pends (subst (λ (n : ℕ). HasPhase c.args.table.now.nodes c.pass_groups.new.table.nodes c.args.key.now (phase.Checking n)) f.1 c.in_ok-pass_groups-in-NextGroup.ensures.phase)

pub returns-in_ok-pass_groups-in-NextGroup-clause-truth : goal.returns-in_ok-pass_groups-in-NextGroup-clause-truth
returns-in_ok-pass_groups-in-NextGroup-clause-truth c = let f = passes_found c.args.graph.now c.args.table.now c.pass_groups.new.table c.args.key.now c.args.passed c.requires.checking c.requires.whole _ c.in_ok-found.ensures c.in-NextGroup.next c.in-NextGroup.is in
    passed_true c.args.graph.now c.args.table.now c.pass_groups.new.table c.args.key.now c.args.passed c.requires.checking c.requires.whole f.0 c.in_ok-pass_groups-in-NextGroup.ensures.pends (subst (λ (n : ℕ). HasPhase c.args.table.now.nodes c.pass_groups.new.table.nodes c.args.key.now (phase.Checking n)) f.1 c.in_ok-pass_groups-in-NextGroup.ensures.phase) (leaves.read c.args.tree.now)

pub returns-in_ok-restart-in-Changed-clause-keeps : goal.returns-in_ok-restart-in-Changed-clause-keeps
returns-in_ok-restart-in-Changed-clause-keeps c =
    set_keeps c.args.graph.now c.args.table.now c.restart.new.table c.args.key.now c.args.passed c.requires.checking c.requires.whole _ c.in_ok-restart-in-Changed.ensures.phase

pub returns-in_ok-pass_groups-in-NextGroup-clause-keeps : goal.returns-in_ok-pass_groups-in-NextGroup-clause-keeps
returns-in_ok-pass_groups-in-NextGroup-clause-keeps c =
    set_keeps c.args.graph.now c.args.table.now c.pass_groups.new.table c.args.key.now c.args.passed c.requires.checking c.requires.whole _ c.in_ok-pass_groups-in-NextGroup.ensures.phase

pub returns-in_ok-restart-in-Changed-clause-frame : goal.returns-in_ok-restart-in-Changed-clause-frame
returns-in_ok-restart-in-Changed-clause-frame c = let k = c.requires.checking in
    frame_phase c.args.graph.now c.args.table.now c.restart.new.table c.args.key.now k.0 k.1 (checks_no_turn k.0 c.args.passed k.2) (checks_not_out k.0 c.args.passed k.2) _ c.in_ok-restart-in-Changed.ensures.phase

pub returns-in_ok-pass_groups-in-NextGroup-clause-frame : goal.returns-in_ok-pass_groups-in-NextGroup-clause-frame
returns-in_ok-pass_groups-in-NextGroup-clause-frame c = let k = c.requires.checking in
    frame_phase c.args.graph.now c.args.table.now c.pass_groups.new.table c.args.key.now k.0 k.1 (checks_no_turn k.0 c.args.passed k.2) (checks_not_out k.0 c.args.passed k.2) _ c.in_ok-pass_groups-in-NextGroup.ensures.phase

pub returns-in_err-wait_for_group-in-NeedsMembers-clause-truth : goal.returns-in_err-wait_for_group-in-NeedsMembers-clause-truth
returns-in_err-wait_for_group-in-NeedsMembers-clause-truth c = λ next. leads_err [] next (leaves.read c.args.tree.now) c.args.graph.now c.wait_for_group.new.graph c.args.table.now c.wait_for_group.new.table c.from_residual-in_err-wait_for_group-in-NeedsMembers.result
    c.from_residual-in_err-wait_for_group-in-NeedsMembers.ensures.0 (λ laws past cs t. c.in_err-wait_for_group-in-NeedsMembers.ensures.truth next laws past cs t)
