-- An evaluation that waits may go to another thread.
-- A type that no ring is below has its lemmas from the kit, as `Val.TheSendSync`. They are cited by name, so that no search goes through those types again.
use denote.Enum.Declared.{shape}
use denote.Param.Send.{IsSend, IsSync, enum_send, recorded_send, sendable}
use Rattle.std.proofs.Crossing.{crosses, frees}
use Rattle.std.proofs.alloc.Global.TheSendSync as GlobalSends
use Rattle.std.proofs.hash.BuildHasherDefault.TheSendSync as BuilderSends
use Rattle.std.proofs.hash.FoldHasher.TheSendSync as HasherSends
use Rattle.std.specs.contracts.alloc.Global
use Rattle.std.specs.contracts.hash.BuildHasherDefault as Builder
use Rattle.std.specs.contracts.hash.FoldHasher as Hasher
use Rattle.std.specs.contracts.impls.GlobalAllocator.TheImpl as Heap
use Rattle.indexmap.proofs.map.IndexMap.TheSendSync as IndexMapSends
use Rattle.indexmap.specs.contracts.map.IndexMap
use Rattle.base_types.proofs.text.Text.TheSendSync as TextSends
use Rattle.values_semantics.proofs.key.Key.TheSendSync as KeySends
use Rattle.values_semantics.proofs.builtin.Builtin.TheSendSync as BuiltinSends
use Rattle.values_semantics.proofs.val.Entry.TheSendSync as EntrySends
use Rattle.values_semantics.proofs.val.Val.TheSendSync as ValSends
use Rattle.values_semantics.specs.contracts.key.Key
use Rattle.values_semantics.specs.contracts.val.Entry
use Rattle.syntax_tree.proofs.expr.BinaryOp.TheSendSync as BinarySends
use Rattle.syntax_tree.proofs.expr.UnaryOp.TheSendSync as UnarySends
use Rattle.values_freeze.proofs.frozen.Frozen.TheLaws.TheKnot as frozen
use Rattle.values_freeze.proofs.laid.Layout.TheSendSync as LaidSends
use Rattle.values_freeze.specs.contracts.value.FrozenValue
use Rattle.values_modules.specs.contracts.bindings.Function
use Rattle.values_modules.proofs.functions.Index.TheSendSync as IndexSends
use Rattle.values_modules.specs.contracts.functions.Functions
use Rattle.values_modules.specs.contracts.modules.ModuleValue
use Rattle.values_modules.specs.contracts.modules.Module
use Rattle.evaluator_state.proofs.state.Position.TheSendSync as StandingSends
use Rattle.evaluator_state.proofs.lvalues.LValue.TheLaws.TheKnot as aims
use Rattle.evaluator_state.proofs.gathering.Collection.TheSendSync as CollectionSends
use Rattle.evaluator_state.specs.contracts.lvalues.LValue
use Rattle.evaluator_calls.proofs.functions.ActiveCall.TheSendSync as OpenSends
use Rattle.evaluator_calls.proofs.module_table.Index.TheSendSync as LabelsSends
use Rattle.evaluator_calls.specs.contracts.module_table.ModuleTable
use Rattle.evaluator_package_calls.proofs.kinds.Package.TheSendSync as PackageSends
use Rattle.evaluator_frames.proofs.frame.Exit.TheSendSync as ExitSends
use Rattle.evaluator_frames.proofs.frame.Purpose.TheSendSync as PurposeSends
use Rattle.evaluator_frames.specs.contracts.frame.Comprehension
use Rattle.evaluator_frames.specs.contracts.frame.Control
use Rattle.evaluator_frames.specs.contracts.frame.Frame
use Rattle.evaluator_frames.specs.contracts.frame.Gathering
use Rattle.evaluator_frames.specs.contracts.frame.MethodCall
use Rattle.evaluator_frames.specs.contracts.frame.Signal
use Rattle.evaluator_frames.specs.contracts.frame.Turns
use Rattle.evaluator.proofs.Blocks.{block_send, state_field_send}
use Rattle.evaluator.proofs.Trees.{trees_cross}
use Rattle.evaluator.specs.contracts.machine.Environment
use Rattle.evaluator.specs.contracts.machine.Machine
use Rattle.evaluator.specs.contracts.outcome.Parts
use Rattle.evaluator.specs.contracts.outcome.Suspended
use Rattle.evaluator.specs.contracts.setting.Tables

-- modules
frozen_send : IsSend FrozenValue.the_row
frozen_send = search (LaidSends.the_send, LaidSends.the_sync, TextSends.the_send, TextSends.the_sync, crosses, frozen.crosses_both, sendable) depth 60 fits 20000

frozen_sync : IsSync FrozenValue.the_row
frozen_sync = search (LaidSends.the_send, LaidSends.the_sync, TextSends.the_send, TextSends.the_sync, crosses, frozen.crosses_both, sendable) depth 60 fits 20000

function_send : IsSend Function.the_row
function_send = search trees_cross depth 60 fits 20000

function_sync : IsSync Function.the_row
function_sync = search trees_cross depth 60 fits 20000

functions_send : IsSend Functions.the_row
functions_send = search (IndexSends.the_send, function_send, trees_cross) depth 60 fits 20000

functions_sync : IsSync Functions.the_row
functions_sync = search (IndexSends.the_sync, function_sync, trees_cross) depth 60 fits 20000

module_send : IsSend Module.the_row
module_send = search (functions_send, functions_sync, frozen_send, frozen_sync, TextSends.the_send, TextSends.the_sync, trees_cross) depth 60 fits 20000

pub loaded_send : IsSend ModuleValue.the_row
loaded_send = search (module_send, crosses, sendable) depth 60 fits 20000

-- what the machine works with. The entries of a dictionary have any laws of hashing here, which no search could find
entries_send : (e : _) (h : _) (b : _) (w : _) → IsSend (IndexMap.the_field Key.the_row Entry.the_row (Builder.the_row Hasher.the_row) Global.the_row Hasher.the_row e h b w Heap.ghosts).row
entries_send e h b w = IndexMapSends.the_send _ _ _ _ Hasher.the_row _ _ _ _ _ KeySends.the_send EntrySends.the_send (BuilderSends.the_send Hasher.the_row HasherSends.the_send) GlobalSends.the_send frees

ruleset plain_cross = (ValSends.the_field_send, ValSends.the_send, BuiltinSends.the_field_send, TextSends.the_send, TextSends.the_sync, BinarySends.the_field_send, UnarySends.the_field_send)

ruleset parts_cross = (ExitSends.the_field_send, PurposeSends.the_field_send, StandingSends.the_field_send, block_send, CollectionSends.the_field_send, entries_send)

aim_send : IsSend LValue.the_row
aim_send = search (aims.crosses, crosses, sendable) depth 60 fits 20000

aim_field_send : IsSend (LValue.the_field).row
aim_field_send = search (aims.crosses, crosses, sendable) depth 60 fits 20000

comprehension_send : IsSend Comprehension.the_row
comprehension_send = search trees_cross depth 60 fits 20000

comprehension_sync : IsSync Comprehension.the_row
comprehension_sync = search trees_cross depth 60 fits 20000

turns_field_send : IsSend (Turns.the_field).row
turns_field_send = search (plain_cross, trees_cross) depth 60 fits 20000

turns_send : IsSend Turns.the_row
turns_send = search (turns_field_send, recorded_send)

method_call_field_send : IsSend (MethodCall.the_field).row
method_call_field_send = search (plain_cross, trees_cross) depth 60 fits 20000

method_call_send : IsSend MethodCall.the_row
method_call_send = search (method_call_field_send, recorded_send)

gathering_field_send : IsSend (Gathering.the_field).row
gathering_field_send = search (comprehension_send, comprehension_sync, plain_cross, trees_cross) depth 60 fits 20000

gathering_send : IsSend Gathering.the_row
gathering_send = search (gathering_field_send, recorded_send)

signal_field_send : IsSend (Signal.the_field).row
signal_field_send = search (aim_field_send, plain_cross, parts_cross, crosses, sendable) depth 60 fits 20000

-- a search for each variant of an enum, in order: all of them would be too much for one
infixr 5 ◌besides◌
◌besides◌ : {A B : Type 0} → A → B → A × B
a besides b = (a, b)

ruleset running_crosses = (aim_send, aim_field_send, comprehension_send, comprehension_sync, gathering_field_send, gathering_send, signal_field_send, plain_cross, parts_cross, trees_cross)

-- apart: to tell the rows of `Turns` and of `Branch` from one another would cost each search many steps
ruleset turns_cross = (turns_field_send, turns_send, plain_cross, crosses, sendable)

ruleset method_call_crosses = (method_call_field_send, method_call_send, plain_cross, crosses, sendable)

frame_field_send : IsSend (Frame.the_field).row
frame_field_send = enum_send (shape Frame.the_type) ((search running_crosses depth 20) besides (search running_crosses depth 20) besides (search running_crosses depth 20) besides (search running_crosses depth 20) besides
    (search running_crosses depth 20) besides (search running_crosses depth 20) besides (search running_crosses depth 20) besides (search running_crosses depth 20) besides
    (search running_crosses depth 20) besides (search running_crosses depth 20) besides (search running_crosses depth 20) besides (search running_crosses depth 20) besides
    (search running_crosses depth 20) besides (search running_crosses depth 20) besides (search running_crosses depth 20) besides (search running_crosses depth 20) besides
    (search running_crosses depth 20) besides (search running_crosses depth 20) besides (search running_crosses depth 20) besides (search running_crosses depth 20) besides
    (search running_crosses depth 20) besides (search running_crosses depth 20) besides (search running_crosses depth 20) besides (search running_crosses depth 20) besides
    (search running_crosses depth 20) besides (search turns_cross depth 20) besides (search turns_cross depth 20) besides (search running_crosses depth 20) besides
    (search running_crosses depth 20) besides (search running_crosses depth 20) besides (search running_crosses depth 20) besides (search running_crosses depth 20) besides
    (search running_crosses depth 20) besides (search running_crosses depth 20) besides (search running_crosses depth 20) besides (search running_crosses depth 20) besides
    (search running_crosses depth 20) besides (search running_crosses depth 20) besides (search running_crosses depth 20) besides (search running_crosses depth 20) besides
    (search running_crosses depth 20) besides (search running_crosses depth 20) besides tt)

control_field_send : IsSend (Control.the_field).row
control_field_send = enum_send (shape Control.the_type) ((search running_crosses depth 20) besides (search running_crosses depth 20) besides (search running_crosses depth 20) besides (search running_crosses depth 20) besides
    (search running_crosses depth 20) besides (search running_crosses depth 20) besides (search running_crosses depth 20) besides (search running_crosses depth 20) besides
    (search turns_cross depth 20) besides (search running_crosses depth 20) besides (search running_crosses depth 20) besides (search running_crosses depth 20) besides
    (search running_crosses depth 20) besides (search running_crosses depth 20) besides (search method_call_crosses depth 20) besides (search running_crosses depth 20) besides
    (search running_crosses depth 20) besides (search running_crosses depth 20) besides (search running_crosses depth 20) besides (search running_crosses depth 20) besides
    (search running_crosses depth 20) besides tt)

frame_send : IsSend Frame.the_row
frame_send = search (frame_field_send, recorded_send)

environment_field_send : IsSend (Environment.the_field).row
environment_field_send = search (loaded_send, TextSends.the_send, PackageSends.the_field_send, trees_cross) depth 60 fits 20000

machine_field_send : IsSend (Machine.the_field).row
machine_field_send = search (state_field_send, StandingSends.the_field_send, OpenSends.the_send, frame_send, crosses, sendable) depth 60 fits 20000

reached_send : IsSend ModuleTable.the_row
reached_send = search (module_send, LabelsSends.the_send, crosses, sendable) depth 60 fits 20000

tables_field_send : IsSend (Tables.the_field).row
tables_field_send = search (functions_send, reached_send, crosses, sendable) depth 60 fits 20000

parts_field_send : IsSend (Parts.the_field).row
parts_field_send = search (environment_field_send, tables_field_send, machine_field_send, control_field_send, crosses, sendable) depth 60 fits 20000

pub suspended_send : IsSend Suspended.the_row
suspended_send = search (parts_field_send, crosses, sendable) depth 60 fits 20000
