-- The blocks of names of an evaluation may go to another thread, with the functions that a block of many names holds.
use denote.Enum.Declared.{shape}
use denote.Param.Send.{IsSend, enum_send, recorded_send, sendable}
use Rattle.std.proofs.Crossing.{crosses, frees}
use Rattle.std.proofs.alloc.Global.TheSendSync as GlobalSends
use Rattle.std.proofs.collections.HashMap.TheSendSync as HashMapSends
use Rattle.std.proofs.hash.BuildHasherDefault.TheSendSync as BuilderSends
use Rattle.std.proofs.hash.FoldHasher.TheSendSync as HasherSends
use Rattle.std.specs.contracts.alloc.Global
use Rattle.std.specs.contracts.collections.HashMap
use Rattle.std.specs.contracts.hash.BuildHasherDefault as Builder
use Rattle.std.specs.contracts.hash.FoldHasher as Hasher
use Rattle.std.specs.contracts.impls.GlobalAllocator.TheImpl as Heap
use Rattle.values_semantics.specs.contracts.val.Val
use Rattle.base_types.proofs.text.Text.TheSendSync as TextSends
use Rattle.values_semantics.proofs.val.Val.TheSendSync as ValSends
use Rattle.values_heap.proofs.heap.Heap.TheSendSync as HeapSends
use Rattle.evaluator_state.proofs.state.SlotBlock.TheSendSync as SlotBlockSends
use Rattle.evaluator_state.proofs.defaults.DefaultsTable.TheSendSync as DefaultsSends
use Rattle.evaluator_state.proofs.files.Index.TheSendSync as LabelsSends
use Rattle.evaluator_state.proofs.package_targets.PackageTargets.TheSendSync as TargetsSends
use Rattle.evaluator_state.specs.contracts.state.Block
use Rattle.evaluator_state.specs.contracts.sparse.SparseBlock
use Rattle.evaluator_state.specs.contracts.state.State
use Rattle.evaluator_state.specs.contracts.state.FileNames
use Rattle.evaluator_state.specs.contracts.files.Files
use Rattle.evaluator.proofs.Trees.{def_send, def_sync}

-- values by places, with any laws of hashing
bound_send : (k : _) (e : _) (h : _) (b : _) (w : _) → IsSend k → IsSend (HashMap.the_row k Val.the_row (Builder.the_row Hasher.the_row) Global.the_row Hasher.the_row e h b w Heap.ghosts)
bound_send k e h b w s = HashMapSends.the_send _ _ _ _ Hasher.the_row _ _ _ _ _ s ValSends.the_send (BuilderSends.the_send Hasher.the_row HasherSends.the_send) GlobalSends.the_send frees

sparse_send : IsSend (SparseBlock.the_field).row
sparse_send = search (bound_send, def_send, def_sync, ValSends.the_send, ValSends.the_sync, TextSends.the_send, crosses, sendable) depth 60 fits 20000

-- a search for each variant of an enum, in order
infixr 5 ◌besides◌
◌besides◌ : {A B : Type 0} → A → B → A × B
a besides b = (a, b)

block_field_send : IsSend (Block.the_field).row
block_field_send = enum_send (shape Block.the_type) ((search SlotBlockSends.the_field_send) besides (search sparse_send) besides tt)

pub block_send : IsSend Block.the_row
block_send = search (block_field_send, recorded_send)

file_names_field_send : IsSend (FileNames.the_field).row
file_names_field_send = search (block_field_send, DefaultsSends.the_send, TextSends.the_send, crosses, sendable) depth 60 fits 20000

file_names_send : IsSend FileNames.the_row
file_names_send = search (file_names_field_send, recorded_send)

files_send : IsSend Files.the_row
files_send = search (file_names_send, LabelsSends.the_send, crosses, sendable) depth 60 fits 20000

pub state_field_send : IsSend (State.the_field).row
state_field_send = search (block_send, files_send, HeapSends.the_field_send, TargetsSends.the_send, crosses, sendable) depth 60 fits 20000
