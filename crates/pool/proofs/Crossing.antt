-- What a worker is given, and what it gives back, may go to another thread. Workers share values of nodes, and the
-- board.
use denote.RattleType.{RattleType}
use denote.Param.Send.{IsSend, IsSync, view_send, sendable}
use denote.Param.SendFields.{as_row_send, declared_send, declared_sync, variants_send}
use denote.Param.{param}
use denote.Ref.{NamedLft}
use denote.Struct.Field.{row_field, shr_ref_field}
use denote.Struct.Tuple.{TupleAt, type_at}
use Rattle.std.proofs.Common.{ℕ, List, [], ◌∷◌}
use Rattle.std.proofs.Crossing.{Arc-send, Vec-send, crosses, frees, send, sync}
use Rattle.atomic_table.proofs.owned.Table.TheSendSync as TableSends
use Rattle.atomic_table.proofs.shared.Seat.TheSendSync as SeatSends
use Rattle.board.proofs.view.Entry.TheSendSync as EntrySends
use Rattle.board.specs.contracts.board.Board
use Rattle.board.specs.contracts.board.Hand
use Rattle.board.specs.contracts.view.Entry
use Rattle.core.proofs.option.Option.TheSendSync as OptionSends
use Rattle.core.specs.contracts.option.Option
use Rattle.evaluator.proofs.Trees.{trees_cross}
use Rattle.values_freeze.proofs.frozen.Frozen.TheLaws.TheKnot as frozen
use Rattle.values_freeze.proofs.laid.Layout.TheSendSync as LaidSends
use Rattle.values_freeze.specs.contracts.value.FrozenValue
use Rattle.keys.proofs.key.Key.TheSendSync as KeySends
use Rattle.keys.proofs.value.BuildName.TheSendSync as BuildNameSends
use Rattle.keys.proofs.value.DirectoryNames.TheSendSync as DirectoryNamesSends
use Rattle.keys.proofs.value.Fault.TheSendSync as FaultSends
use Rattle.keys.proofs.value.Names.TheSendSync as NamesSends
use Rattle.keys.proofs.value.Paths.TheSendSync as PathsSends
use Rattle.keys.specs.contracts.job.Job
use Rattle.keys.specs.contracts.rules.Turn
use Rattle.keys.specs.contracts.turned.TurnResult
use Rattle.keys.specs.contracts.turned.Turned
use Rattle.keys.specs.contracts.value.Value
use Rattle.keys.specs.declared.rules.Rules.{Ghosts}
use Rattle.values_modules.proofs.functions.Index.TheSendSync as IndexSends
use Rattle.values_modules.proofs.targets.Targets.TheSendSync as TargetsSends
use Rattle.values_modules.specs.contracts.bindings.Function
use Rattle.values_modules.specs.contracts.functions.Functions
use Rattle.values_modules.specs.contracts.modules.ModuleValue
use Rattle.values_modules.specs.contracts.modules.Module
use Rattle.base_types.proofs.text.Text.TheSendSync as TextSends
use Rattle.pool.proofs.notifier.Notifiers.TheSendSync as BellsSends
use Rattle.pool.specs.contracts.notifier.Notifiers
use Rattle.pool.specs.contracts.worker.WorkerReturn

-- modules
frozen_send : IsSend FrozenValue.the_row
frozen_send = search (LaidSends.the_send, LaidSends.the_sync, TextSends.the_send, TextSends.the_sync, crosses, frozen.crosses_both, sendable) depth 60 fits 20000

frozen_sync : IsSync FrozenValue.the_row
frozen_sync = search (LaidSends.the_send, LaidSends.the_sync, TextSends.the_send, TextSends.the_sync, crosses, frozen.crosses_both, sendable) depth 60 fits 20000

function_send : IsSend Function.the_row
function_send = search trees_cross depth 60 fits 20000

function_sync : IsSync Function.the_row
function_sync = search trees_cross depth 60 fits 20000

functions_send : IsSend Functions.the_row
functions_send = search (IndexSends.the_send, function_send, trees_cross) depth 60 fits 20000

functions_sync : IsSync Functions.the_row
functions_sync = search (IndexSends.the_sync, function_sync, trees_cross) depth 60 fits 20000

ruleset parts_cross = (functions_send, functions_sync, frozen_send, frozen_sync, TextSends.the_send, TextSends.the_sync, trees_cross)

module_send : IsSend Module.the_row
module_send = search parts_cross depth 60 fits 20000

module_sync : IsSync Module.the_row
module_sync = search parts_cross depth 60 fits 20000

loaded_send : IsSend ModuleValue.the_row
loaded_send = search (module_send, crosses, sendable) depth 60 fits 20000

loaded_sync : IsSync ModuleValue.the_row
loaded_sync = search (module_sync, crosses, sendable) depth 60 fits 20000

-- values of nodes
pub value_send : IsSend Value.the_row
value_send = search (loaded_send, TargetsSends.the_send, BuildNameSends.the_send, DirectoryNamesSends.the_send, FaultSends.the_send, NamesSends.the_send, PathsSends.the_send, TextSends.the_send, crosses, sendable) depth 60 fits 20000

pub value_sync : IsSync Value.the_row
value_sync = search (loaded_sync, TargetsSends.the_sync, BuildNameSends.the_sync, DirectoryNamesSends.the_sync, FaultSends.the_sync, NamesSends.the_sync, PathsSends.the_sync, TextSends.the_sync, crosses, sendable) depth 60 fits 20000

module _ (R S : RattleType) (g : Ghosts R.Denot S.Denot) (s : IsSend S) where
  -- jobs and their turns
  job_parts_send : IsSend (Job.TheInside.the_row R S g)
  job_parts_send = declared_send (Job.TheInside.the_type R S g) (KeySends.the_send, (OptionSends.the_send _ s, (Vec-send _ (Arc-send _ value_send value_sync), tt)))

  job_send : IsSend (Job.the_row R S g)
  job_send = view_send (Job.TheInside.the_row R S g) _ _ _ _ job_parts_send

  turn_send : IsSend (Turn.the_row S)
  turn_send = variants_send (Turn.enum S) ((as_row_send (row_field S) s, (Vec-send _ KeySends.the_send, tt)), ((value_send, tt), tt))

  answer_send : IsSend (TurnResult.the_row S)
  answer_send = variants_send (TurnResult.enum S) ((turn_send, tt), ((search (crosses, sendable) depth 60 fits 20000, tt), ((search (crosses, sendable) depth 60 fits 20000, tt), tt)))

  turned_parts_send : IsSend (Turned.TheInside.the_row R S g)
  turned_parts_send = declared_send (Turned.TheInside.the_type R S g) (KeySends.the_send, (Vec-send _ (Arc-send _ value_send value_sync), (answer_send, tt)))

  turned_send : IsSend (Turned.the_row R S g)
  turned_send = view_send (Turned.TheInside.the_row R S g) _ _ _ _ turned_parts_send

  -- what lies at a place of the board
  slot_send : IsSend (Option.the_row (Entry.the_row (Job.the_row R S g) (Turned.the_row R S g)))
  slot_send = OptionSends.the_send _ (EntrySends.the_send _ _ job_send turned_send)

  -- who takes jobs from the board, and the board
  pub hand_send : IsSend (Hand.the_row R S g)
  hand_send = declared_send (Hand.the_type R S g) (SeatSends.the_send _ _ slot_send, (search sendable, tt))

  pub board_sync : IsSync (Board.the_row R S g)
  board_sync = declared_sync (Board.the_type R S g) (search (TableSends.the_sync, slot_send, send, sync, frees) depth 20 fits 20000, (search sendable, tt))

  -- what a worker gives back
  pub back_send : IsSend R → IsSend (WorkerReturn.the_row R S g)
  back_send r = declared_send (WorkerReturn.the_type R S g) (as_row_send (row_field R) r, (hand_send, tt))

  -- what a worker's closure has taken: the handle to wait by, the board, the notifiers, its hand, its rules and its number
  pub taken_send : (T N : RattleType) (name : List ℕ) (ℓ ℓ' ℓ'' : NamedLft) → IsSync (param 2 T) → IsSend R → IsSend N
      → IsSend (TupleAt name ((shr_ref_field ℓ (param 2 T) tt).row ∷ (shr_ref_field ℓ' (Board.the_row R S g) tt).row ∷ (shr_ref_field ℓ'' Notifiers.the_row tt).row ∷ Hand.the_row R S g ∷ R ∷ N ∷ []))
  taken_send T N name ℓ ℓ' ℓ'' t r n =
      let waits : RattleType = (shr_ref_field ℓ (param 2 T) tt).row in let board : RattleType = (shr_ref_field ℓ' (Board.the_row R S g) tt).row in let bells : RattleType = (shr_ref_field ℓ'' Notifiers.the_row tt).row in
      let waits_send : IsSend waits = search (t, sendable) depth 20 in let board_send : IsSend board = search (board_sync, sendable) depth 20 in
      let bells_send : IsSend bells = search (BellsSends.the_sync, sendable) depth 20 in
      declared_send (type_at name (waits ∷ board ∷ bells ∷ Hand.the_row R S g ∷ R ∷ N ∷ [])) (
        as_row_send (row_field waits) waits_send,
        (as_row_send (row_field board) board_send, (as_row_send (row_field bells) bells_send, (as_row_send (row_field (Hand.the_row R S g)) hand_send, (as_row_send (row_field R) r, (as_row_send (row_field N) n, tt))))),
      )
