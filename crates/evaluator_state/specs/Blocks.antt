-- What blocks and the names of a file in memory are to the definitions.
use Rattle.std.specs.Prelude.{ℕ, List, map, Option}
use Rattle.std.specs.declared.vec.Vec.{Vec}
use Rattle.std.specs.declared.alloc.Global.{Global}
use Rattle.values_semantics.specs.declared.val.Val.{Val}
use Rattle.evaluator_semantics.specs.World.{Block, Names}
use Rattle.evaluator_state.specs.declared.state.Slot.{Slot}
use Rattle.evaluator_state.specs.declared.state.Block as m
use Rattle.evaluator_state.specs.declared.state.Block.TheVariants as b
use Rattle.evaluator_state.specs.Sparse.{sparse_view}
use Rattle.evaluator_state.specs.declared.state.FileNames.{FileNames}

abbrev pub slot_of : Slot → List ℕ × Option Val
slot_of s = (s.name, s.value)

abbrev pub slots_of : List Slot → Block
slots_of slots = map slot_of slots

abbrev pub block_of : Vec Slot Global → Block
block_of block = map slot_of block.items

abbrev pub block_view : m.Block → Block
block_view (b.Slots s) = block_of s.slots
block_view (b.Sparse s) = sparse_view s

abbrev pub names_of : FileNames → Names
names_of f = record { label = f.label; block = block_view f.block; defaults = f.defaults }
