-- What the calls of serving promise.
use Rattle.std.specs.Prelude.{◌≡◌, ◌+◌, ◌≤◌, ◌<◌, ℕ, List, length, Bool, false, if◌then◌else◌, Result, IsErrOf}
use Rattle.std.specs.declared.alloc.Global.{Global}
use Rattle.std.specs.declared.vec.Vec.{Vec}
use Rattle.board.specs.Rule.{total}
use Rattle.round_nodes.specs.TurnCounts.{turns_of}
use Rattle.round_nodes.specs.declared.run.Run.{Run}
use Rattle.loader.specs.Service.{Between, After, Stopped}
use Rattle.loader.specs.declared.serving.ServeStop.{ServeStop}
use Rattle.loader.specs.declared.serving.ServeStop.TheVariants.{Read, Write}
use Rattle.loader.specs.declared.serving.Serving.{Serving}

-- what is known of the first bytes of both devices stays known
abbrev pub KeepFirsts : {R W A B : Type 0} → (R → A) → R → R → (W → B) → W → W → Type 0
KeepFirsts read_first reader_before reader written_first writer_before writer = (read_first reader ≡ read_first reader_before) × (written_first writer ≡ written_first writer_before)

-- what the reader counts has only grown, its failures by one at least if it is why serving stopped, and what is known of
-- its first bytes stays known
abbrev pub KeepsReader : {R A X : Type 0} → (R → ℕ) → (R → ℕ) → (R → A) → R → R → Result X ServeStop → Type 0
KeepsReader failures ends first before after result = (failures before ≤ failures after) × (ends before ≤ ends after) × (first after ≡ first before) × (IsErrOf result Read → failures before < failures after)

-- the failures of the writer have only grown, by one at least if it is why serving stopped, and what is known of its
-- first bytes stays known
abbrev pub KeepsWriter : {W A X : Type 0} → (W → ℕ) → (W → A) → W → W → Result X ServeStop → Type 0
KeepsWriter failures first before after result = (failures before ≤ failures after) × (first after ≡ first before) × (IsErrOf result Write → failures before < failures after)

-- there are as many hands as before, and their turns have grown by those of the runs that the journal took
abbrev pub AddsTurns : {H J : Type 0} → (H → ℕ) → Vec H Global → Vec H Global → (J → List Run) → J → J → Type 0
AddsTurns turns before after kept journal_before journal =
    (length after.items ≡ length before.items) × (total turns after.items + turns_of (kept journal_before) ≡ total turns before.items + turns_of (kept journal))

module _ {R : Type 0} where
  -- the device can read less than before, by the bytes that wait and by one more if more lines may come; if none may, the
  -- device has reported its end since
  abbrev pub Reads : (R → ℕ) → (R → ℕ) → R → R → Serving → Serving → Bool → Type 0
  Reads left ends reader_before reader before after more =
      (left reader + length after.pending + (if more then 1 else 0) ≤ left reader_before + length before.pending) × (more ≡ false → ends reader_before < ends reader)

module _ {R W J : Type 0} where
  -- serving that was between two lines is so after one more line, or at its end
  abbrev pub TakesLine : ℕ → Serving → Serving → (R → List ℕ) → R → R → (W → List ℕ) → W → W → (J → List Run) → J → J → Bool → Type 0
  TakesLine budget before after told reader_before reader held writer_before writer kept journal_before journal more =
      (told_first held_first : List ℕ) → Between budget told_first (told reader_before) held_first (held writer_before) before.pending before.session (kept journal_before)
      → After budget more told_first (told reader) held_first (held writer) after.pending after.session (kept journal)

  -- serving that was between two lines has stopped within the next one
  abbrev pub StopsLine : ℕ → Serving → (R → ℕ) → (R → List ℕ) → R → R → (W → List ℕ) → W → W → (J → List Run) → J → Type 0
  StopsLine budget before ends told reader_before reader held writer_before writer kept journal_before =
      (told_first held_first : List ℕ) → Between budget told_first (told reader_before) held_first (held writer_before) before.pending before.session (kept journal_before)
      → Stopped (ends reader_before) (ends reader) told_first (told reader) held_first (held writer)
