-- What a step at one place results in, and what is left of a closed board.
use Rattle.std.specs.Prelude.{◌≡◌, ◌≢◌, ℕ, ◌+◌, List, [], ◌∷◌, Option, Some}
use mathlib.Core.Option.{some}
use lib.ListN.{get_elem?}
use Rattle.core.specs.declared.slots.Slots.{Slots}
use Rattle.core.specs.Mem.Slots.{slots_filled, slots_len}
use Rattle.board.specs.declared.view.Entry.{Entry}
use Rattle.board.specs.declared.view.Entry.TheVariants.{Job, Turn}
use Rattle.board.specs.declared.view.Stage.TheVariants.{Held, Answered}
use Rattle.board.specs.declared.view.View.{View}
use Rattle.board.specs.Rule.{total}
use Rattle.board.specs.Places.{HasRest, weight_in}
use Rattle.board.specs.Plays.{Mine, looked, uses}

module _ {J A : Type 0} where
  -- the hand found the place ready, and has its slot now, with the job in it
  abbrev pub HasClaimed : Mine J A → ℕ → Mine J A → Type 0
  HasClaimed m p m' = (job : J) × (m' ≡ (uses (looked m.0 p 1) p (Held job), (p, Some (Job job)) ∷ []))

  -- the seat looked at the place, found another word there than this, and has no slot
  abbrev pub HasFoundOther : ℕ → Mine J A → ℕ → Mine J A → Type 0
  HasFoundOther word m p m' = (n : ℕ) × (n ≢ word) × (m' ≡ (looked m.0 p n, []))

  -- the host found the place answered, and has its slot now, with the turn of the job that is out there
  abbrev pub HasFoundTurn : (A → J) → Mine J A → ℕ → Mine J A → Type 0
  HasFoundTurn of m p m' = (turn : A) × (get_elem? m.0.out p ≡ some (Some (of turn))) × (m' ≡ (uses (looked m.0 p 3) p (Answered turn), (p, Some (Turn turn)) ∷ []))

  -- however turns are weighed, what the host and its hands answered is what was collected and what is left
  abbrev pub KeepsAnswers : {X : Type 0} → View J A → List X → (X → View J A) → List (Option (Entry J A)) → Type 0
  KeepsAnswers host hands view items = (wt : A → ℕ) → total wt host.answers + total (λ h. total wt (view h).answers) hands ≡ total wt host.collected + total (weight_in wt) items

-- the slots before this one were taken, and the others are filled
abbrev pub IsTakenUpTo : {X : Type 0} → Slots X → ℕ → Type 0
IsTakenUpTo slots next = HasRest (slots_filled slots) next (slots_len slots)
