-- What the host of a pool works with, as it begins and between two of its steps.
use Rattle.std.specs.Prelude.{◌≡◌, ℕ, ◌<◌, List, All, length}
use Rattle.board.specs.Places.{IsHostAtRest, IsHandAtRest, IsNewHost, IsNewHand}
use Rattle.board.specs.declared.board.Board.{Board}
use Rattle.board.specs.declared.board.Hand.{Hand}
use Rattle.board.specs.declared.board.Host.{Host}
use Rattle.pool.specs.Crews.{IsCrew, SameCrew}
use Rattle.pool.specs.Serving.{IsSameHost}
use Rattle.pool.specs.declared.host_state.HostState.{HostState}
use Rattle.pool.specs.declared.host_state.Seats.{Seats}

-- the host of this board, which has no slot
abbrev pub IsHostOf : {R S : Type 0} → Board R S → Host R S → Type 0
IsHostOf board host = IsHostAtRest board.table.shared.table_id host.seat

-- the host of this board, which has as many places and hands as before, and the same own answers
abbrev pub KeepsHost : {R S : Type 0} → Board R S → Host R S → Host R S → Type 0
KeepsHost board old new = IsHostOf board new × IsSameHost old.seat.me.0 new.seat.me.0

-- hands of this board that have done nothing yet
abbrev pub AreNewHands : {R S : Type 0} → Board R S → List (Hand R S) → Type 0
AreNewHands board hands = All (λ h. IsNewHand board.table.shared.table_id h.seat) hands

-- the seats of this board as it was opened, and as many rules as hands, of which there are some
pub record AreNewSeats {R S : Type 0} (board : Board R S) (seats : Seats R S) : Type 0 where
  pub host : IsNewHost board.table.shared.table_id board.capacity (length seats.rules.items) seats.host.seat
  pub hands : AreNewHands board seats.hands.items
  pub paired : length seats.hands.items ≡ length seats.rules.items
  pub some : 0 < length seats.rules.items
  pub places : 0 < board.capacity

-- a host of this board as it was opened, with no worker yet, which has made this many turns itself
pub record IsNewState {R S : Type 0} (board : Board R S) (first : ℕ) (state : HostState R S) : Type 0 where
  pub host : IsNewHost board.table.shared.table_id board.capacity state.host.seat.me.0.hands state.host.seat
  pub places : 0 < board.capacity
  pub crew : IsCrew board.table.shared.table_id state.crew
  pub new : AreNewHands board state.crew.hands.items
  pub none : length state.crew.workers.items ≡ 0
  pub hand : IsHandAtRest board.table.shared.table_id state.own.hand.seat
  pub made : state.own.made ≡ first

-- the host and its hand are at rest, and it has the same seat and crew as before
pub record KeepsState {R S : Type 0} (turns : R → ℕ) (board : Board R S) (old new : HostState R S) : Type 0 where
  pub host : KeepsHost board old.host new.host
  pub crew : IsCrew board.table.shared.table_id new.crew
  pub kept : SameCrew turns old.crew new.crew
  pub hand : IsHandAtRest board.table.shared.table_id new.own.hand.seat
