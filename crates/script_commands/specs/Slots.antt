-- Slots: each has a seat, or a session on a version that the desk lent.
use Rattle.std.specs.Prelude.{◌≡◌, ℕ, ◌<◌, ◌≤◌, All, IfSome, List, length, map, take, slice_index_or, Option, None, Some}
use Rattle.std.specs.Option.{option_map}
use Rattle.graph_version.specs.Versions.{VersionView, IsVersion, layout_of}
use Rattle.block_reclamation.specs.{Board.BoardState, Copies.pin_at, declared.copies.TheConstants.SEATS}
use Rattle.stream_store.specs.{Refusals.block_count, Seats.{SeatView, SessionView, held_version}}
use Rattle.script_commands.specs.{States.{Held, holding}, declared.slots.Slots.Slots}

-- a version, as a slot holds it
abbrev pub held_of : VersionView → Held
held_of v = record { number = length v.batches; layout = layout_of v.rows }

-- what a slot with that session holds
abbrev pub held_by : Option SessionView → Option Held
held_by session = option_map (λ s. held_of (held_version s)) session

abbrev pub held_slots : Slots → List (Option Held)
held_slots slots = map held_by slots.sessions.items

-- the last version, or one before it: what the first of the last version's batches left
pub record IsEarlier (last v : VersionView) : Type 0 where
  pub version : IsVersion v
  pub opening : v.opening ≡ last.opening
  pub count : length v.batches ≤ length last.batches
  pub batches : v.batches ≡ take (length v.batches) last.batches

-- a slot has its seat, or a session of it that holds the last version or one before it
abbrev pub IsScriptSlot : VersionView → ℕ → Option SeatView → Option SessionView → Type 0
IsScriptSlot last slot (Some seat) None = seat.number ≡ slot
IsScriptSlot last slot None (Some session) = (session.number ≡ slot) × IsEarlier last (held_version session)
IsScriptSlot last slot _ _ = ⊥

-- the pins on the board are those of the held versions, and the floor is at most the last version's number
pub record IsPinnedBySlots (last : ℕ) (board : BoardState) (sessions : List (Option SessionView)) : Type 0 where
  pub seats : length board.pins ≡ SEATS
  pub pins : (slot : ℕ) → pin_at board.pins slot ≡ option_map holding (held_by (slice_index_or sessions slot None))
  pub floor : board.floor ≤ last

pub record AreSlots (last : VersionView) (board : BoardState) (seats : List (Option SeatView))
    (sessions : List (Option SessionView)) : Type 0 where
  pub same_length : length seats ≡ length sessions
  pub few : length sessions ≤ SEATS
  pub each : (slot : ℕ) → slot < length sessions
      → IsScriptSlot last slot (slice_index_or seats slot None) (slice_index_or sessions slot None)
  pub pinned : IsPinnedBySlots (length last.batches) board sessions

-- no held version has more blocks than there are
abbrev pub AreFew : ℕ → Slots → Type 0
AreFew blocks slots = All (λ session. IfSome session (λ s. block_count (held_version s) ≤ blocks)) slots.sessions.items

abbrev pub AreSlotsOf : VersionView → Slots → Type 0
AreSlotsOf last slots = AreSlots last slots.board slots.seats.items slots.sessions.items
