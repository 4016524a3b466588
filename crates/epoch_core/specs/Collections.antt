-- What a whole collection leaves.
use Rattle.std.specs.Prelude.{◌≡◌, ◌↔◌, ◌⊎◌, ℕ, ◌≤◌, ◌<◌, Bool, true, false, List, ◌∷◌, map, slice_get, IsTrue, IsFalse}
use Rattle.std.specs.declared.option.Option.TheVariants.{None, Some}
use Rattle.block_reclamation.specs.{declared.status.BlockStatus.TheVariants.Retired, Status.{is_at, is_among, is_retired}}
use Rattle.epoch_core.specs.declared.events.Event.{Event, TheVariants.Floor, TheVariants.Recycle}
use Rattle.epoch_core.specs.declared.session_states.SessionState.{SessionState, TheVariants.{Idle, Pinned, Holding, Asking}}
use Rattle.epoch_core.specs.{Worlds.World, Worlds.session_of, Worlds.pin_in, Worlds.settled_in, Worlds.unsettled_in, Runs.run}
use Rattle.epoch_core.specs.{Worlds.{held_in, last_number, last_blocks}, Versions.blocks_at}

-- a settled pin lies from the birth to below the retirement, or an unsettled one below the retirement
pub record IsSettledNeed (w : World) (birth retirement : ℕ) : Type 0 where
  pub session : ℕ
  pub pin : ℕ
  pub is_pin : settled_in (session_of w session) ≡ Some pin
  pub born : birth ≤ pin
  pub before : pin < retirement

pub record IsUnsettledNeed (w : World) (retirement : ℕ) : Type 0 where
  pub session : ℕ
  pub pin : ℕ
  pub is_pin : unsettled_in (session_of w session) ≡ Some pin
  pub before : pin < retirement

abbrev pub IsPinned : World → ℕ → ℕ → Type 0
IsPinned w birth retirement = IsSettledNeed w birth retirement ⊎ IsUnsettledNeed w retirement

-- a Floor, and then a Recycle of each of these blocks
abbrev pub collecting : List ℕ → List Event
collecting blocks = Floor ∷ map Recycle blocks

abbrev pub AreAllRetired : World → List ℕ → Type 0
AreAllRetired w blocks = (b : ℕ) → IsTrue (is_at is_retired (slice_get w.status b)) → IsTrue (is_among b blocks)

-- the blocks that are still retired are exactly those that a pin needs
abbrev pub LeavesWhatPinsNeed : World → Type 0
LeavesWhatPinsNeed w =
    (blocks : List ℕ) → AreAllRetired w blocks → (b birth retirement : ℕ)
    → (slice_get (run (collecting blocks) w).status b ≡ Some (Retired birth retirement))
    ↔ ((slice_get w.status b ≡ Some (Retired birth retirement)) × IsPinned w birth retirement)

-- where no session is pinned, no block is left retired
abbrev pub LeavesNoneUnpinned : World → Type 0
LeavesNoneUnpinned w =
    (blocks : List ℕ) → AreAllRetired w blocks → ((s : ℕ) → pin_in (session_of w s) ≡ None) → (b : ℕ)
    → IsFalse (is_at is_retired (slice_get (run (collecting blocks) w).status b))

-- By versions alone

-- some session holds a version that lists the block
pub record IsHeldBlock (w : World) (b : ℕ) : Type 0 where
  pub session : ℕ
  pub version : ℕ
  pub holds : held_in (session_of w session) ≡ Some version
  pub lists : IsTrue (is_among b (blocks_at w.opening w.versions version))

-- a session that is pinned holds a version, and has told its number
abbrev pub has_settled : SessionState → Bool
has_settled Idle = true
has_settled (Pinned pin) = false
has_settled (Holding hold) = hold.settled
has_settled (Asking hold inquiry) = hold.settled

abbrev pub HaveSettled : World → Type 0
HaveSettled w = (s : ℕ) → IsTrue (has_settled (session_of w s))

-- where each pinned session has settled, a block is still retired exactly where some session's held version lists it and
-- the last version doesn't
abbrev pub LeavesWhatIsHeld : World → Type 0
LeavesWhatIsHeld w =
    (blocks : List ℕ) → AreAllRetired w blocks → HaveSettled w → (b : ℕ)
    → IsTrue (is_at is_retired (slice_get (run (collecting blocks) w).status b))
    ↔ (IsHeldBlock w b × IsFalse (is_among b (last_blocks w)))

-- a session that hasn't told the number of its version may come to hold each version from its pin on, and one of these
-- lists the block
pub record IsListedFromPin (w : World) (b : ℕ) : Type 0 where
  pub session : ℕ
  pub pin : ℕ
  pub version : ℕ
  pub is_pin : unsettled_in (session_of w session) ≡ Some pin
  pub pin_version : pin ≤ version
  pub version_last : version ≤ last_number w
  pub lists : IsTrue (is_among b (blocks_at w.opening w.versions version))

-- in any case a retired block is left exactly where a held version, or one from such a pin on, lists it
abbrev pub LeavesWhatMayBeHeld : World → Type 0
LeavesWhatMayBeHeld w =
    (blocks : List ℕ) → AreAllRetired w blocks → (b : ℕ)
    → IsTrue (is_at is_retired (slice_get (run (collecting blocks) w).status b))
    ↔ (IsTrue (is_at is_retired (slice_get w.status b)) × (IsHeldBlock w b ⊎ IsListedFromPin w b))
