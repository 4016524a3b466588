-- What holds of the machine at every moment, and carries the laws.
use Rattle.std.specs.Prelude.{true, ◌≡◌, ◌≢◌, ℕ, ◌≤◌, ◌<◌, ◌+◌, nat_lt, length, take, slice_get, AllPairs, MatchOption, IsTrue}
use Rattle.std.specs.declared.option.Option.{Option}
use Rattle.block_reclamation.specs.{declared.status.BlockStatus.BlockStatus, declared.copies.PinCopy.PinCopy, Copies.needs}
use Rattle.block_reclamation.specs.declared.status.BlockStatus.TheVariants.{Used, Retired}
use Rattle.block_reclamation.specs.Status.{is_at, is_used, is_among, IsDated, IsKept}
use Rattle.epoch_core.specs.declared.session_states.{Hold.Hold, SessionState.SessionState}
use Rattle.epoch_core.specs.declared.session_states.SessionState.TheVariants.{Idle, Pinned, Holding, Asking}
use Rattle.epoch_core.specs.Worlds.{World, MachineState, HasContents, last_number, last_blocks, last_graph, session_of}
use Rattle.epoch_core.specs.Versions.{AreEdgesOf, graph_at, version_at, blocks_at, edges_of}

-- what a status says of its dates, said of the block of a number, if there is one
abbrev pub IsDatedAt : ℕ → Option BlockStatus → Type 0
IsDatedAt last status = MatchOption status (Unit {0}) (IsDated last)

abbrev pub IsKeptAt : ℕ → Option BlockStatus → Type 0
IsKeptAt n status = MatchOption status ⊥ (IsKept n)

-- of the versions from number `first` on, those below number `end` list the block, and no other
abbrev pub IsListedBetween : World → ℕ → ℕ → ℕ → Type 0
IsListedBetween w b first end =
    (n : ℕ) → first ≤ n → n ≤ last_number w → is_among b (blocks_at w.opening w.versions n) ≡ nat_lt n end

-- a used block is listed by each version from its birth on, a retired one by each from its birth to below its retirement
abbrev pub IsListedAsDated : World → ℕ → BlockStatus → Type 0
IsListedAsDated w b (Used birth) = IsListedBetween w b birth (last_number w + 1)
IsListedAsDated w b (Retired birth retirement) = IsListedBetween w b birth retirement
IsListedAsDated w b _ = Unit {0}

abbrev pub IsListedAt : World → ℕ → Option BlockStatus → Type 0
IsListedAt w b status = MatchOption status (Unit {0}) (IsListedAsDated w b)

-- the copy needs each block that is kept for the holders of version n
abbrev pub IsCovered : PinCopy → ℕ → Type 0
IsCovered copy n = (birth retirement : ℕ) → birth ≤ n → n < retirement → needs copy birth retirement ≡ true

-- a holder's pin keeps the blocks of its version, and these show what the batches up to the version leave
pub record IsHeld (w : World) (hold : Hold) : Type 0 where
  pub floor_pin : w.floor ≤ hold.pin
  pub pin_held : hold.pin ≤ hold.version
  pub held_last : hold.version ≤ last_number w
  -- a pin that is settled is the number of the version
  pub settled : IsTrue hold.settled → hold.pin ≡ hold.version
  pub covered : IsCovered w.copy hold.version
  pub kept : (b : ℕ) → IsTrue (is_among b (blocks_at w.opening w.versions hold.version))
      → IsKeptAt hold.version (slice_get w.status b)
  pub shown : AreEdgesOf (edges_of w.heap (blocks_at w.opening w.versions hold.version)) (graph_at w.opening w.versions hold.version)

abbrev pub IsSessionSound : World → SessionState → Type 0
IsSessionSound w Idle = Unit {0}
IsSessionSound w (Pinned pin) = (w.floor ≤ pin) × (pin ≤ last_number w)
IsSessionSound w (Holding hold) = IsHeld w hold
IsSessionSound w (Asking hold inquiry) =
    IsHeld w hold × (inquiry.read ≡ edges_of w.heap (take inquiry.next (blocks_at w.opening w.versions hold.version)))

-- a version's names and kinds are those that the batches up to it leave
pub record IsNamed (w : World) (n : ℕ) : Type 0 where
  pub names : (version_at w.opening w.versions n).names ≡ (graph_at w.opening w.versions n).names
  pub kinds : (version_at w.opening w.versions n).kinds ≡ (graph_at w.opening w.versions n).kinds

pub record IsSound (w : World) : Type 0 where
  pub floor_last : w.floor ≤ last_number w
  pub copy_last : w.copy.last ≤ last_number w
  pub used : (b : ℕ) → is_at is_used (slice_get w.status b) ≡ is_among b (last_blocks w)
  pub dated : (b : ℕ) → IsDatedAt (last_number w) (slice_get w.status b)
  pub listed : (b : ℕ) → IsListedAt w b (slice_get w.status b)
  pub listed_once : AllPairs ◌≢◌ (last_blocks w)
  pub shown : AreEdgesOf (edges_of w.heap (last_blocks w)) (last_graph w)
  pub named : (n : ℕ) → n ≤ last_number w → IsNamed w n
  pub sessions : (s : ℕ) → IsSessionSound w (session_of w s)
  -- each block has its edges and its status
  pub sizes : length w.heap ≡ length w.status

-- what holds of the whole state
pub record IsCore (state : MachineState) : Type 0 where
  pub sound : IsSound state.world
  pub contents : HasContents state.world.opening state.world.versions
  pub few : length state.world.sessions ≤ 16
  pub replies : length state.replies ≡ length state.world.sessions
