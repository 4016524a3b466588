-- Blocks and pins at any moment.
use Rattle.std.specs.Prelude.{◌≡◌, ◌≢◌, ℕ, ◌≤◌, nat_lt, List, [], ◌∷◌, count_by, if◌then◌else◌, slice_get, IsTrue, IsFalse}
use Rattle.std.specs.{Prelude.AllPairs, declared.option.Option.TheVariants.Some}
use Rattle.graph_types.specs.declared.ids.Edge.{Edge}
use Rattle.epoch_core.specs.{declared.events.Event.TheVariants.Fill, Versions.blocks_at, Runs.is_done}
use Rattle.epoch_core.specs.Worlds.{World, last_number, last_blocks, pin_in, held_in, session_of}
use Rattle.block_reclamation.specs.Status.{is_at, is_free, is_granted, is_retired, is_among}

-- no Fill that is done names a block in the list of a version that some session holds
abbrev pub FillsNoHeldBlock : World → Type 0
FillsNoHeldBlock w =
    (b : ℕ) (edges : List Edge) (s n : ℕ) → IsTrue (is_done w (Fill b edges)) → held_in (session_of w s) ≡ Some n
    → IsFalse (is_among b (blocks_at w.opening w.versions n))

-- the floor is at most each pin and at most the last number, and a holder's pin at most its held number
pub record PinsInOrder (w : World) : Type 0 where
  pub floor_pin : (s pin : ℕ) → pin_in (session_of w s) ≡ Some pin → w.floor ≤ pin
  pub pin_held : (s pin n : ℕ) → pin_in (session_of w s) ≡ Some pin → held_in (session_of w s) ≡ Some n → pin ≤ n
  pub floor_last : w.floor ≤ last_number w

-- in how many of the four a number is: the free, the granted and the retired blocks, and those of the last version
abbrev pub parts_with : World → ℕ → ℕ
parts_with w b =
    count_by (λ is_in. is_in)
    (is_at is_free (slice_get w.status b) ∷ is_at is_granted (slice_get w.status b) ∷ is_at is_retired (slice_get w.status b)
    ∷ is_among b (last_blocks w) ∷ [])

-- each block number is in exactly one of the four, no other number is in any, and the last version lists no
-- block twice
pub record IsPartition (blocks : ℕ) (w : World) : Type 0 where
  pub one_each : (b : ℕ) → parts_with w b ≡ (if nat_lt b blocks then 1 else 0)
  pub listed_once : AllPairs ◌≢◌ (last_blocks w)
