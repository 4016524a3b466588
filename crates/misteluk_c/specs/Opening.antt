-- What the calls that open a desk tell.
use Rattle.std.specs.Prelude.{◌≡◌, ◌⊎◌, ◌<◌, ◌≤◌, ◌==◌, ◌||◌, nat_lt, ℕ, Bool, if◌then◌else◌, MatchBool, Option, Some}
use Rattle.graph_types.specs.Limits.{LimitsView, AreLimits, standard_limits, standard_size, weight_limit}
use Rattle.graph_version.specs.Versions.{content, empty_version_in}
use Rattle.block_reclamation.specs.Status.{most_blocks}
use Rattle.store_steps.specs.{Desks.DeskView, Opening.opened_desk}
use Rattle.owned_desk.specs.Owned.{opened_owned}
use Rattle.store_handles.specs.declared.held.Held.{Held}
use Rattle.misteluk_c.specs.declared.opening.DeskLimits.{DeskLimits}
use Rattle.misteluk_c.specs.{Held.MakesHeld, Desks.{held_desk, identity_in}}

-- the sizes that C's struct of limits has: today's, and the one that it had before it told a limit on weights
abbrev pub is_limits_size : ℕ → Bool
is_limits_size size = (size == 32) || (size == 24)

-- the limit on weights of a struct, or the greatest one where the struct ends before it
abbrev pub weight_in : DeskLimits → ℕ
weight_in limits = if nat_lt limits.size 32 then weight_limit else limits.weight

-- the limits as C has them, with one on weights
abbrev pub limits_with : DeskLimits → ℕ → LimitsView
limits_with limits weight =
    record { names = limits.names; kinds = limits.kinds; batches = limits.batches; weight = weight }

-- a desk's limits, in a struct of this size: what lies past its end stays
abbrev pub limits_told : DeskLimits → DeskView → DeskLimits
limits_told old d =
    record {
      size = old.size;
      names = (content d.last).limits.names;
      kinds = (content d.last).limits.kinds;
      batches = (content d.last).limits.batches;
      weight = if old.size == 32 then (content d.last).limits.weight else old.weight;
    }

-- they are told where the struct has a size of the interface
abbrev pub TellsLimits : DeskView → DeskLimits → DeskLimits → ℕ → Type 0
TellsLimits d old new code =
    MatchBool (is_limits_size old.size) ((code ≡ 0) × (new ≡ limits_told old d)) ((code ≡ 21) × (new ≡ old))

-- a desk without edges is opened, in a handle that held nothing, and its holds have its number
abbrev pub OpensIn : ℕ → LimitsView → ℕ → Option Held → Option Held → ℕ → Type 0
OpensIn number limits blocks old new code =
    MakesHeld old new code (λ held. (held_desk held ≡ Some (opened_owned (opened_desk blocks (empty_version_in limits)) 0))
    × (identity_in held ≡ number))

-- there are too few blocks, or more than the most
abbrev pub RefusesBlocks : ℕ → ℕ → Option Held → Option Held → ℕ → Type 0
RefusesBlocks most blocks old new code = ((blocks < 16) ⊎ (most < blocks)) × (code ≡ 9) × (new ≡ old)

-- under the standard limits
abbrev pub Opens : ℕ → ℕ → Option Held → Option Held → ℕ → Type 0
Opens number blocks old new code =
    ((16 ≤ blocks) × (blocks ≤ standard_size) × OpensIn number standard_limits blocks old new code)
    ⊎ RefusesBlocks standard_size blocks old new code

-- limits within the walls, each of them 1 or more
abbrev pub AreOwnLimits : LimitsView → Type 0
AreOwnLimits limits =
    AreLimits limits × (1 ≤ limits.names) × (1 ≤ limits.kinds) × (1 ≤ limits.batches) × (1 ≤ limits.weight)

-- under such limits of its own
abbrev pub OpensWithin : ℕ → LimitsView → ℕ → Option Held → Option Held → ℕ → Type 0
OpensWithin number limits blocks old new code =
    (AreOwnLimits limits × (((16 ≤ blocks) × (blocks ≤ most_blocks) × OpensIn number limits blocks old new code)
    ⊎ RefusesBlocks most_blocks blocks old new code))
    ⊎ ((AreOwnLimits limits → ⊥) × (code ≡ 19) × (new ≡ old))

-- under the limits of C's struct, where that has a size of the interface
abbrev pub OpensGiven : ℕ → DeskLimits → ℕ → Option Held → Option Held → ℕ → Type 0
OpensGiven number limits blocks old new code =
    MatchBool (is_limits_size limits.size) (OpensWithin number (limits_with limits (weight_in limits)) blocks old new code)
    ((code ≡ 21) × (new ≡ old))
