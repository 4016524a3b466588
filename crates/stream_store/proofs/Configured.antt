-- A configuration under the standard limits.
use Rattle.std.proofs.Common.{◌≡◌, ◌∙◌, ℕ, ◌≤◌, Result, Ok, Err, ap, subst, arith}
use Rattle.std.specs.Prelude.{MatchResult}
use Rattle.graph_types.specs.Limits.{LimitsView, AreLimits, standard_limits, standard_size}
use Rattle.stream_store.specs.Configs.{ConfigView, IsConfig, AreSizesWithin, standard_config}
use Rattle.stream_store.specs.declared.config.BadConfig.{BadConfig}

abbrev of_sizes : ℕ → ℕ → ℕ → LimitsView → ConfigView
of_sizes workers blocks seats limits = record { workers = workers; blocks = blocks; seats = seats; limits = limits }

-- what is made under these limits, where they are the standard ones and there are no more blocks than these allow
pub standard_made : (workers blocks seats : ℕ) (limits : LimitsView) (made : Result ConfigView BadConfig)
    → limits ≡ standard_limits → AreLimits limits → blocks ≤ standard_size
    → MatchResult made
    (λ config. (config ≡ of_sizes workers blocks seats limits) × IsConfig config)
    (λ _. IsConfig (of_sizes workers blocks seats limits) → ⊥)
    → MatchResult made
    (λ config. (config ≡ standard_config workers blocks seats) × AreSizesWithin workers blocks seats)
    (λ _. AreSizesWithin workers blocks seats → ⊥)
standard_made workers blocks seats limits (Ok config) same are few valid =
    let is : IsConfig (of_sizes workers blocks seats limits) = subst IsConfig valid.0 valid.1 in (
      valid.0 ∙ ap (of_sizes workers blocks seats) same,
      record {
        workers_some = is.workers_some;
        workers_few = is.workers_few;
        blocks_some = is.blocks_some;
        blocks_few = few;
        seats_some = is.seats_some;
        seats_few = is.seats_few;
      },
    )
standard_made workers blocks seats limits (Err error) same are few valid = λ sizes. valid (record {
  workers_some = sizes.workers_some;
  workers_few = sizes.workers_few;
  blocks_some = sizes.blocks_some;
  blocks_few = omega (arith, few);
  seats_some = sizes.seats_some;
  seats_few = sizes.seats_few;
  limits = are;
})

pub all_within : (workers blocks seats : ℕ) → (1 ≤ workers) × (workers ≤ 8) → (16 ≤ blocks) × (blocks ≤ 65536)
    → (1 ≤ seats) × (seats ≤ 16) → AreSizesWithin workers blocks seats
all_within workers blocks seats w b s = record {
  workers_some = w.0;
  workers_few = w.1;
  blocks_some = b.0;
  blocks_few = b.1;
  seats_some = s.0;
  seats_few = s.1;
}
