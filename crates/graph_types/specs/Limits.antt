-- The limits, each said once. The numbers are this project's own profile; none comes from the literature.
use Rattle.std.specs.Prelude.{ℕ, ◌+◌, ◌≤◌, ◌<◌, ◌^◌, ◌*◌, ◌-◌, ℤ, nat_abs, nat_le, nat_lt, Bool}

-- how many vertex names and how many kind names a graph may have, how many batches may have made it, and how large its
-- weights may be: chosen where a store is opened
pub record LimitsView : Type 0 where
  pub names : ℕ
  pub kinds : ℕ
  pub batches : ℕ
  pub weight : ℕ

-- a weight is a whole number of at most this size, and a time one below this
abbrev pub weight_limit : ℕ
weight_limit = 2 ^ 40

abbrev pub time_limit : ℕ
time_limit = 2 ^ 63

-- the limits where no others are chosen; then a store has also no more blocks than this size
abbrev pub standard_size : ℕ
standard_size = 65536

abbrev pub standard_limits : LimitsView
standard_limits = record { names = standard_size; kinds = 64; batches = standard_size; weight = weight_limit }

-- The walls, which no limits pass. A place is a kind and a vertex.
abbrev pub most_names : ℕ
most_names = 2 ^ 26 - 1

abbrev pub most_kinds : ℕ
most_kinds = 64

abbrev pub most_places : ℕ
most_places = most_names * most_kinds

abbrev pub most_batches : ℕ
most_batches = 2 ^ 32 - 1

-- so few places, and weights of at most this size, that a sum of weights, one for each place and one more, is below 2 ^ 63
abbrev pub SumsFit : ℕ → ℕ → Type 0
SumsFit places weight = (places + 1) * weight < 2 ^ 63

-- limits within the walls
pub record AreLimits (l : LimitsView) : Type 0 where
  pub names : l.names ≤ most_names
  pub kinds : l.kinds ≤ most_kinds
  pub batches : l.batches ≤ most_batches
  pub weight : l.weight ≤ weight_limit
  pub sums : SumsFit (l.names * l.kinds) l.weight

-- how many operations a batch may have where no other limit is chosen, how many it has at the most, and how many records a
-- script may have
abbrev pub operation_limit : ℕ
operation_limit = 4096

abbrev pub most_operations : ℕ
most_operations = 2 ^ 20

abbrev pub record_limit : ℕ
record_limit = 1000000

-- a weight within a limit, and within that of all weights
abbrev pub IsWeightIn : ℕ → ℤ → Type 0
IsWeightIn most weight = nat_abs weight ≤ most

abbrev pub IsWeight : ℤ → Type 0
IsWeight weight = IsWeightIn weight_limit weight

abbrev pub IsTime : ℕ → Type 0
IsTime time = time < time_limit

-- the same as tests
abbrev pub is_weight_in : ℕ → ℤ → Bool
is_weight_in most weight = nat_le (nat_abs weight) most

abbrev pub is_weight : ℤ → Bool
is_weight weight = is_weight_in weight_limit weight

abbrev pub is_time : ℕ → Bool
is_time time = nat_lt time time_limit
