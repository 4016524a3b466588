-- The operations on each row of a shard, one after another.
use Rattle.std.specs.Prelude.{◌≡◌, ◌≢◌, ℕ, ◌+◌, ◌%◌, ◌^◌, ◌<◌, ◌≤◌, ◌==◌, nat_lt, List, [], ◌∷◌, length, get_or, set, slice_index}
use Rattle.std.specs.{Prelude.{AllPairs, Bool, true, false, not, ◌||◌}, declared.option.Option.{Option, TheVariants.{None, Some}}}
use Rattle.graph_types.specs.{Graph.Key, declared.batches.Outcome.{Outcome, TheVariants.{Inserted, Updated, Removed, Absent}}}
use Rattle.graph_types.specs.declared.batches.Outcome.TheVariants.{Overflow, Expired}
use Rattle.edge_block.specs.{Rows.{OpenBlock, expire_row, old_in_row}, Batches.{outcomes_all, key_step, key_outcome}}
use Rattle.graph_types.specs.Outcomes.{together}
use Rattle.batch_shards.specs.{Shards.{AreSteps, resolved_in}, declared.shard.{Place.Place, Act.{Act, TheVariants.Edge}}}
use Rattle.batch_shards.specs.declared.shard.{Act.TheVariants.Expire, Step.Step}
use Rattle.graph_types.specs.Outcomes.{told}

-- whether an operation is on an edge of a row
abbrev pub is_on_row : ℕ → Act → Bool
is_on_row row (Edge (Some p) change) = p.row == row
is_on_row row _ = false

-- whether it is on an edge of a row that is not one of so many first ones
abbrev pub is_past : ℕ → Act → Bool
is_past rows (Edge (Some p) change) = not (nat_lt p.row rows)
is_past rows _ = false

abbrev pub is_expiry : Act → Bool
is_expiry (Edge place change) = false
is_expiry (Expire time) = true

-- whether it acts on a row: an expiry does on every one
abbrev pub does_act : ℕ → Act → Bool
does_act row act = is_on_row row act || is_expiry act

-- an operation's edge, by the source of its row
abbrev pub key_placed : ℕ → Option Place → Option Key
key_placed source None = None
key_placed source (Some p) = Some (record { kind = p.kind.0; source = source; target = p.target })

-- whether it is an expiry of a time later than one
abbrev pub is_later : ℕ → Act → Bool
is_later since (Edge place change) = false
is_later since (Expire time) = nat_lt since time

-- whether it may change a row that has no edge from before a time
abbrev pub may_change : ℕ → ℕ → Act → Bool
may_change row since act = is_on_row row act || is_later since act

-- a place that is not before one, with an operation of a kind, or else the end; no operation between them is needed
pub record LeadsToStep (needed of : Act → Bool) (steps : List Step) (place next : ℕ) : Type 0 where
  pub ahead : place ≤ next
  pub within : next ≤ length steps
  pub between : (k : ℕ) (s : Step) → place ≤ k → k < next → needed (get_or steps k s).act ≡ false
  pub there : (s : Step) → next < length steps → of (get_or steps next s).act ≡ true

-- the first operation of a kind that is not before a place, or else the end
abbrev pub IsNextStep : (Act → Bool) → List Step → ℕ → ℕ → Type 0
IsNextStep of steps place next = LeadsToStep of of steps place next

-- of the operations from a place on, the first on each row's edges, and after each of them the next on its row
pub record AreStepGroups (place : ℕ) (steps : List Step) (first next : List ℕ) : Type 0 where
  pub firsts : (row : ℕ) → row < length first → IsNextStep (is_on_row row) steps place (get_or first row 0)
  pub nexts : (row k : ℕ) (s : Step) → place ≤ k → k < length steps → is_on_row row (get_or steps k s).act ≡ true
      → IsNextStep (is_on_row row) steps (k + 1) (get_or next k 0)

-- for each place from one on, the first expiry that is not before it
pub record AreExpiries (place : ℕ) (steps : List Step) (expiries : List ℕ) : Type 0 where
  pub long : length expiries ≡ length steps + 1
  pub are : (k : ℕ) → place ≤ k → k ≤ length steps → IsNextStep is_expiry steps k (get_or expiries k 0)

-- the row is this source's, and no other source's
pub record IsSourceRow (sources : List ℕ) (steps : List Step) (row source : ℕ) : Type 0 where
  pub steps_are : AreSteps (length sources) steps
  pub distinct : AllPairs (λ a b. a ≢ b) sources
  pub within : row < length sources
  pub source_is : slice_index sources row ≡ source

-- the outcome of the k-th operation, where an expiry counts the edges of some of the sources
abbrev pub outcome_over : List ℕ → List ℕ → List Step → (ℕ → List OpenBlock) → ℕ → Outcome
outcome_over counted sources steps rows k = get_or (outcomes_all counted (resolved_in sources steps) rows) k Absent

-- an expiry's outcome counts edges, as the program tells it
abbrev pub IsTold : Act → Outcome → Type 0
IsTold (Edge place change) outcome = Unit {0}
IsTold (Expire time) outcome = (count : ℕ) × (outcome ≡ told (Expired count))

-- what is told of an operation before the first row
abbrev pub none_told : Act → Outcome
none_told (Edge place change) = Absent
none_told (Expire time) = Expired 0

-- what an operation on a source's row leaves of it, and its outcome there
abbrev pub act_step : ℕ → Act → List OpenBlock → List OpenBlock
act_step source (Edge place change) row = key_step change (key_placed source place) row
act_step source (Expire time) row = expire_row time row

abbrev pub act_outcome : ℕ → Act → List OpenBlock → Outcome
act_outcome source (Edge place change) row = key_outcome change (key_placed source place) (λ _. row)
act_outcome source (Expire time) row = Expired (old_in_row time row)

-- the operation's outcome in one more row is put together with that in the rows before
abbrev pub IsOneMore : List ℕ → List Step → (ℕ → List OpenBlock) → ℕ → ℕ → Outcome → Outcome → Type 0
IsOneMore sources steps rows source k before after =
    after ≡ told (together before (outcome_over (source ∷ []) sources steps rows k))
