-- The rows of all sources, and what a batch does to them.
use Rattle.std.specs.Prelude.{◌≡◌, ℕ, zero, suc, ◌+◌, ◌%◌, ◌<◌, ◌==◌, List, [], ◌∷◌, map, length, filter, Bool, true, false, ◌&&◌}
use Rattle.std.specs.{Prelude.if◌then◌else◌, List.sum_by, Option.is_some, FinMap.{FinMap, get}, declared.option.Option.Option}
use Rattle.std.specs.declared.option.Option.TheVariants.{None, Some}
use Rattle.graph_types.specs.{Graph.{Graph, Key, Stamp, key_cmp}, Step.{number_of, key_in, outcome_at}}
use Rattle.graph_types.specs.declared.batches.{NamedOp.NamedOp, Outcome.{Outcome, TheVariants.{Absent, Expired}}}
use Rattle.graph_types.specs.{declared.changes.EdgeChange.EdgeChange, Answer.is_listed}
use Rattle.graph_types.specs.Parts.{Parts, OfEdge, OfAll, parts_in, names_after, kinds_after}
use Rattle.edge_block.specs.Rows.{Shape, OpenBlock, row_at, edge_at, untouched, change_row, expire_row, old_in_row, row_end}
use Rattle.edge_block.specs.Rows.{taken_in, dropped_in, IsRow}

-- what an operation does, with the numbers of its names, none where a name is unknown at its place: it changes the edge at
-- its key, or expires edges of every row
pub data Resolved : Type 0 where
  AtKey : (source : Option ℕ) (key : Option Key) (change : EdgeChange) → Resolved
  InAll : (time : ℕ) → Resolved

-- an operation by the names and kinds that it leaves
abbrev pub resolve_parts : List (List ℕ) → List (List ℕ) → Parts → Resolved
resolve_parts names kinds (OfEdge change kind source target) =
    AtKey (if is_listed names source then Some (number_of names source) else None)
    (if is_listed kinds kind && (is_listed names source && is_listed names target)
    then Some (key_in names kinds kind source target) else None)
    change
resolve_parts names kinds (OfAll time) = InAll time

-- a batch's operations, each by the names at its place, under this limit of weights
abbrev pub resolved_by : ℕ → List NamedOp → List (List ℕ) → List (List ℕ) → List Resolved
resolved_by most [] names kinds = []
resolved_by most (op ∷ ops) names kinds =
    let names' = names_after op names in
    let kinds' = kinds_after op kinds in
    resolve_parts names' kinds' (parts_in most op) ∷ resolved_by most ops names' kinds'

-- the same over a graph
abbrev pub resolved : List NamedOp → Graph → List Resolved
resolved ops g = resolved_by g.limits.weight ops g.names g.kinds

-- whether the operation acts on the row of a source
abbrev pub key_is_of : ℕ → Option Key → Bool
key_is_of source None = false
key_is_of source (Some k) = source == k.source

abbrev pub acts_on : ℕ → Resolved → Bool
acts_on source (AtKey own key change) = key_is_of source key
acts_on source (InAll time) = true

-- what it leaves of a row that it acts on
abbrev pub key_step : EdgeChange → Option Key → List OpenBlock → List OpenBlock
key_step change None row = row
key_step change (Some k) row = change_row change (k.kind, k.target) row

abbrev pub row_step : Resolved → List OpenBlock → List OpenBlock
row_step (AtKey own key change) row = key_step change key row
row_step (InAll time) row = expire_row time row

-- its outcome: of an expiry, how many edges go from the rows of these sources
abbrev pub key_outcome : EdgeChange → Option Key → (ℕ → List OpenBlock) → Outcome
key_outcome change None rows = Absent
key_outcome change (Some k) rows = outcome_at change (edge_at (rows k.source) (k.kind, k.target))

abbrev pub outcome_in : List ℕ → Resolved → (ℕ → List OpenBlock) → Outcome
outcome_in sources (AtKey own key change) rows = key_outcome change key rows
outcome_in sources (InAll time) rows = Expired (sum_by (λ source. old_in_row time (rows source)) sources)

-- one operation changes the rows that it acts on, and no others
abbrev pub rows_step : Resolved → (ℕ → List OpenBlock) → ℕ → List OpenBlock
rows_step r rows source = if acts_on source r then row_step r (rows source) else rows source

abbrev pub rows_all : List Resolved → (ℕ → List OpenBlock) → ℕ → List OpenBlock
rows_all [] rows = rows
rows_all (r ∷ rs) rows = rows_all rs (rows_step r rows)

-- the outcomes of operations, where expiries count the edges of these sources
abbrev pub outcomes_all : List ℕ → List Resolved → (ℕ → List OpenBlock) → List Outcome
outcomes_all sources [] rows = []
outcomes_all sources (r ∷ rs) rows = outcome_in sources r rows ∷ outcomes_all sources rs (rows_step r rows)

-- the rows before the batch's first operation
abbrev pub opened_rows : (ℕ → List Shape) → ℕ → List OpenBlock
opened_rows layout source = map untouched (layout source)

-- the layout that a batch leaves
abbrev pub layout_after : List NamedOp → Graph → (ℕ → List Shape) → ℕ → List Shape
layout_after ops g layout source = row_end (rows_all (resolved ops g) (opened_rows layout) source)

abbrev pub sum_below : ℕ → (ℕ → ℕ) → ℕ
sum_below zero f = 0
sum_below (suc n) f = f n + sum_below n f

-- how many blocks a batch takes and drops, over n sources
abbrev pub taken_by : List NamedOp → Graph → (ℕ → List Shape) → ℕ → ℕ
taken_by ops g layout n =
    sum_below n (λ source. taken_in (rows_all (resolved ops g) (opened_rows layout) source))

abbrev pub dropped_by : List NamedOp → Graph → (ℕ → List Shape) → ℕ → ℕ
dropped_by ops g layout n =
    sum_below n (λ source. dropped_in (rows_all (resolved ops g) (opened_rows layout) source))

-- an edge's numbers are those of names and kinds
abbrev pub HasEndsWithin : Graph → Type 0
HasEndsWithin g =
    (k : Key) → is_some (get g.edges k) ≡ true
    → (k.kind < length g.kinds) × (k.source < length g.names) × (k.target < length g.names)

-- the layout has the map's edges, each once
pub record IsLayoutOf (layout : ℕ → List Shape) (edges : FinMap key_cmp Stamp) : Type 0 where
  pub distinct : (source : ℕ) → IsRow (layout source)
  pub shows : (k : Key) → row_at (layout k.source) (k.kind, k.target) ≡ get edges k

-- an operation with a key is on the key's source
abbrev pub IsPlaced : Resolved → Type 0
IsPlaced (AtKey source key change) = (k : Key) → key ≡ Some k → source ≡ Some k.source
IsPlaced (InAll time) = Unit {0}

-- the shard of an operation on an edge, by its source's number; an unknown source is in shard 0
abbrev pub shard_of : ℕ → Option ℕ → ℕ
shard_of workers None = 0
shard_of workers (Some source) = source % workers

-- each operation on an edge is in one shard, and an expiry in every one
abbrev pub is_in_shard : ℕ → ℕ → Resolved → Bool
is_in_shard workers w (AtKey source key change) = shard_of workers source == w
is_in_shard workers w (InAll time) = true

abbrev pub shard_ops : ℕ → ℕ → List Resolved → List Resolved
shard_ops workers w rs = filter (is_in_shard workers w) rs

-- of results, those of the elements that pass the test
abbrev pub picked : {A B : Type 0} → (A → Bool) → List A → List B → List B
picked p (x ∷ xs) (y ∷ ys) = if p x then y ∷ picked p xs ys else picked p xs ys
picked p _ _ = []
