-- The open rows of a shard's sources, and its operations.
use Rattle.std.specs.{Prelude.{◌≡◌, ℕ, ◌<◌, List, map, flat_map, All, slice_index}, declared.option.Option.Option}
use Rattle.std.specs.declared.option.Option.TheVariants.{None, Some}
use Rattle.graph_types.specs.{Graph.Key, Changes.IsChange}
use Rattle.edge_block.specs.{Slots.BlockView, Rows.OpenBlock, Batches.{Resolved, AtKey, InAll}}
use Rattle.batch_shards.specs.{RowBlocks.{opens, had_in, own_in, IsOf}, declared.shard.{OpenRow.OpenRow, Place.Place, Act.Act}}
use Rattle.batch_shards.specs.declared.shard.{Act.TheVariants.{Edge, Expire}, Step.Step}

-- the open rows are those of their sources
abbrev pub AreOpen : (ℕ → List OpenBlock) → List OpenRow → Type 0
AreOpen rows work = All (λ r. opens r.blocks.items ≡ rows r.source.0) work

-- each block of an open row has the row's source
abbrev pub AreOwn : List OpenRow → Type 0
AreOwn work = All (λ r. All (IsOf r.source.0) r.blocks.items) work

abbrev pub sources_of : List OpenRow → List ℕ
sources_of work = map (λ r. r.source.0) work

-- the blocks that the rows had before the batch
abbrev pub had_all : List OpenRow → List BlockView
had_all work = flat_map (λ r. had_in r.blocks.items) work

-- the numbers of the fresh blocks in the rows
abbrev pub own_all : List OpenRow → List ℕ
own_all work = flat_map (λ r. own_in r.blocks.items) work

-- the place is one of so many rows
abbrev pub IsPlace : ℕ → Option Place → Type 0
IsPlace rows None = Unit {0}
IsPlace rows (Some p) = p.row < rows

abbrev pub key_at : List ℕ → Option Place → Option Key
key_at sources None = None
key_at sources (Some p) = Some (record { kind = p.kind.0; source = slice_index sources p.row; target = p.target })

abbrev pub source_at : List ℕ → Option Place → Option ℕ
source_at sources None = None
source_at sources (Some p) = Some (slice_index sources p.row)

abbrev pub resolved_at : List ℕ → Act → Resolved
resolved_at sources (Edge place change) = AtKey (source_at sources place) (key_at sources place) change
resolved_at sources (Expire time) = InAll time

-- the shard's operations
abbrev pub resolved_in : List ℕ → List Step → List Resolved
resolved_in sources steps = map (λ s. resolved_at sources s.act) steps

-- one on an edge has it in one of so many rows, and a weight and a time in range
abbrev pub IsActChange : Act → Type 0
IsActChange (Edge place change) = IsChange change
IsActChange (Expire time) = Unit {0}

abbrev pub IsAct : ℕ → Act → Type 0
IsAct rows (Edge place change) = IsPlace rows place × IsChange change
IsAct rows (Expire time) = Unit {0}

abbrev pub AreSteps : ℕ → List Step → Type 0
AreSteps rows steps = All (λ s. IsAct rows s.act) steps
