-- The rows from which a batch's expiries may take edges.
use Rattle.std.specs.Prelude.{◌≡◌, ◌≢◌, ℕ, ◌<◌, ◌%◌, ◌==◌, List, map, filter, All, AllPairs, true, nat_eq}
use Rattle.std.specs.List.{list_any, sum_by}
use Rattle.graph_types.specs.declared.batches.NamedOp.{NamedOp}
use Rattle.graph_types.specs.Parts.{Parts, OfEdge, OfAll, parts_of}
use Rattle.edge_block.specs.Slots.{BlockView}
use Rattle.batch_shards.specs.Spending.{latest_by, old_blocks}
use Rattle.batch_apply.specs.declared.old.OldRow.{OldRow}

-- the greatest time of a batch's expiries, 0 where it has none
abbrev pub time_in : Parts → ℕ
time_in (OfEdge change kind source target) = 0
time_in (OfAll time) = time

abbrev pub expiry_time : List NamedOp → ℕ
expiry_time ops = latest_by (λ op. time_in (parts_of op)) ops

abbrev pub old_sources : List OldRow → List ℕ
old_sources old = map (λ r. r.source.0) old

-- these are the rows with a block that has an edge from before a time, each once, with how many such blocks it has
pub record AreOldRows (time : ℕ) (rows : ℕ → List BlockView) (old : List OldRow) : Type 0 where
  pub distinct : AllPairs (λ a b. a ≢ b) (old_sources old)
  pub blocks : All (λ r. (r.blocks ≡ old_blocks time (rows r.source.0)) × (0 < r.blocks)) old
  pub all_listed : (s : ℕ) → 0 < old_blocks time (rows s) → list_any (nat_eq s) (old_sources old) ≡ true

-- a worker's rows among them, and how many old blocks rows have together
abbrev pub own_rows : ℕ → ℕ → List OldRow → List OldRow
own_rows workers w old = filter (λ r. r.source.0 % workers == w) old

abbrev pub blocks_in : List OldRow → ℕ
blocks_in old = sum_by (λ r. r.blocks) old
