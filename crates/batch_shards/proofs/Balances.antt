-- What stays, is dropped, is written and is handed back adds up, block by block and row by row.
use Rattle.std.proofs.Common.{◌≡◌, ℕ, ◌+◌, Bool, List, [], map, flat_map, count_by, ap, ◌∙◌}
use Rattle.std.{proofs.Common.arith, specs.Option.option_to_list}
use Rattle.graph_types.proofs.{Joined.{map-pieces, none_of}, Sums.{adds_up, balance}}
use Rattle.edge_block.specs.{Slots.BlockView, Rows.{shape_of, has_none}}
use Rattle.edge_block.proofs.BlockCounts.{one_before, one_after, one_number}
use Rattle.batch_shards.specs.{RowBlocks.{block_of, had_here, had_in, own_here, own_in}, Closing.{after_here, stays_here}}
use Rattle.batch_shards.specs.Closing.{written_here, dropped_here, unused_here, after_of, stays_of, written_of, dropped_of}
use Rattle.batch_shards.specs.{Closing.{unused_of, stays_all, written_blocks, dropped_all, unused_all}, Shards.{had_all, own_all}}
use Rattle.batch_shards.specs.declared.{row_blocks.RowBlock.RowBlock, shard.OpenRow.OpenRow}

row_before : (p : BlockView → Bool) (row : List RowBlock) → count_by p (stays_of row) + count_by p (dropped_of row)
    ≡ count_by p (had_in row)
row_before p row = adds_up p stays_here dropped_here had_here
    (λ h. one_before h.touched (block_of h.block) (map block_of (option_to_list h.before)) p) row

row_after : (p : BlockView → Bool) (row : List RowBlock) → count_by p (stays_of row) + count_by p (written_of row)
    ≡ count_by p (after_of row)
row_after p row = adds_up p stays_here written_here after_here
    (λ h. one_after h.touched (has_none (shape_of (block_of h.block))) (block_of h.block) p) row

pub all_before : (work : List OpenRow) (p : BlockView → Bool) → count_by p (stays_all work) + count_by p (dropped_all work)
    ≡ count_by p (had_all work)
all_before work p = adds_up p (λ (r : OpenRow). stays_of r.blocks.items) (λ (r : OpenRow). dropped_of r.blocks.items)
    (λ (r : OpenRow). had_in r.blocks.items) (λ r. row_before p r.blocks.items) work

pub all_after : (work : List OpenRow) (p : BlockView → Bool) → count_by p (stays_all work) + count_by p (written_blocks work)
    ≡ count_by p (flat_map (λ r. after_of r.blocks.items) work)
all_after work p = adds_up p (λ (r : OpenRow). stays_of r.blocks.items) (λ (r : OpenRow). written_of r.blocks.items)
    (λ (r : OpenRow). after_of r.blocks.items) (λ r. row_after p r.blocks.items) work

row_numbers : (q : ℕ → Bool) (row : List RowBlock)
    → count_by q (map (λ b. b.number) (written_of row)) + count_by q (unused_of row) ≡ count_by q (own_in row)
row_numbers q row =
    let sum = balance q (λ (h : RowBlock). map (λ b. b.number) (written_here h)) unused_here own_here (λ _. [])
    (λ h. one_number h.touched (has_none (shape_of (block_of h.block))) (block_of h.block) q) row in
    let pieces = ap (count_by q) (map-pieces (λ (b : BlockView). b.number) written_here row) in
    let nothing : count_by q (let f : RowBlock → List ℕ = λ _. [] in flat_map f row) ≡ 0 =
    ap (count_by q) (none_of {A = ℕ} row) in
    omega arith

pub all_numbers : (q : ℕ → Bool) (work : List OpenRow)
    → count_by q (map (λ b. b.number) (written_blocks work)) + count_by q (unused_all work) ≡ count_by q (own_all work)
all_numbers q work =
    let sum = balance q (λ (r : OpenRow). map (λ b. b.number) (written_of r.blocks.items))
    (λ (r : OpenRow). unused_of r.blocks.items) (λ (r : OpenRow). own_in r.blocks.items) (λ _. [])
    (λ r. row_numbers q r.blocks.items ∙ (omega arith)) work in
    let pieces = ap (count_by q) (map-pieces (λ (b : BlockView). b.number) (λ (r : OpenRow). written_of r.blocks.items) work) in
    let nothing : count_by q (let f : OpenRow → List ℕ = λ _. [] in flat_map f work) ≡ 0 =
    ap (count_by q) (none_of {A = ℕ} work) in
    omega arith
