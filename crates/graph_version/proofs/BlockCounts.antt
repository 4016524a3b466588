-- How many blocks rows have: a version at most 2 ^ 58, since each of its blocks has an edge.
use Rattle.std.proofs.Common.{◌≡◌, ℕ, suc, ◌≤◌, ◌^◌, false, List, [], ◌∷◌, length, arith, All, length-append}
use Rattle.std.{proofs.lemmas.{List.Elements.{All-head, All-tail, All-append}, Grind.common_steps}, specs.List.list_all}
use Rattle.edge_block.specs.Slots.{BlockView, is_free_slot}
use Rattle.edge_block.proofs.FreeSlots.{some_edges}
use Rattle.graph_version.specs.Rows.{row_of, blocks_of}
use Rattle.graph_version.specs.{Versions.VersionView, Versions.IsVersion, Edges.edges_in_block, Edges.edges_in_blocks}
use Rattle.graph_version.proofs.{Few.count_is_total, Few.few_total, Totals.count_one}
use Rattle.graph_version.proofs.RowBlocks.{row_within_all}

abbrev HasEdges : BlockView → Type 0
HasEdges b = list_all is_free_slot b.slots ≡ false

as_many_edges : (bs : List BlockView) → All HasEdges bs → length bs ≤ length (edges_in_blocks bs)
as_many_edges [] all = omega arith
as_many_edges (b ∷ bs) all =
    let here = some_edges b.slots (All-head HasEdges b bs all) in
    let rest = as_many_edges bs (All-tail HasEdges b bs all) in
    let both = length-append (edges_in_block b) (edges_in_blocks bs) in
    let one = count_one b in
    omega arith

all_have : (rows : List (List BlockView)) → ((s : ℕ) → All HasEdges (row_of rows s)) → All HasEdges (blocks_of rows)
all_have [] each = λ k d h. absurd (omega arith)
all_have (row ∷ rows) each = All-append HasEdges row (blocks_of rows) (each 0) (all_have rows (λ s. each (suc s)))

pub few_blocks : (v : VersionView) → IsVersion v → length (blocks_of v.rows) ≤ 2 ^ 58
few_blocks v is = grind (arith, common_steps, as_many_edges, all_have, count_is_total, few_total)

pub few_in_row : (v : VersionView) (source : ℕ) → IsVersion v → length (row_of v.rows source) ≤ 2 ^ 58
few_in_row v source is = omega (arith, few_blocks v is, row_within_all v.rows source)
