use Rattle.std.proofs.{Common.{◌<◌, length, arith, ℕ}, lemmas.List.{get_or-map, length-map}}
use Rattle.graph_types.specs.declared.ids.VertexId.{VertexId}
use Rattle.graph_levels.proofs.found.table.Goals as goal

pub index_mut-requires : goal.index_mut-requires
index_mut-requires c =
    let rows = c.args.rows.now in
    let k = c.loop-row.row-index in
    let vertex : VertexId × ℕ → ℕ = λ row. row.0.0 in
    let lt : k < length rows = omega (arith, c.loop-row-test.true) in
    let here = get_or-map vertex rows k (record { 0 = 0 }, 0) 0 lt in
    let below = c.requires k 0 (omega (arith, lt, length-map rows vertex)) in
    omega (arith, here, below, c.loop-row.invariant.long)
