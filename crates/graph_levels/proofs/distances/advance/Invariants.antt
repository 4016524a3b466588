use Rattle.std.proofs.Common.{◌≡◌, ℕ, List, ◌*◌, ◌≤◌, ◌++◌, [], length, drop}
use Rattle.graph_levels.specs.{Reached.AreVertexMarks, Reached.AreRows, Reached.level_table, Reached.vertices_of, Search.IsSearch}
use Rattle.graph_levels.proofs.distances.advance.Given as goal

abbrev pub invariant-loop-place : goal.invariant-loop-place
invariant-loop-place g l =
    let step = g.S.Steps.leads l.steps in
    let n = g.S.Steps.vertices l.steps in
    let old = l.fn.rows.items in
    record {
      words : n ≤ 64 * length l.marks;
      marks : AreVertexMarks l.marks l.rows.items;
      rows : AreRows n l.rows.items;
      front : l.rows.items ≡ old ++ drop (length old) l.rows.items;
      search : (sources : List ℕ) → IsSearch step sources (level_table n old) (vertices_of (drop l.first old)) [] l.depth
          → IsSearch step sources (level_table n l.rows.items) (vertices_of (drop l.place old))
          (vertices_of (drop (length old) l.rows.items)) l.depth;
    }
