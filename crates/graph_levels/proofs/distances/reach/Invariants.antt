use Rattle.std.proofs.Common.{◌≡◌, ℕ, ◌*◌, ◌-◌, ◌≤◌, [], length, drop}
use Rattle.graph_levels.specs.{Near.IsAtMost, Reached.AreVertexMarks, Reached.AreRows, Reached.level_table, Reached.vertices_of}
use Rattle.graph_levels.specs.Search.{HasLevel, IsSearch}
use Rattle.graph_levels.proofs.distances.reach.Given as goal

abbrev pub invariant-frontiers : goal.invariant-frontiers
invariant-frontiers g l =
    let n = g.S.Steps.vertices l.steps in
    record {
      words : n ≤ 64 * length l.marks;
      marks : AreVertexMarks l.marks l.rows.items;
      rows : AreRows n l.rows.items;
      search : IsSearch (g.S.Steps.leads l.steps) l.sources (level_table n l.rows.items) (vertices_of (drop l.first l.rows.items)) [] l.depth;
      flat : (v k : ℕ) → HasLevel (level_table n l.rows.items) k v → k ≤ l.depth;
      bound : IsAtMost l.most l.depth;
      room : length l.rows.items ≤ n;
      deep : l.depth ≤ l.first;
    }

abbrev pub decreases-frontiers : goal.decreases-frontiers
decreases-frontiers g l = g.S.Steps.vertices l.steps - l.first
