use Rattle.std.proofs.Common.{ℕ, ◌<◌, ◌≤◌, ◌^◌, get_or}
use Rattle.graph_types.specs.declared.ids.VertexId.{VertexId}
use Rattle.owned_desk.proofs.touched.room_for.Given as goal

abbrev pub invariant-loop-source : goal.invariant-loop-source
invariant-loop-source l = record {
  room : (k : ℕ) (d : VertexId) → k < l.source-index → (get_or l.sources k d).0 < l.room;
  few : l.room ≤ 2 ^ 32;
}
