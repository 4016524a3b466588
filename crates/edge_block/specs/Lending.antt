-- Edges as a block lends them.
use Rattle.std.specs.{Prelude.{◌≡◌, ℕ, List, map}, declared.option.Option.TheVariants.Some}
use Rattle.graph_types.specs.Graph.{Key, Stamp}
use Rattle.lane_scan.specs.Masks.{selected}
use Rattle.edge_block.specs.{declared.blocks.{EdgeRef.EdgeRef, BlockIter.BlockIter}, Slots.{Slot, BlockView, edge_stamp}}
use Rattle.edge_block.specs.Slots.{edges_in, stamp_at}

-- a lent edge: its kind, its target, and what it bears; its source is the block's
pub record LentEdge : Type 0 where
  pub kind : ℕ
  pub target : ℕ
  pub stamp : Stamp

-- what a lent edge shows
abbrev pub lent_edge : EdgeRef → LentEdge
lent_edge e = record { kind = e.kind.0; target = e.target.now; stamp = edge_stamp e.weight.now e.first.now e.recent.now }

-- a lent edge is the block's edge to the target
pub record IsEdgeTo (b : BlockView) (target : ℕ) (edge : EdgeRef) : Type 0 where
  pub of_kind : edge.kind.0 ≡ b.kind
  pub to_target : edge.target.now ≡ target
  pub stands : stamp_at b.slots target ≡ Some (edge_stamp edge.weight.now edge.first.now edge.recent.now)

-- an edge of a key and a stamp, as a block lends it
abbrev pub lent_of : Key × Stamp → LentEdge
lent_of entry = record { kind = entry.0.kind; target = entry.0.target; stamp = entry.1 }

-- an edge in a block's slot, as the block lends it
abbrev pub lent_in : BlockView → Slot → LentEdge
lent_in b e = record { kind = b.kind; target = e.target; stamp = e.stamp }

-- the edges that are still to be lent, in slot order
abbrev pub edges_left : BlockIter → List LentEdge
edges_left it = map (lent_in it.block.now) (edges_in (selected it.mask it.block.now.slots))
