use Rattle.std.proofs.Common.{◌≡◌, ◌≤◌, ◌<◌, ℕ, All, take, length, get_or}
use Rattle.std.specs.FinMap.{empty}
use Rattle.graph_types.specs.Graph.{map_of}
use Rattle.batch_columns.specs.Operations.{table_of}
use Rattle.opening_columns.specs.{Puts.{after_puts, put_key, key_number}, Edges.{AreRising, IsWithinBounds, edge_number}, declared.numbering.Put.Put}
use Rattle.opening_columns.proofs.folding.folded.Given as goal

abbrev pub invariant-loop-put : goal.invariant-loop-put
invariant-loop-put l = record {
  map : map_of l.edges.items ≡ after_puts (table_of l.columns) l.most (take l.put-index l.puts) empty;
  rising : AreRising l.edges.items;
  range : All IsWithinBounds l.edges.items;
  below : (j : ℕ) (d : Put) → l.put-index ≤ j → j < length l.puts
      → All (λ e. edge_number e ≤ key_number (put_key (get_or l.puts j d))) l.edges.items;
}
