-- Batches in pages of 16.
use Rattle.std.specs.{Prelude.{List, flat_map}, Arc.arc_value, declared.{sync.Arc.Arc, alloc.Global.Global}}
use Rattle.graph_types.specs.declared.batches.NamedOp.{NamedOp}
use Rattle.list_pieces.specs.Pieces.{ArePieces}
use Rattle.graph_version.specs.declared.batch_page.BatchPage.{BatchPage}

abbrev pub in_page : Arc BatchPage Global → List (List NamedOp)
in_page page = arc_value {X = BatchPage} page

abbrev pub in_pages : List (Arc BatchPage Global) → List (List NamedOp)
in_pages pages = flat_map in_page pages

abbrev pub ArePages : List (Arc BatchPage Global) → Type 0
ArePages pages = ArePieces 16 in_page pages
