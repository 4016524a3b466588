-- The rows of pages, one page behind the other.
use Rattle.std.specs.{Prelude.{List, flat_map}, Arc.arc_value, declared.{sync.Arc.Arc, alloc.Global.Global}}
use Rattle.edge_block.specs.Slots.{BlockView}
use Rattle.list_pieces.specs.Pieces.{AreFull}
use Rattle.graph_version.specs.declared.row_page.Page.{Page}

abbrev pub in_page : Arc Page Global → List (List BlockView)
in_page page = arc_value {X = Page} page

abbrev pub in_pages : List (Arc Page Global) → List (List BlockView)
in_pages pages = flat_map in_page pages

abbrev pub ArePages : List (Arc Page Global) → Type 0
ArePages pages = AreFull 64 in_page pages
