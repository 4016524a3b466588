-- What a version keeps beside its batches and rows: what it began with, two books of names, and how many edges there are.
use Rattle.std.specs.{Prelude.{◌≡◌, ℕ, List, Bool}, Arc.arc_value, FinMap.len}
use Rattle.graph_types.specs.{Graph.{Graph, graph_in}, declared.batches.NamedOp.NamedOp}
use Rattle.edge_block.specs.Slots.{BlockView}
use Rattle.vertex_names.specs.Book.{Book}
use Rattle.graph_version.specs.{Versions.{VersionView, content, IsVersion}, declared.listed.ListedContent.ListedContent}
use Rattle.graph_version.specs.declared.opening.Opening.{Opening, TheVariants.{Alone, Shared, Told}}
use Rattle.graph_version.specs.Logs.{keeps_batches}

-- the books of a graph's vertex names and kind names, each with the graph's limit
abbrev pub vertex_book : Graph → Book
vertex_book g = record { limit = g.limits.names; names = g.names }

abbrev pub kind_book : Graph → Book
kind_book g = record { limit = g.limits.kinds; names = g.kinds }

-- what a version began with, as a graph
abbrev pub opening_graph : Opening → Graph
opening_graph (Alone listed) = graph_in listed.limits listed.content
opening_graph (Shared listed) = graph_in (arc_value {X = ListedContent} listed).limits (arc_value {X = ListedContent} listed).content
opening_graph (Told told) = told.graph

-- the version of this opening graph, and these batches and rows
abbrev pub version_of : Graph → List (List NamedOp) → List (List BlockView) → VersionView
version_of opening batches rows = record { opening = opening; batches = batches; rows = rows }

-- how many edges a version has
abbrev pub edge_total : VersionView → ℕ
edge_total v = len (content v).edges

-- the books list the content's names, the count is that of its edges, and batches are kept where the limits say so
pub record IsSummary (names kinds : Book) (edges : ℕ) (keeps : Bool) (v : VersionView) : Type 0 where
  pub names_are : names ≡ vertex_book (content v)
  pub kinds_are : kinds ≡ kind_book (content v)
  pub edges_are : edges ≡ edge_total v
  pub keeps_are : keeps ≡ keeps_batches v.opening.limits
  pub version : IsVersion v
