-- Version 0 over rows that were made apart.
use Rattle.std.proofs.Common.{◌≡◌, ◌≢◌, ◌∙◌, ℕ, List, [], Bool, All, AllPairs, length, refl, sym, ap, subst}
use Rattle.graph_types.specs.{Graph.{Graph, graph_in, stamp_of, map_of}, Limits.LimitsView, declared.{batches.NamedOp.NamedOp, contents.Content.Content}}
use Rattle.graph_types.specs.Graph.{IsContentIn}
use Rattle.graph_types.proofs.Keys.{len_once}
use Rattle.edge_block.specs.Slots.{BlockView, IsStamp}
use Rattle.vertex_names.specs.Book.{Book}
use Rattle.graph_version.specs.{Begun.{graph_by, begun_over}, Edges.edges_in_blocks, Rows.blocks_of, Versions.IsVersion}
use Rattle.graph_version.specs.{Kept.{IsSummary, version_of, vertex_book, kind_book}, Logs.keeps_batches}
use Rattle.graph_version.proofs.{Rebased.{same_content, listed_content}, Shown.rows_each_once}

-- as many edges as its rows list
edges_listed : (limits : LimitsView) (names kinds : List (List ℕ)) (rows : List (List BlockView)) (edges : ℕ)
    → IsVersion (begun_over limits names kinds rows) → edges ≡ length (edges_in_blocks (blocks_of rows)) → IsSummary
    (vertex_book (graph_by limits names kinds rows)) (kind_book (graph_by limits names kinds rows)) edges (keeps_batches limits)
    (begun_over limits names kinds rows)
edges_listed limits names kinds rows edges is e = record {
  names_are = refl;
  kinds_are = refl;
  edges_are = e ∙ sym (len_once (edges_in_blocks (blocks_of rows)) (rows_each_once (graph_by limits names kinds rows) rows is.rows).once);
  keeps_are = refl;
  version = is;
}

-- what it keeps
pub begun_kept : (limits : LimitsView) (names kinds : Book) (rows : List (List BlockView)) (edges : ℕ) (keeps : Bool)
    (opening : Graph) (batches : List (List NamedOp)) → names.limit ≡ limits.names → kinds.limit ≡ limits.kinds
    → edges ≡ length (edges_in_blocks (blocks_of rows)) → IsVersion (begun_over limits names.names kinds.names rows)
    → opening ≡ graph_by limits names.names kinds.names rows → batches ≡ [] → keeps ≡ keeps_batches limits
    → IsSummary names kinds edges keeps (version_of opening batches rows)
begun_kept limits names kinds rows edges keeps opening batches n k e is o b kept =
    subst (λ (bs : List (List NamedOp)). IsSummary names kinds edges keeps (version_of opening bs rows)) (sym b)
    (subst (λ (g : Graph). IsSummary names kinds edges keeps (version_of g [] rows)) (sym o)
    (let all = edges_listed limits names.names kinds.names rows edges is e in
    record {
      names_are = λ i. record { limit = n i; names = names.names };
      kinds_are = λ i. record { limit = k i; names = kinds.names };
      edges_are = all.edges_are;
      keeps_are = kept;
      version = is;
    }))

-- its graph's lists
pub begun_same : (limits : LimitsView) (names kinds : List (List ℕ)) (rows : List (List BlockView)) (c : Content)
    → IsVersion (begun_over limits names kinds rows) → c.names ≡ names → c.kinds ≡ kinds
    → c.edges ≡ edges_in_blocks (blocks_of rows) → graph_in limits c ≡ graph_by limits names kinds rows
begun_same limits names kinds rows c is n k e =
    same_content (vertex_book (graph_by limits names kinds rows)) (kind_book (graph_by limits names kinds rows))
    (length (edges_in_blocks (blocks_of rows))) (keeps_batches limits) (begun_over limits names kinds rows) c limits
    (edges_listed limits names kinds rows _ is refl) n k e refl

-- they are a content
pub begun_content : (limits : LimitsView) (names kinds : List (List ℕ)) (rows : List (List BlockView)) (c : Content)
    → IsVersion (begun_over limits names kinds rows) → AllPairs (λ a b. a ≢ b) c.names → AllPairs (λ a b. a ≢ b) c.kinds
    → All (λ e. IsStamp (stamp_of e)) c.edges → c.names ≡ names → c.kinds ≡ kinds → c.edges ≡ edges_in_blocks (blocks_of rows)
    → IsContentIn limits c
begun_content limits names kinds rows c is apart kinds_apart stamps n k e =
    listed_content (vertex_book (graph_by limits names kinds rows)) (kind_book (graph_by limits names kinds rows))
    (length (edges_in_blocks (blocks_of rows))) (keeps_batches limits) (begun_over limits names kinds rows) c limits
    (edges_listed limits names kinds rows _ is refl) apart kinds_apart stamps e (begun_same limits names kinds rows c is n k e)
