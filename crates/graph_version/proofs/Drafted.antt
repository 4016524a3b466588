-- A draft after rows took the places of others: which version it is, and whose rows it has.
use Rattle.std.proofs.Common.{◌≡◌, ℕ, false, cond, List, [], ◌∷◌, ◌++◌, map, ◌==◌, refl, ap, ◌∙◌, arith}
use Rattle.std.proofs.lemmas.{Bool.or_parts, Grind.common_steps}
use Rattle.std.specs.{FinMap.len, List.list_any}
use Rattle.graph_types.specs.{Step.after_all, declared.{batches.NamedOp.NamedOp, ids.VertexId.VertexId}}
use Rattle.graph_types.proofs.More.{left_more}
use Rattle.edge_block.specs.Slots.{BlockView}
use Rattle.vertex_names.specs.Book.{Book}
use Rattle.graph_version.specs.Drafts.{with_batch, DraftView, drafted_over, ReplacesRows, row_among, IsWhole, row_values}
use Rattle.graph_version.specs.{Kept.{edge_total, vertex_book, kind_book}, Rows.row_of}
use Rattle.graph_version.specs.Versions.{VersionView, content, IsVersion}

module _ (v : VersionView) (ops : List NamedOp) (names kinds : Book) (values : List (ℕ × List BlockView))
    (d1 d2 d3 : DraftView)
    (e1 : d1 ≡ record (drafted_over v) { names = names; kinds = kinds }) (e2 : ReplacesRows values d1 d2)
    (e3 : d3 ≡ with_batch d2 ops) where
  pub draft_is : d3 ≡ record {
    names = names;
    kinds = kinds;
    version =
        record { opening = v.opening; batches = v.batches ++ ops ∷ []; rows = d2.version.rows };
  }
  draft_is =
      e3 ∙ ap (λ d. with_batch d ops)
      (e2.rest
      ∙ ap (λ (d : DraftView). let r : DraftView = record d { version = record d.version { rows = d2.version.rows } } in r)
      e1)

  pub edges_left : edge_total d3.version ≡ len (after_all ops (content v)).edges
  edges_left = grind (arith, common_steps, draft_is, left_more)

  pub draft_among : (s : ℕ) → row_of d2.version.rows s ≡ row_among values s (row_of v.rows s)
  draft_among s = e2.rows_are s ∙ ap (λ (d : DraftView). row_among values s (row_of d.version.rows s)) e1

  pub draft_whole : names ≡ vertex_book (after_all ops (content v)) → kinds ≡ kind_book (after_all ops (content v))
      → IsVersion (record { opening = v.opening; batches = v.batches ++ ops ∷ []; rows = d2.version.rows }) → IsWhole d3
  draft_whole n k is = grind (arith, common_steps, draft_is, left_more)

pub among_others : (rows : List (VertexId × List BlockView)) (s : ℕ) (row : List BlockView)
    → list_any (λ (v : VertexId). s == v.0) (map (λ (r : VertexId × List BlockView). r.0) rows) ≡ false
    → row_among (row_values rows) s row ≡ row
among_others [] s row none = refl
among_others (r ∷ rows) s row none =
    let both = or_parts (s == r.0.0)
    (list_any (λ (v : VertexId). s == v.0) (map (λ (r : VertexId × List BlockView). r.0) rows)) none in
    ap (λ b. row_among (row_values rows) s (cond b r.1 row)) both.0 ∙ among_others rows s row both.1
