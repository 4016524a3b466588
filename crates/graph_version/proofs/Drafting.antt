-- A draft's beginning and end.
use Rattle.std.proofs.Common.{◌≡◌, ℕ, ◌%◌, ◌^◌, ◌==◌, List, [], ◌∷◌, ◌++◌, Bool, cond, refl, sym, ap, ◌∙◌, arith}
use Rattle.std.proofs.lemmas.List.{map-append}
use Rattle.graph_types.specs.{Graph.Graph, declared.{batches.NamedOp.NamedOp, ids.VertexId.VertexId}}
use Rattle.edge_block.specs.Slots.{BlockView}
use Rattle.vertex_names.specs.Book.{Book}
use Rattle.graph_version.specs.Rows.{row_of, Replaces}
use Rattle.graph_version.specs.Drafts.{row_values, row_among}
use Rattle.graph_version.{specs.{Kept.{version_of, edge_total, IsSummary}, Logs.keeps_batches, Drafts.{DraftView, IsWhole}}, proofs.Few.few_total}

-- the draft of these parts
abbrev pub draft_of : Book → Book → Graph → List (List NamedOp) → List (List BlockView) → DraftView
draft_of names kinds opening batches rows = record { names = names; kinds = kinds; version = version_of opening batches rows }

-- a draft of these books, and of what else a version has
pub drafted : (names kinds : Book) (opening old_opening : Graph) (batches old_batches : List (List NamedOp))
    (rows old_rows : List (List BlockView)) → opening ≡ old_opening → batches ≡ old_batches → rows ≡ old_rows
    → draft_of names kinds opening batches rows ≡ draft_of names kinds old_opening old_batches old_rows
drafted names kinds opening old_opening batches old_batches rows old_rows o b r = rw (o, b, r) refl

-- the count of a version's edges, where it is known modulo 2^64
pub whole_kept : (names kinds : Book) (opening : Graph) (batches : List (List NamedOp)) (rows : List (List BlockView))
    (edges : ℕ) (keeps : Bool) → keeps ≡ keeps_batches opening.limits
    → IsWhole (draft_of names kinds opening batches rows) → edges ≡ edge_total (version_of opening batches rows) % 2 ^ 64
    → IsSummary names kinds edges keeps (version_of opening batches rows)
whole_kept names kinds opening batches rows edges keeps kept is count = record {
  names_are = is.names_are;
  kinds_are = is.kinds_are;
  edges_are = omega (arith, count, few_total (version_of opening batches rows) is.version);
  keeps_are = kept;
  version = is.version;
}

-- one more row
among_more : (rows : List (ℕ × List BlockView)) (r : ℕ × List BlockView) (source : ℕ) (row : List BlockView)
    → row_among (rows ++ r ∷ []) source row ≡ cond (source == r.0) r.1 (row_among rows source row)
among_more [] r source row = refl
among_more (x ∷ rows) r source row = among_more rows r source (cond (source == x.0) x.1 row)

-- rows that took the places of those before, with one more
pub put_more : (rows : List (VertexId × List BlockView)) (r : VertexId × List BlockView) (first before after : List (List BlockView))
    → ((s : ℕ) → row_of before s ≡ row_among (row_values rows) s (row_of first s)) → Replaces r.0.0 r.1 before after
    → (s : ℕ) → row_of after s ≡ row_among (row_values (rows ++ r ∷ [])) s (row_of first s)
put_more rows r first before after was put s =
    put s ∙ ap (cond (s == r.0.0) r.1) (was s) ∙ sym (among_more (row_values rows) (r.0.0, r.1) s (row_of first s))
    ∙ ap (λ rs. row_among rs s (row_of first s))
    (sym (map-append (λ (w : VertexId × List BlockView). (w.0.0, w.1)) rows (r ∷ [])))
