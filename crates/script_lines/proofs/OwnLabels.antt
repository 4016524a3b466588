-- As many lines name a vertex as its own label as there are different labels.
use Rattle.std.proofs.Common.{◌≡◌, ℕ, ◌+◌, ◌<◌, ◌≤◌, ◌≢◌, List, [], map, length, get_or, count_by, zip, bytes_eq, inl, inr, refl}
use Rattle.std.proofs.{Common.{sym, ap, arith}, lemmas.{Bool.{cases_lt, false≢true}, Option.slice_get-get_or}}
use Rattle.std.specs.Prelude.{AllPairs}
use Rattle.graph_types.specs.{Analyses.{AreLabels, IsLabel}, Answer.names_of_vertices, Graph.Graph, declared.ids.Filter.Filter}
use Rattle.graph_types.proofs.{ArcTables.own_label, LabelNames.{rows_from, counted, AreOwn, Seen}}
use Rattle.script_lines.specs.Lines.{count_different}

-- of the labels of all vertices, as many are different as vertices are their own label
pub own_labels : (f : Filter) (g : Graph) (labels : List ℕ) → AllPairs (λ a b. a ≢ b) g.names → AreLabels f g labels
    → count_by (λ entry. bytes_eq entry.0 entry.1) (zip g.names (names_of_vertices g.names labels))
    ≡ count_different (map (λ entry. entry.1) (zip g.names (names_of_vertices g.names labels)))
own_labels f g labels distinct table =
    rw (rows_from label name 0 g.names labels table.one_each (λ k j is below. ap name (place k j is))
    (λ k j is below. ap label (place k j is)))
    (nothing_before _ _ (counted (length g.names) label name are 0 (length g.names) [] (omega arith) none))
  where
    nothing_before : (a b : ℕ) → a ≡ 0 + b → b ≡ a
    nothing_before a b same = omega arith

    place : (k j : ℕ) → j ≡ 0 + k → k ≡ j
    place k j is = omega arith

    label : ℕ → ℕ
    label v = get_or labels v 0

    name : ℕ → List ℕ
    name v = get_or g.names v []

    is_label : (v : ℕ) → v < length g.names → IsLabel f g v (label v)
    is_label v within = table.each v (label v) (slice_get-get_or labels v 0 (omega (arith, table.one_each)))

    most : (v : ℕ) → v < length g.names → label v ≤ v
    most v within = (is_label v within).1 v (0, refl)

    apart : (a b : ℕ) → a < length g.names → b < length g.names → name a ≡ name b → a ≡ b
    apart a b a_within b_within same = elim (cases_lt a b) [
      | inl less ↦ absurd (distinct a b [] less b_within same)
      | inr least ↦ elim (cases_lt b a) [
        | inl less ↦ absurd (distinct b a [] less a_within (sym same))
        | inr other ↦ omega arith
      ]
    ]

    are : AreOwn (length g.names) label name
    are = record {
      different = apart;
      least = most;
      own = λ v within. own_label f g v (label v) (label (label v)) (is_label v within)
          (is_label (label v) (let below = most v within in omega arith));
    }

    none : Seen label name 0 []
    none = record { from = λ n listed. absurd (false≢true listed); each = λ w below. absurd (omega arith) }
