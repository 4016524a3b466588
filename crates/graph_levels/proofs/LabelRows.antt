-- Rows of names and levels or labels, one vertex after another.
use Rattle.std.proofs.Common.{◌≡◌, ℕ, ◌+◌, ◌<◌, ◌≤◌, min, cond, List, [], ◌∷◌, map, length, get_or, take, drop, Some, None}
use Rattle.std.proofs.{Common.{Option, bytes_eq, refl, sym, ap, ◌∙◌, arith}, lemmas.List.{length-map, get_or-map}}
use Rattle.std.specs.{List.filter_map, Prelude.{zip, count_by, ◌==◌}}
use mir.Val.{bool_byte}
use Rattle.graph_types.specs.{Answer.{names_of_vertices, level_row}, declared.ids.VertexId.VertexId}
use Rattle.graph_types.proofs.{AnalysisReplies.bool_value, ListedNames.{zip_none, next_name}, TableSums.sum_more}
use Rattle.vertex_names.specs.Book.{Book, IsBook}
use Rattle.vertex_names.proofs.Names.{own_text}
use Rattle.graph_levels.specs.Reached.{vertex_numbers, rows_from}

-- as many names as labels
pub length-labels : (names : List (List ℕ)) (labels : List VertexId) → length (names_of_vertices names (vertex_numbers labels)) ≡ length labels
length-labels names labels =
    length-map (vertex_numbers labels) (λ v. get_or names v []) ∙ length-map labels (λ (v : VertexId). v.0)

-- the name of a vertex's label
pub label_at : (names : List (List ℕ)) (labels : List VertexId) (k : ℕ) (d : VertexId) (y : List ℕ) → k < length labels
    → y ≡ get_or names (get_or labels k d).0 [] → y ≡ get_or (names_of_vertices names (vertex_numbers labels)) k y
label_at names labels k d y within name =
    let numbers : get_or (vertex_numbers labels) k 0 ≡ (get_or labels k d).0 =
    get_or-map (λ (v : VertexId). v.0) labels k d 0 within in
    let there : k < length (vertex_numbers labels) = omega (arith, length-map labels (λ (v : VertexId). v.0)) in
    name ∙ ap (λ v. get_or names v []) (sym numbers) ∙ sym (get_or-map (λ v. get_or names v []) (vertex_numbers labels) k 0 y there)

-- the names of a table's rows are the rows of its named levels
pub rows_named : (names : List (List ℕ)) (levels : List (Option ℕ)) (v : ℕ) → v + length levels ≤ length names
    → map (λ row. (get_or names row.0.0 [], row.1)) (rows_from v levels) ≡ filter_map level_row (zip (drop v names) levels)
rows_named names [] v fits = sym (ap (filter_map level_row) (zip_none (drop v names)))
rows_named names (None ∷ levels) v fits =
    rows_named names levels (v + 1) (omega (arith, fits))
    ∙ sym (ap (λ ns. filter_map level_row (zip ns (None ∷ levels))) (next_name names v (omega (arith, fits))))
rows_named names (Some d ∷ levels) v fits =
    ap (λ rows. (get_or names v [], d) ∷ rows) (rows_named names levels (v + 1) (omega (arith, fits)))
    ∙ sym (ap (λ ns. filter_map level_row (zip ns (Some d ∷ levels))) (next_name names v (omega (arith, fits))))

-- how many of one row more are of a vertex that is its own label
pub own_more : (book : Book) (labels : List VertexId) (own k : ℕ) (d : VertexId) → IsBook book
    → own ≡ count_by (λ entry. bytes_eq entry.0 entry.1) (take k (zip book.names (names_of_vertices book.names (vertex_numbers labels))))
    → k < min (length book.names) (length labels)
    → own + bool_byte ((get_or labels k d).0 == k)
    ≡ count_by (λ entry. bytes_eq entry.0 entry.1) (take (k + 1) (zip book.names (names_of_vertices book.names (vertex_numbers labels))))
own_more book labels own k d is counted within =
    let names = book.names in
    let y = get_or names (get_or labels k d).0 [] in
    let all : k < min (length names) (length (names_of_vertices names (vertex_numbers labels))) = omega (arith, length-labels names labels) in
    ap (λ n. own + n) (bool_value ((get_or labels k d).0 == k))
    ∙ ap (λ b. own + cond b 1 0) (sym (own_text book k (get_or labels k d).0 is (omega arith)))
    ∙ sum_more names (names_of_vertices names (vertex_numbers labels)) (λ entry. cond (bytes_eq entry.0 entry.1) 1 0) own k
    (get_or names k []) [] y counted all refl (label_at names labels k d y (omega arith) refl)
