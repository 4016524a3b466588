-- Edges and values written one after another, and rows side by side.
use Rattle.std.proofs.Common.{◌≡◌, ℕ, ◌+◌, ◌<◌, List, [], ◌∷◌, ◌++◌, zero, suc, length, get_or, drop, replicate}
use Rattle.std.proofs.Common.{refl, sym, ap, ◌∙◌, arith, add-zero, add-one, append_assoc, append-nil, length-append}
use Rattle.std.proofs.{Math.Seq.drop-cons, lemmas.List.{length-replicate, nil_from_length}}
use Rattle.std.specs.declared.{sync.Arc.Arc, alloc.Global.Global}
use Rattle.graph_types.specs.declared.ids.Filter.{Filter}
use Rattle.edge_block.specs.{Lending.LentEdge, declared.blocks.Block.Block}
use Rattle.graph_version.specs.{Sharing.{block_value, block_values}, Versions.VersionView}
use Rattle.version_columns.specs.Rows.{Columns, with_lent_edge, with_edges, with_values, block_edges, lent_edges_of, row_edges, lent_rows_from, sources_from, edge_columns}

-- edges behind others, and values
pub with_edges-append : (at : ℕ) (xs ys : List LentEdge) (c : Columns)
    → with_edges at (xs ++ ys) c ≡ with_edges (at + length xs) ys (with_edges at xs c)
with_edges-append at [] ys c = ap (λ n. with_edges n ys c) (sym (add-zero at))
with_edges-append at (x ∷ xs) ys c =
    let same : (at + 1) + length xs ≡ at + suc (length xs) = omega arith in
    with_edges-append (at + 1) xs ys (with_lent_edge at x c) ∙ ap (λ n. with_edges n ys (with_edges (at + 1) xs (with_lent_edge at x c))) same

pub with_values-append : (at : ℕ) (xs ys c : List ℕ)
    → with_values at (xs ++ ys) c ≡ with_values (at + length xs) ys (with_values at xs c)
with_values-append at [] ys c = ap (λ n. with_values n ys c) (sym (add-zero at))
with_values-append at (x ∷ xs) ys c =
    let same : (at + 1) + length xs ≡ at + suc (length xs) = omega arith in
    with_values-append (at + 1) xs ys _ ∙ ap (λ n. with_values n ys (with_values at (x ∷ xs) c)) same

-- the blocks that are left begin with the next one
pub next_edges : (f : Filter) (blocks : List (Arc Block Global)) (i : ℕ) (d : Arc Block Global) → i < length blocks
    → lent_edges_of f (block_values (drop i blocks)) ≡ block_edges f (block_value (get_or blocks i d))
    ++ lent_edges_of f (block_values (drop (i + 1) blocks))
next_edges f blocks i d within =
    ap (λ (bs : List (Arc Block Global)). lent_edges_of f (block_values bs)) (drop-cons blocks i d within)
    ∙ ap (λ n. block_edges f (block_value (get_or blocks i d)) ++ lent_edges_of f (block_values (drop n blocks))) (sym (add-one i))

-- one row more
pub rows_from-more : (f : Filter) (v : VersionView) (source n : ℕ)
    → lent_rows_from f v source (suc n) ≡ lent_rows_from f v source n ++ row_edges f v (source + n)
rows_from-more f v source zero = append-nil _ ∙ ap (row_edges f v) (sym (add-zero source))
rows_from-more f v source (suc n) =
    let same : (source + 1) + n ≡ source + suc n = omega arith in
    ap (λ es. row_edges f v source ++ es) (rows_from-more f v (source + 1) n ∙ ap (λ s. lent_rows_from f v (source + 1) n ++ row_edges f v s) same)
    ∙ sym (append_assoc (row_edges f v source) (lent_rows_from f v (source + 1) n) (row_edges f v (source + suc n)))

pub sources_from-more : (f : Filter) (v : VersionView) (source n : ℕ)
    → sources_from f v source (suc n) ≡ sources_from f v source n ++ replicate (length (row_edges f v (source + n))) (source + n)
sources_from-more f v source zero = append-nil _ ∙ ap (λ s. replicate (length (row_edges f v s)) s) (sym (add-zero source))
sources_from-more f v source (suc n) =
    let same : (source + 1) + n ≡ source + suc n = omega arith in
    let last : ℕ → List ℕ = λ s. replicate (length (row_edges f v s)) s in
    ap (λ es. last source ++ es) (sources_from-more f v (source + 1) n ∙ ap (λ s. sources_from f v (source + 1) n ++ last s) same)
    ∙ sym (append_assoc (last source) (sources_from f v (source + 1) n) (last (source + suc n)))

-- each edge has a source
pub sources_long : (f : Filter) (v : VersionView) (source n : ℕ) → length (sources_from f v source n) ≡ length (lent_rows_from f v source n)
sources_long f v source zero = refl
sources_long f v source (suc n) =
    let here = length-append (row_edges f v source) (lent_rows_from f v (source + 1) n) in
    let each = length-append (replicate (length (row_edges f v source)) source) (sources_from f v (source + 1) n) in
    let long = length-replicate (length (row_edges f v source)) source in
    omega (arith, here, each, long, sources_long f v (source + 1) n)

-- where there are no edges to write, all is as it was
pub none_written : (f : Filter) (v : VersionView) (source n : ℕ) (old new : Columns) (old_sources new_sources : List ℕ)
    → length (lent_rows_from f v source n) ≡ 0 → new ≡ with_edges 0 (lent_rows_from f v source n) old
    → new_sources ≡ with_values 0 (sources_from f v source n) old_sources
    → edge_columns source new_sources new ≡ edge_columns source old_sources old
none_written f v source n old new old_sources new_sources none edges values =
    let rows = nil_from_length (lent_rows_from f v source n) none in
    let sources = nil_from_length (sources_from f v source n) (sources_long f v source n ∙ none) in
    let columns_same : new ≡ old = edges ∙ ap (λ es. with_edges 0 es old) rows in
    let sources_same : new_sources ≡ old_sources = values ∙ ap (λ xs. with_values 0 xs old_sources) sources in
    ap (λ xs. edge_columns source xs new) sources_same ∙ ap (edge_columns source old_sources) columns_same
