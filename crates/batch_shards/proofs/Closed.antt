-- What closed rows are: their layout, how many blocks they took and dropped, and whose blocks they have.
use Rattle.std.proofs.Common.{◌≡◌, ℕ, ◌+◌, Bool, true, false, cond, not, ◌&&◌, ◌||◌, ◌⊎◌, List, [], ◌∷◌, ◌++◌, length, map}
use Rattle.std.proofs.{Common.{flat_map, refl, sym, ap, ap₂, ◌∙◌, All, length-append, arith}, lemmas.List.Sums.sum_by-cons}
use Rattle.std.{proofs.lemmas.List.Elements.{All-head, All-tail, All-cons, All-nil, All-append}, specs.Option.is_some}
use Rattle.std.specs.{Option.option_to_list, declared.{alloc.Global.Global, option.Option.Option, sync.Arc.Arc}}
use Rattle.std.proofs.lemmas.Grind.{common_steps}
use Rattle.graph_types.proofs.{Elements.{all_right, all_left}, Sums.count_more}
use Rattle.edge_block.specs.{declared.blocks.Block.Block, Slots.BlockView, Rows.{OpenBlock, shape_of, has_none, row_end}}
use Rattle.edge_block.specs.Rows.{taken_in, dropped_in}
use Rattle.batch_shards.specs.RowBlocks.{block_of, open_of, opens, had_here, had_in, IsOf}
use Rattle.batch_shards.specs.Closing.{written_here, dropped_here, after_of, written_of, dropped_of, closed_rows}
use Rattle.batch_shards.specs.{Shards.AreOpen, Shards.AreOwn, Shards.sources_of, Shards.had_all, Done.sum_of, Done.AreBlockRows}
use Rattle.batch_shards.specs.declared.{row_blocks.RowBlock.RowBlock, shard.OpenRow.OpenRow}
use Rattle.graph_version.specs.Versions.{IsBlockOf}

-- the layout at the batch's end
pub after_end : (row : List RowBlock) → map shape_of (after_of row) ≡ row_end (opens row)
after_end [] = refl
after_end (h ∷ row) = grind (arith, common_steps, after_end row)

pub length-written : (row : List RowBlock) → length (written_of row) ≡ taken_in (opens row)
length-written [] = refl
length-written (h ∷ row) =
    length-append (written_here h) (written_of row)
    ∙ ap₂ (λ a b. a + b) (one_written (h.touched && not (has_none (shape_of (block_of h.block)))) (block_of h.block))
    (length-written row)
    ∙ sym (count_more (λ (h : OpenBlock). h.touched && not (has_none h.shape)) (open_of h) (opens row)) where
      one_written : (b : Bool) (x : BlockView) → length (cond b (x ∷ []) []) ≡ cond b 1 0
      one_written true x = refl
      one_written false x = refl

one_dropped : (t : Bool) (o : Option (Arc Block Global)) → length (cond t (map block_of (option_to_list o)) [])
    ≡ cond (t && (not t || is_some o)) 1 0
one_dropped t o = grind (arith, common_steps)

pub length-dropped : (row : List RowBlock) → length (dropped_of row) ≡ dropped_in (opens row)
length-dropped [] = refl
length-dropped (h ∷ row) =
    length-append (dropped_here h) (dropped_of row) ∙ ap₂ (λ a b. a + b) (one_dropped h.touched h.before) (length-dropped row)
    ∙ sym (count_more (λ (h : OpenBlock). h.touched && h.had) (open_of h) (opens row))

-- a sum over open rows is one over their sources
pub sum_open : {A : Type 0} (f : RowBlock → List A) (g : List OpenBlock → ℕ) (rows : ℕ → List OpenBlock)
    → ((row : List RowBlock) → length (flat_map f row) ≡ g (opens row))
    → (work : List OpenRow) → AreOpen rows work → length (flat_map (λ r. flat_map f r.blocks.items) work)
    ≡ sum_of (λ source. g (rows source)) (sources_of work)
sum_open f g rows each [] all = refl
sum_open f g rows each (r ∷ work) all =
    length-append (flat_map f r.blocks.items) (flat_map (λ (r : OpenRow). flat_map f r.blocks.items) work)
    ∙ ap₂ (λ a b. a + b) (each r.blocks.items ∙ ap g
    (All-head (λ (r : OpenRow). opens r.blocks.items ≡ rows r.source.0) r work all))
    (sum_open f g rows each work (All-tail (λ (r : OpenRow). opens r.blocks.items ≡ rows r.source.0) r work all))
    ∙ sym (sum_by-cons (λ source. g (rows source)) r.source.0 (sources_of work))

pub same_sources : (work : List OpenRow) → map (λ r. r.0) (closed_rows work) ≡ sources_of work
same_sources [] = refl
same_sources (r ∷ work) = ap (λ ss. r.source.0 ∷ ss) (same_sources work)

pub pieces_closed : (work : List OpenRow) → flat_map (λ r. r.1) (closed_rows work) ≡ flat_map (λ r. after_of r.blocks.items) work
pieces_closed [] = refl
pieces_closed (r ∷ work) = ap (λ rest. after_of r.blocks.items ++ rest) (pieces_closed work)

pub all_layout : (rows : ℕ → List OpenBlock) (work : List OpenRow) → AreOpen rows work
    → All (λ r. map shape_of r.1 ≡ row_end (rows r.0)) (closed_rows work)
all_layout rows [] all = All-nil (λ (r : ℕ × List BlockView). map shape_of r.1 ≡ row_end (rows r.0))
all_layout rows (r ∷ work) all =
    All-cons (λ (r : ℕ × List BlockView). map shape_of r.1 ≡ row_end (rows r.0)) (r.source.0, after_of r.blocks.items)
    (closed_rows work)
    (after_end r.blocks.items ∙ ap row_end (All-head (λ (r : OpenRow). opens r.blocks.items ≡ rows r.source.0) r work all))
    (all_layout rows work (All-tail (λ (r : OpenRow). opens r.blocks.items ≡ rows r.source.0) r work all))

abbrev pub HasEdges : BlockView → Type 0
HasEdges b = has_none (shape_of b) ≡ false

row_blocks : (source : ℕ) (row : List RowBlock) → All (IsOf source) row → All HasEdges (had_in row)
    → All (IsBlockOf source) (after_of row)
row_blocks source [] own had = All-nil (IsBlockOf source)
row_blocks source (h ∷ row) own had =
    let rest : All (IsBlockOf source) (after_of row) = row_blocks source row (All-tail (IsOf source) h row own)
    (all_right HasEdges (had_here h) (had_in row) had) in
    let here : All HasEdges (had_here h) = all_left HasEdges (had_here h) (had_in row) had in
    let mine : (block_of h.block).source ≡ source = All-head (IsOf source) h row own in
    let b : BlockView = block_of h.block in
    let n : Bool = has_none (shape_of b) in
    elim h.touched as (λ t. All HasEdges (cond t (map block_of (option_to_list h.before)) (b ∷ []))
    → All (IsBlockOf source) (cond (t && n) [] (b ∷ []) ++ after_of row)) [
      | true ↦ λ _. elim n as (λ m. n ≡ m → All (IsBlockOf source) (cond m [] (b ∷ []) ++ after_of row)) [
        | true ↦ λ _. rest
        | false ↦ λ e. All-cons (IsBlockOf source) b (after_of row) (record { source_is = mine; has_edges = e }) rest
      ] refl
      | false ↦ λ e. All-cons (IsBlockOf source) b (after_of row)
          (record { source_is = mine; has_edges = All-head HasEdges b [] e }) rest
    ] here

pub all_blocks : (work : List OpenRow) → AreOwn work → All HasEdges (had_all work)
    → All (λ r. All (IsBlockOf r.0) r.1) (closed_rows work)
all_blocks [] own had = All-nil (λ (r : ℕ × List BlockView). All (IsBlockOf r.0) r.1)
all_blocks (r ∷ work) own had =
    All-cons (λ (r : ℕ × List BlockView). All (IsBlockOf r.0) r.1) (r.source.0, after_of r.blocks.items) (closed_rows work)
    (row_blocks r.source.0 r.blocks.items (All-head (λ (r : OpenRow). All (IsOf r.source.0) r.blocks.items) r work own)
    (all_left HasEdges (had_in r.blocks.items) (had_all work) had))
    (all_blocks work (All-tail (λ (r : OpenRow). All (IsOf r.source.0) r.blocks.items) r work own)
    (all_right HasEdges (had_in r.blocks.items) (had_all work) had))

pub rows_edges : (row : ℕ → List BlockView) → ((source : ℕ) → All (IsBlockOf source) (row source)) → (sources : List ℕ)
    → All HasEdges (flat_map row sources)
rows_edges row each [] = All-nil HasEdges
rows_edges row each (s ∷ sources) = All-append HasEdges (row s) (flat_map row sources) (λ k d lt. (each s k d lt).has_edges)
    (rows_edges row each sources)

-- the blocks of rows that were read have edges, where each row of sources has such or no source is there
pub read_edges : (row : ℕ → List BlockView) (sources : List ℕ) → (length sources ≡ 0) ⊎ AreBlockRows row
    → All HasEdges (flat_map row sources)
read_edges row sources is = grind (arith, common_steps, rows_edges, All-nil)
