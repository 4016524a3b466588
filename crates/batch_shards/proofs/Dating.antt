-- The births of a closed row's blocks.
use Rattle.std.proofs.Common.{◌≡◌, ℕ, Bool, cond, not, ◌&&◌, ◌||◌, List, [], ◌∷◌, ◌++◌, map, flat_map, All, refl, sym}
use Rattle.std.proofs.{Common.{ap₂, ◌∙◌, subst, arith}, lemmas.List.map-append}
use Rattle.std.{proofs.lemmas.List.Elements.{All-head, All-tail, All-cons, All-nil}, specs.Prelude.if◌then◌else◌}
use Rattle.std.specs.{Option.{is_some, option_to_list}, declared.{alloc.Global.Global, option.Option.Option, sync.Arc.Arc}}
use Rattle.std.proofs.lemmas.Grind.{common_steps}
use Rattle.graph_types.proofs.Elements.{all_left, all_right}
use Rattle.edge_block.specs.{declared.blocks.Block.Block, Slots.BlockView, Rows.{OpenBlock, shape_of, has_none}}
use Rattle.batch_shards.specs.{RowBlocks.{block_of, opens, had_here, had_in}, Closing.{written_here, after_of, written_of}}
use Rattle.batch_shards.specs.{Closing.{dropped_of, closed_rows, written_blocks, dropped_all}, Shards.{AreOpen, sources_of}}
use Rattle.batch_shards.specs.{Births.{first_birth, left_over, births_end, births_dropped}, declared.row_blocks.RowBlock.RowBlock}
use Rattle.batch_shards.specs.declared.shard.OpenRow.{OpenRow}

-- a block of the row, by whether it is kept, touched, and was had
abbrev births_step : Bool → Bool → Bool → ℕ → List OpenBlock → List ℕ → List ℕ
births_step kept touched had n row births =
    if kept then (if touched then n else first_birth births) ∷ births_end n row (left_over had births)
    else births_end n row (left_over had births)

abbrev dropped_step : Bool → Bool → List OpenBlock → List ℕ → List ℕ
dropped_step touched had row births =
    if touched && had then first_birth births ∷ births_dropped row (left_over had births)
    else births_dropped row (left_over had births)

module _ (f g : BlockView → ℕ) (n : ℕ) where
  one_birth : (t e : Bool) (o : Option (Arc Block Global)) (b : BlockView) (after had : List BlockView) (row : List OpenBlock)
      → All (λ x. g x ≡ n) (cond (t && not e) (b ∷ []) [])
      → All (λ x. g x ≡ f x) (cond t (map block_of (option_to_list o)) (b ∷ []))
      → map g after ≡ births_end n row (map f had)
      → map g (cond (t && e) [] (b ∷ []) ++ after)
      ≡ births_step (not (t && e)) t (not t || is_some o) n row (map f (cond t (map block_of (option_to_list o)) (b ∷ []) ++ had))
  one_birth t e o b after had row new old rest = grind (arith, common_steps, All-head)

  pub row_births : (row : List RowBlock) → All (λ b. g b ≡ n) (written_of row) → All (λ b. g b ≡ f b) (had_in row)
      → map g (after_of row) ≡ births_end n (opens row) (map f (had_in row))
  row_births [] new old = refl
  row_births (h ∷ row) new old =
      one_birth h.touched (has_none (shape_of (block_of h.block))) h.before (block_of h.block) (after_of row) (had_in row)
      (opens row)
      (all_left (λ b. g b ≡ n) (written_here h) (written_of row) new)
      (all_left (λ b. g b ≡ f b) (had_here h) (had_in row) old)
      (row_births row (all_right (λ b. g b ≡ n) (written_here h) (written_of row) new)
      (all_right (λ b. g b ≡ f b) (had_here h) (had_in row) old))

  pub all_births : (now : ℕ → List OpenBlock) (rows : ℕ → List BlockView) (work : List OpenRow) → AreOpen now work
      → All (λ r. had_in r.blocks.items ≡ rows r.source.0) work → All (λ b. g b ≡ n) (written_blocks work)
      → All (λ r. All (λ b. g b ≡ f b) (rows r.0) → map g r.1 ≡ births_end n (now r.0) (map f (rows r.0))) (closed_rows work)
  all_births now rows [] opened had new = grind (arith, common_steps, All-nil)
  all_births now rows (r ∷ work) opened had new =
      let here : had_in r.blocks.items ≡ rows r.source.0 =
      All-head (λ (r : OpenRow). had_in r.blocks.items ≡ rows r.source.0) r work had in
      let shown = All-head (λ (r : OpenRow). opens r.blocks.items ≡ now r.source.0) r work opened in
      All-cons (λ (r : ℕ × List BlockView). All (λ b. g b ≡ f b) (rows r.0) → map g r.1 ≡ births_end n (now r.0) (map f (rows r.0)))
      (r.source.0, after_of r.blocks.items) (closed_rows work)
      (λ old. row_births r.blocks.items (all_left (λ b. g b ≡ n) (written_of r.blocks.items) (written_blocks work) new)
      (subst (λ bs. All (λ b. g b ≡ f b) bs) (sym here) old)
      ∙ ap₂ (λ os bs. births_end n os (map f bs)) shown here)
      (all_births now rows work (All-tail (λ (r : OpenRow). opens r.blocks.items ≡ now r.source.0) r work opened)
      (All-tail (λ (r : OpenRow). had_in r.blocks.items ≡ rows r.source.0) r work had)
      (all_right (λ b. g b ≡ n) (written_of r.blocks.items) (written_blocks work) new))

module _ (f : BlockView → ℕ) where
  one_dropped : (t : Bool) (o : Option (Arc Block Global)) (b : BlockView) (gone had : List BlockView) (row : List OpenBlock)
      → map f gone ≡ births_dropped row (map f had)
      → map f (cond t (map block_of (option_to_list o)) [] ++ gone)
      ≡ dropped_step t (not t || is_some o) row (map f (cond t (map block_of (option_to_list o)) (b ∷ []) ++ had))
  one_dropped t o b gone had row rest = grind (arith, common_steps)

  pub row_dropped : (row : List RowBlock) → map f (dropped_of row) ≡ births_dropped (opens row) (map f (had_in row))
  row_dropped [] = refl
  row_dropped (h ∷ row) =
      one_dropped h.touched h.before (block_of h.block) (dropped_of row) (had_in row) (opens row) (row_dropped row)

  pub all_dropped : (now : ℕ → List OpenBlock) (rows : ℕ → List BlockView) (work : List OpenRow) → AreOpen now work
      → All (λ r. had_in r.blocks.items ≡ rows r.source.0) work
      → map f (dropped_all work) ≡ flat_map (λ source. births_dropped (now source) (map f (rows source))) (sources_of work)
  all_dropped now rows [] opened had = refl
  all_dropped now rows (r ∷ work) opened had =
      let here : had_in r.blocks.items ≡ rows r.source.0 =
      All-head (λ (r : OpenRow). had_in r.blocks.items ≡ rows r.source.0) r work had in
      let shown = All-head (λ (r : OpenRow). opens r.blocks.items ≡ now r.source.0) r work opened in
      map-append f (dropped_of r.blocks.items) (dropped_all work)
      ∙ ap₂ (λ xs ys. xs ++ ys)
      (row_dropped r.blocks.items ∙ ap₂ (λ os bs. births_dropped os (map f bs)) shown here)
      (all_dropped now rows work (All-tail (λ (r : OpenRow). opens r.blocks.items ≡ now r.source.0) r work opened)
      (All-tail (λ (r : OpenRow). had_in r.blocks.items ≡ rows r.source.0) r work had))
