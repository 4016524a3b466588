-- The births of a row's blocks, and those of the blocks that a batch drops of it. The births of a row are listed in the order of
-- its blocks; the blocks that it had before the batch stay in their order, and new ones are appended.
use Rattle.std.specs.Prelude.{◌≡◌, ℕ, zero, suc, ◌&&◌, Bool, true, List, [], ◌∷◌, ◌++◌, length, map, count_by, All, if◌then◌else◌}
use Rattle.graph_types.specs.{Graph.Graph, Step.after_all, declared.batches.NamedOp.NamedOp}
use Rattle.edge_block.specs.{Slots.BlockView, Rows.{OpenBlock, Shape, is_kept}, Batches.{opened_rows, resolved, rows_all}}
use Rattle.graph_version.specs.{Rows.row_of, Versions.{VersionView, content, layout_of, is_in}}

abbrev pub first_birth : List ℕ → ℕ
first_birth [] = 0
first_birth (birth ∷ births) = birth

abbrev pub later_births : List ℕ → List ℕ
later_births [] = []
later_births (birth ∷ births) = births

abbrev pub left_over : Bool → List ℕ → List ℕ
left_over had births = if had then later_births births else births

-- at the end of a batch whose version is n: a touched block was taken by it, and another keeps its birth
abbrev pub births_end : ℕ → List OpenBlock → List ℕ → List ℕ
births_end n [] births = []
births_end n (o ∷ row) births =
    if is_kept o then (if o.touched then n else first_birth births) ∷ births_end n row (left_over o.had births)
    else births_end n row (left_over o.had births)

-- the births of the touched blocks that the row had
abbrev pub births_dropped : List OpenBlock → List ℕ → List ℕ
births_dropped [] births = []
births_dropped (o ∷ row) births =
    if o.touched && o.had then first_birth births ∷ births_dropped row (left_over o.had births)
    else births_dropped row (left_over o.had births)

-- the row of a source at the end of a batch, before its touched blocks without edges are left out
abbrev pub open_row : List NamedOp → Graph → (ℕ → List Shape) → ℕ → List OpenBlock
open_row ops g layout source = rows_all (resolved ops g) (opened_rows layout) source

-- the births of each source's blocks that a batch leaves, whose version is n
abbrev pub births_after : ℕ → List NamedOp → Graph → (ℕ → List Shape) → (ℕ → List ℕ) → ℕ → List ℕ
births_after n ops g layout births source = births_end n (open_row ops g layout source) (births source)

-- the births of the blocks that it drops, over so many first sources
abbrev pub dropped_births : List NamedOp → Graph → (ℕ → List Shape) → (ℕ → List ℕ) → ℕ → List ℕ
dropped_births ops g layout births zero = []
dropped_births ops g layout births (suc source) =
    births_dropped (open_row ops g layout source) (births source) ++ dropped_births ops g layout births source

-- From a version to the next, births go over as the rule of births says, and the dropped blocks are those that it says: whatever
-- the birth f of a block before, and h of one after, which is n for those with taken numbers.
pub record CarriesBirths (before : VersionView) (ops : List NamedOp) (after : VersionView) (taken : List ℕ)
    (dropped : List BlockView) : Type 0 where
  pub rows : (f h : BlockView → ℕ) (n source : ℕ) → ((b : BlockView) → is_in b.number taken ≡ true → h b ≡ n)
      → All (λ b. h b ≡ f b) (row_of before.rows source)
      → map h (row_of after.rows source)
      ≡ births_after n ops (content before) (layout_of before.rows) (λ s. map f (row_of before.rows s)) source
  pub dropped_are : (f : BlockView → ℕ) (q : ℕ → Bool) → count_by q (map f dropped)
      ≡ count_by q (dropped_births ops (content before) (layout_of before.rows) (λ s. map f (row_of before.rows s))
      (length (after_all ops (content before)).names))
