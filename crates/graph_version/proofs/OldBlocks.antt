-- How many blocks of a row have an edge from before a time.
use Rattle.std.proofs.Common.{◌≡◌, ℕ, ◌+◌, ◌≤◌, Bool, cond, ◌≢◌, List, [], ◌∷◌, length, AllPairs, refl, ap₂, ◌∙◌, arith, suc}
use Rattle.std.proofs.lemmas.List.Sums.{sum_by-cons, sum_by-le-sum_by, count_by-le-length}
use Rattle.std.specs.List.{sum_by}
use Rattle.graph_types.proofs.Sums.{count_more, below_sum, sum_lists}
use Rattle.graph_types.proofs.Times.{times}
use Rattle.edge_block.specs.Slots.{BlockView, has_before, edges_in}
use Rattle.edge_block.proofs.{BlockCounts.length_at, OldSlots.none_before_zero}
use Rattle.graph_version.specs.{Ages.old_blocks, Rows.{row_of, blocks_of}}
use Rattle.graph_version.proofs.RowBlocks.{row_within, row_sum, split_rows}

pub none_old : (row : List BlockView) → old_blocks 0 row ≡ 0
none_old [] = refl
none_old (b ∷ row) =
    count_more (λ (b : BlockView). has_before 0 b.slots) b row
    ∙ ap₂ (λ (t : Bool) (n : ℕ). cond t 1 0 + n) (none_before_zero (edges_in b.slots)) (none_old row)

pub counted : (time : ℕ) (row : List BlockView) (b : BlockView)
    → old_blocks time (b ∷ row) ≡ cond (has_before time b.slots) 1 0 + old_blocks time row
counted time row b = sum_by-cons (λ (x : BlockView). cond (has_before time x.slots) 1 0) b row

-- the rows of different sources have no more old blocks than there are blocks
pub old_sum : (time : ℕ) (rows : List (List BlockView)) (xs : List ℕ) → AllPairs (λ a b. a ≢ b) xs
    → sum_by (λ s. old_blocks time (row_of rows s)) xs ≤ length (blocks_of rows)
old_sum time rows xs pairs =
    let each = sum_by-le-sum_by (λ s. old_blocks time (row_of rows s)) (length_at 0 rows) xs (λ s.
    let a = count_by-le-length (λ (b : BlockView). has_before time b.slots) (row_of rows s) in
    let b = row_within 0 rows s s (omega arith) in omega arith) in
    let all = row_sum rows 0 xs pairs in
    omega arith

-- different sources have no more old blocks than there are blocks
pub few_old : (time : ℕ) (rows : List (List BlockView)) (xs : List ℕ) → ((m : ℕ) → times m xs ≤ 1)
    → sum_by (λ s. old_blocks time (row_of rows s)) xs ≤ length (blocks_of rows)
few_old time rows xs once =
    let p : BlockView → Bool = λ b. has_before time b.slots in
    let n : ℕ = length rows + suc (sum_by (λ x. x) xs) in
    omega (
      arith,
      split_rows xs once p rows n (omega arith) (below_sum n xs (omega arith)),
      sum_lists p (row_of rows) xs,
      count_by-le-length p (blocks_of rows),
    )
