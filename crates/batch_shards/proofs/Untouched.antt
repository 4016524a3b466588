-- Births over rows, and rows that a batch leaves untouched.
use Rattle.std.proofs.Common.{◌≡◌, ℕ, zero, suc, ◌+◌, Bool, List, [], ◌∷◌, map, count_by, refl, ap, ◌∙◌}
use Rattle.graph_types.specs.{Graph.Graph, declared.batches.NamedOp.NamedOp}
use Rattle.graph_types.proofs.Sums.{count_by-append}
use Rattle.edge_block.specs.{Batches.sum_below, Rows.{untouched, shape_of, Shape}, Slots.BlockView}
use Rattle.batch_shards.specs.Births.{births_end, births_dropped, later_births, dropped_births, open_row}

pub untouched_births : (f : BlockView → ℕ) (n : ℕ) (bs : List BlockView)
    → births_end n (map untouched (map shape_of bs)) (map f bs) ≡ map f bs
untouched_births f n [] = refl
untouched_births f n (b ∷ bs) = ap (λ ls. f b ∷ ls) (untouched_births f n bs)

pub untouched_dropped : (row : List Shape) (births : List ℕ) → births_dropped (map untouched row) births ≡ []
untouched_dropped [] births = refl
untouched_dropped (b ∷ row) births = untouched_dropped row (later_births births)

pub count_births : (q : ℕ → Bool) (ops : List NamedOp) (g : Graph) (layout : ℕ → List Shape) (births : ℕ → List ℕ) (n : ℕ)
    → count_by q (dropped_births ops g layout births n)
    ≡ sum_below n (λ source. count_by q (births_dropped (open_row ops g layout source) (births source)))
count_births q ops g layout births zero = refl
count_births q ops g layout births (suc n) =
    count_by-append q (births_dropped (open_row ops g layout n) (births n)) (dropped_births ops g layout births n)
    ∙ ap (λ k. count_by q (births_dropped (open_row ops g layout n) (births n)) + k) (count_births q ops g layout births n)
