-- What rows are at a batch's end, and the laws of a batch and of an expiry.
use Rattle.std.proofs.Common.{◌≡◌, ℕ, ◌<◌, List, [], ◌∷◌, length, map, filter, true, false, cond, ◌≤◌}
use Rattle.std.proofs.{Common.{refl, sym, ap, ◌∙◌, Option, Some, None, is_some, All}, lemmas.Bool.{true≢false, false≢true}}
use Rattle.std.proofs.lemmas.{Bool.and_parts, List.Elements.{All-map, All-filter}}
use Rattle.std.specs.{List.list_all, List.range_with_len, Option.option_or, FinMap.FinMap, FinMap.get}
use Rattle.std.proofs.{Common.arith, lemmas.Grind.common_steps}
use Rattle.graph_types.specs.{Graph.{Graph, Key, Stamp, key_cmp}, Step.{after_all, outcomes, expired, count_before}}
use Rattle.graph_types.specs.declared.batches.{NamedOp.NamedOp, Outcome.TheVariants.Expired}
use Rattle.edge_block.specs.{Slots.{Slot, NoKeyTwice, stamp_at, is_free_slot, AreDistinct}, Rows.{Shape, OpenBlock, block_at, row_at}}
use Rattle.edge_block.specs.Rows.{open_at, edge_at, IsRow, is_kept, row_end, shapes, untouched, expire_row}
use Rattle.edge_block.specs.Batches.{InAll, resolved, rows_step, HasEndsWithin, rows_all, outcome_in, outcomes_all, IsLayoutOf, opened_rows}
use Rattle.edge_block.specs.Batches.{layout_after}
use Rattle.edge_block.proofs.{RowLaws.IsOpenRow, OperationLaws.{Shows, AreOpenRows, expiry_shows, all_shows}}

-- slots that are all free
all_free : (slots : List (Option Slot)) → list_all is_free_slot slots ≡ true → (q : ℕ) → stamp_at slots q ≡ None
all_free [] h q = refl
all_free (None ∷ slots) h q = all_free slots h q
all_free (Some e ∷ slots) h q = absurd (false≢true h)

not_kept : (h : OpenBlock) → is_kept h ≡ false → (q : ℕ × ℕ) → open_at h q ≡ None
not_kept h out q = grind (arith, common_steps, and_parts, all_free, true≢false)

-- what stays at the batch's end has the row's edges
pub end_at : (row : List OpenBlock) (q : ℕ × ℕ) → row_at (row_end row) q ≡ edge_at row q
end_at [] q = refl
end_at (h ∷ row) q =
    elim (is_kept h) as (λ b. is_kept h ≡ b → row_at (shapes (cond b (h ∷ filter is_kept row) (filter is_kept row))) q
    ≡ option_or (open_at h q) (edge_at row q)) [
      | true ↦ λ t. ap (option_or (open_at h q)) (end_at row q)
      | false ↦ λ t. end_at row q ∙ ap (λ x. option_or x (edge_at row q)) (sym (not_kept h t q))
    ] refl

opened_at : (row : List Shape) (q : ℕ × ℕ) → edge_at (map untouched row) q ≡ row_at row q
opened_at [] q = refl
opened_at (b ∷ row) q = ap (option_or (block_at b q)) (opened_at row q)

opened_row : (row : List Shape) → IsRow row → IsOpenRow (map untouched row)
opened_row row u = record {
  within = All-map (λ b. AreDistinct b.shape.slots) untouched row u.within;
  between = between row u.between;
} where
  between : (row : List Shape) → NoKeyTwice block_at row → NoKeyTwice open_at (map untouched row)
  between [] u = tt
  between (b ∷ row) u = (λ q i. opened_at row q ∙ u.0 q i, between row u.1)

end_unique : (row : List OpenBlock) → NoKeyTwice open_at row → NoKeyTwice block_at (row_end row)
end_unique [] u = tt
end_unique (h ∷ row) u =
    elim (is_kept h) as (λ b. NoKeyTwice block_at (shapes (cond b (h ∷ filter is_kept row) (filter is_kept row)))) [
      | true ↦ (λ q i. end_at row q ∙ u.0 q i, end_unique row u.1)
      | false ↦ end_unique row u.1
    ]

end_within : (row : List OpenBlock) → All (λ h. AreDistinct h.shape.slots) row → All (λ h. AreDistinct h.slots) (row_end row)
end_within row a = All-map (λ h. AreDistinct h.slots) (λ h. h.shape) (filter is_kept row)
    (All-filter is_kept (λ h. AreDistinct h.shape.slots) row a)

-- what open rows are at a batch's end is a layout of the edges that they have
ended_layout : (rows : ℕ → List OpenBlock) (edges : FinMap key_cmp Stamp) → AreOpenRows rows → Shows rows edges
    → IsLayoutOf (λ source. row_end (rows source)) edges
ended_layout rows edges u s = grind (arith, common_steps, end_within, end_unique, end_at)

-- a batch leaves a layout of the graph that it leaves, and the rows' outcomes are the operation rule's
pub batch_layout : (ops : List NamedOp) (g : Graph) (layout : ℕ → List Shape) (n : ℕ) → HasEndsWithin g → IsLayoutOf layout g.edges
    → length (after_all ops g).names ≤ n
    → IsLayoutOf (layout_after ops g layout) (after_all ops g).edges
    × (outcomes_all (range_with_len 0 n) (resolved ops g) (opened_rows layout) ≡ outcomes ops g)
    × HasEndsWithin (after_all ops g)
batch_layout ops g layout n w l few =
    let done = all_shows ops g (opened_rows layout) n w (λ source. opened_row (layout source) (l.distinct source))
    (λ k. opened_at (layout k.source) (k.kind, k.target) ∙ l.shows k) few in (
      ended_layout (rows_all (resolved ops g) (opened_rows layout)) (after_all ops g).edges done.1 done.0,
      done.2,
      done.3,
    )

-- an expiry alone leaves a layout of the edges that stay, and tells how many went
pub expiry_layout : (time : ℕ) (edges : FinMap key_cmp Stamp) (layout : ℕ → List Shape) (n : ℕ) → IsLayoutOf layout edges
    → ((k : Key) → is_some (get edges k) ≡ true → k.source < n)
    → IsLayoutOf (λ source. row_end (expire_row time (opened_rows layout source))) (expired time edges)
    × (outcome_in (range_with_len 0 n) (InAll time) (opened_rows layout) ≡ Expired (count_before time edges))
expiry_layout time edges layout n l below =
    let done = expiry_shows time edges (opened_rows layout) n (λ source. opened_row (layout source) (l.distinct source))
    (λ k. opened_at (layout k.source) (k.kind, k.target) ∙ l.shows k) below in
    (ended_layout (rows_step (InAll time) (opened_rows layout)) (expired time edges) done.1 done.0, done.2)
