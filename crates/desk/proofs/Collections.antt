-- What a desk keeps at its opening, and over a collection.
use Rattle.std.proofs.Common.{◌≡◌, ℕ, zero, suc, ◌≤◌, Bool, List, [], ◌∷◌, replicate, length, refl, sym, ap, arith, count_by, ◌∙◌}
use Rattle.std.{proofs.lemmas.{Grind.common_steps, List.length-map}, specs.Prelude.slice_set}
use Rattle.graph_version.specs.{Rows.blocks_of, Rows.numbers_of, Versions.VersionView, Logs.keeps_batches}
use Rattle.block_pool.{specs.Pools.marked, proofs.Grants.length-marked}
use Rattle.block_reclamation.specs.declared.status.BlockStatus.{BlockStatus, TheVariants.Free, TheVariants.Used}
use Rattle.block_reclamation.specs.{Status.{is_retired, recycled}, declared.copies.PinCopy.PinCopy}
use Rattle.block_reclamation.proofs.StatusCounts.{length_free, none_retired}
use Rattle.graph_types.proofs.Sums.{count_more}
use Rattle.store_steps.{specs.Opening.IsVersionZero, specs.Opening.opened_desk, specs.Desks.DeskView}
use Rattle.store_steps.proofs.{OpeningShown.opened_is_desk, CollectedDesk.{desk_collected, is_collected, collected_is_desk}}
use Rattle.desk.specs.Kept.{IsKeptDesk}

-- what is kept holds of equal values too
pub kept_same : (d e : DeskView) (keeps others : Bool) (room more : ℕ) → IsKeptDesk d keeps room → e ≡ d → others ≡ keeps → room ≤ more
    → IsKeptDesk e others more
kept_same d e keeps others room more kept same alike grows = grind (arith, common_steps)

set_unretired : (xs : List BlockStatus) (n : ℕ) → count_by is_retired xs ≡ 0 → count_by is_retired (slice_set xs n (Used 0)) ≡ 0
set_unretired [] n none = none
set_unretired (s ∷ xs) zero none =
    let a = count_more is_retired s xs in let b = count_more is_retired (Used 0) xs in omega arith
set_unretired (s ∷ xs) (suc n) none =
    let a = count_more is_retired s xs in
    let b = count_more is_retired s (slice_set xs n (Used 0)) in
    let rest = set_unretired xs n (omega arith) in
    omega arith

marked_unretired : (ns : List ℕ) (xs : List BlockStatus) → count_by is_retired xs ≡ 0 → count_by is_retired (marked ns (Used 0) xs) ≡ 0
marked_unretired [] xs none = none
marked_unretired (n ∷ ns) xs none = marked_unretired ns (slice_set xs n (Used 0)) (set_unretired xs n none)

-- an opened desk
pub opened_kept : (blocks : ℕ) (v : VersionView) → IsVersionZero blocks v → 16 ≤ blocks → IsKeptDesk (opened_desk blocks v) (keeps_batches v.opening.limits) 0
opened_kept blocks v zero_is some = record {
  desk = opened_is_desk blocks v zero_is;
  blocks_some =
      let long : length (marked (numbers_of (blocks_of v.rows)) (Used 0) (replicate blocks Free)) ≡ blocks =
      length-marked (numbers_of (blocks_of v.rows)) (Used 0) (replicate blocks Free) ∙ length_free blocks in
      omega arith;
  keeps_are = refl;
  room_is = let none = marked_unretired (numbers_of (blocks_of v.rows)) (replicate blocks Free) (none_retired blocks) in omega
      arith;
}

-- the desk after a collection
pub collection_kept : (d e : DeskView) (copy : PinCopy) (keeps others : Bool) (before room : ℕ) → IsKeptDesk d keeps before
    → copy.last ≤ length d.last.batches → e ≡ desk_collected d copy → others ≡ keeps → count_by is_retired e.pool ≤ room
    → IsKeptDesk e others room
collection_kept d e copy keeps others before room kept low is alike fits = record {
  desk = collected_is_desk d e copy kept.desk low (is_collected d e copy is);
  blocks_some =
      let long : length e.pool ≡ length d.pool = ap (λ (x : DeskView). length x.pool) is ∙ length-map d.pool (recycled copy) in
      let some = kept.blocks_some in
      omega arith;
  keeps_are = alike ∙ kept.keeps_are ∙ ap (λ (x : DeskView). keeps_batches x.last.opening.limits) (sym is);
  room_is = fits;
}
