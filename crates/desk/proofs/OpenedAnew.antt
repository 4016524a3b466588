-- A desk that opens anew over its last version.
use Rattle.std.proofs.Common.{◌≡◌, ℕ, ◌≤◌, Bool, true, false, List, replicate, length, map, refl, sym, ap}
use Rattle.std.proofs.{Common.◌∙◌, lemmas.{Bool.true≢false, Option.slice_get-map}}
use Rattle.std.specs.{Prelude.{slice_get, if◌then◌else◌}, Option.option_map}
use Rattle.edge_block.specs.Slots.{BlockView}
use Rattle.std.specs.declared.option.Option.{Option, TheVariants.{None, Some}}
use Rattle.graph_version.specs.{Rows.{blocks_of, numbers_of}, Versions.VersionView, Rebased.IsRebased}
use Rattle.block_reclamation.specs.{declared.status.BlockStatus.BlockStatus, Copies.{needs, is_between, is_pin_before}}
use Rattle.block_reclamation.specs.declared.status.BlockStatus.TheVariants.{Free, Granted, Used, Retired}
use Rattle.block_reclamation.specs.Status.{is_at, is_in_use, is_among, is_used, recycled}
use Rattle.block_reclamation.proofs.{ListedNumbers.all_by, OneStatus.{pool_like, in_use}}
use Rattle.graph_types.proofs.{ListPlaces.same_list, Numbers.not_past, Searches.any_none}
use Rattle.block_pool.specs.Pools.{marked}
use Rattle.store_steps.specs.{Dates.IsDatedBlock, Desks.{DeskView, IsDesk, last_numbers}, Opening.opened_desk}
use Rattle.store_steps.proofs.{ChangedLists.marked_at, Dated.desk_dated, NumberLists.differ_from}
use Rattle.desk.specs.{Applying.AreInUseOnce, Openings.without_pins}

-- No pin

-- without a pin no block is needed that was retired by the last version
unneeded : (last birth retirement : ℕ) → retirement ≤ last → needs (without_pins last) birth retirement ≡ false
unneeded last birth retirement le =
    rw (not_past last retirement le, any_none (is_between birth retirement) refl 16, any_none (is_pin_before retirement) refl 16) refl

-- Each number

one_reset : (last : ℕ) (opened t : Bool) (o : Option BlockStatus) → IsDatedBlock opened last o → is_at is_used o ≡ t
    → option_map (recycled (without_pins last)) (if t then option_map (λ _. Used 0) o else o)
    ≡ (if t then option_map (λ _. Used 0) (option_map (λ _. Free) o) else option_map (λ _. Free) o)
one_reset last opened true None dated used = refl
one_reset last opened true (Some s) dated used = refl
one_reset last opened false None dated used = refl
one_reset last opened false (Some Free) dated used = refl
one_reset last opened false (Some Granted) dated used = absurd dated
one_reset last opened false (Some (Used birth)) dated used = absurd (true≢false used)
one_reset last opened false (Some (Retired birth retirement)) dated used =
    rw (unneeded last birth retirement dated.2) refl

-- the blocks of the last version are born with version 0, and all others are free
pub reset_pool : (d : DeskView) → IsDesk d
    → map (recycled (without_pins (length d.last.batches))) (marked (last_numbers d) (Used 0) d.pool)
    ≡ marked (last_numbers d) (Used 0) (replicate (length d.pool) Free)
reset_pool d desk = same_list _ _ (λ m.
    slice_get-map (recycled (without_pins (length d.last.batches))) (marked (last_numbers d) (Used 0) d.pool) m
    ∙ ap (option_map (recycled (without_pins (length d.last.batches)))) (marked_at (last_numbers d) (Used 0) d.pool m)
    ∙ one_reset (length d.last.batches) (is_among m d.opened) (is_among m (last_numbers d)) (slice_get d.pool m)
    (desk_dated d desk m) (desk.listed m)
    ∙ ap (λ p. if is_among m (last_numbers d) then option_map (λ _. Used 0) p else p) (sym (pool_like d.pool m))
    ∙ sym (marked_at (last_numbers d) (Used 0) (replicate (length d.pool) Free) m))

-- Their numbers

pub last_used : (d : DeskView) → IsDesk d → AreInUseOnce (last_numbers d) d.pool
last_used d desk = record {
  pass = all_by (λ n. is_at is_in_use (slice_get d.pool n)) (last_numbers d)
      (λ m is. in_use (slice_get d.pool m) (desk.listed m ∙ is));
  apart = differ_from (last_numbers d) desk.version.rows.numbers;
}

-- and so its pool is the one of the opening
pub pool_anew : (d : DeskView) (z : VersionView) (born ended : ℕ) (numbers : List ℕ) (pool : List BlockStatus) → IsDesk d
    → IsRebased d.last z → z.rows ≡ d.last.rows → born ≡ length z.batches → ended ≡ length d.last.batches
    → numbers ≡ numbers_of (blocks_of z.rows) → pool ≡ map (recycled (without_pins ended)) (marked numbers (Used born) d.pool)
    → pool ≡ (opened_desk (length d.pool) z).pool
pool_anew d z born ended numbers pool desk rebased very b e n is =
    is ∙ ap (λ k. map (recycled (without_pins ended)) (marked numbers (Used k) d.pool)) (b ∙ ap length rebased.batches)
    ∙ ap (λ k. map (recycled (without_pins k)) (marked numbers (Used 0) d.pool)) e
    ∙ ap (λ ns. map (recycled (without_pins (length d.last.batches))) (marked ns (Used 0) d.pool))
    (n ∙ ap (λ (rows : List (List BlockView)). numbers_of (blocks_of rows)) very)
    ∙ reset_pool d desk
    ∙ ap (λ (rows : List (List BlockView)). marked (numbers_of (blocks_of rows)) (Used 0) (replicate (length d.pool) Free)) (sym very)
