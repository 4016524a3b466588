-- A collection is Recycle of each block that the copy frees, all done, and no further block goes afterwards.
use Rattle.std.proofs.Common.{◌≡◌, ◌≢◌, ℕ, zero, suc, ◌+◌, ◌<◌, ◌==◌, Bool, true, false, ◌||◌, List, [], ◌∷◌, map, set, refl, sym}
use Rattle.std.proofs.{Common.{ap, ◌∙◌, arith}, lemmas.{Grind.common_steps, Bool.{eq-eqb, true≢false, or_right}}}
use Rattle.std.{proofs.lemmas.Option.slice_get-map, specs.{Prelude.{slice_get, if◌then◌else◌, filter}, List.enumerate_from}}
use Rattle.std.specs.{Option.option_map, declared.option.Option.TheVariants.Some}
use Rattle.block_pool.{proofs.Grants.length-marked, specs.Pools.marked}
use Rattle.block_reclamation.specs.{Status.is_among, Status.is_reclaimable, Status.is_at, declared.copies.PinCopy.PinCopy}
use Rattle.block_reclamation.specs.declared.status.BlockStatus.{BlockStatus, TheVariants.Free}
use Rattle.block_reclamation.proofs.Recycling.{in_cond}
use Rattle.graph_types.proofs.{ListPlaces.{set_else, same_list}, Numbers.apart_test}
use Rattle.epoch_core.specs.{Blocks.all_differ, declared.events.Event.TheVariants.Recycle}
use Rattle.epoch_core.specs.{Worlds.World, Machine.with_status}
use Rattle.epoch_core.proofs.BlockSteps.{differ_head, differ_tail, goes, recycle_done, goes_is, recycle_skipped, none_goes}
use Rattle.store_steps.specs.{Desks.{DeskView, IsCollected}, Shown.ShowsWorld, Steps.{all_done, reclaimable_numbers, recycling, SimulatesAt}}
use Rattle.store_steps.proofs.{Filling.step_then, ChangedLists.marked_at}

-- Recycle of different blocks that go
recycles : (ns : List ℕ) (w : World) → ((n : ℕ) → is_among n ns ≡ true → goes w.copy (slice_get w.status n) ≡ true)
    → all_differ ns ≡ true → all_done (map Recycle ns) w ≡ Some (with_status w (marked ns Free w.status))
recycles [] w go apart = refl
recycles (n ∷ ns) w go apart =
    let here : (n == n) ≡ true = eq-eqb n n refl in
    let w1 : World = with_status w (set w.status n Free) in
    step_then (Recycle n) (map Recycle ns) w w1 (recycle_done w n (go n (rw here refl))) ∙ recycles ns w1
    (λ m is.
    let ne : m ≢ n = λ e. absurd (true≢false (sym is ∙ ap (λ x. is_among x ns) e ∙ differ_head n ns apart)) in
    ap (goes w.copy) (set_else w.status n m Free ne) ∙ go m (or_right (n == m) (is_among m ns) is))
    (differ_tail n ns apart)

-- The numbers that the copy frees

abbrev reclaimable_from : PinCopy → ℕ → List BlockStatus → List ℕ
reclaimable_from copy k pool = map (λ p. p.0) (filter (λ p. is_reclaimable copy p.1) (enumerate_from k pool))

skip : (t u r : Bool) → u ≡ false → (if t then u || r else r) ≡ r
skip t u r e = grind (arith, common_steps)

hit : (t u r : Bool) → u ≡ true → r ≡ false → (if t then u || r else r) ≡ t
hit t u r e f = grind (arith, common_steps)

reclaimable_below : (copy : PinCopy) (k n : ℕ) (pool : List BlockStatus) → n < k → is_among n (reclaimable_from copy k pool) ≡ false
reclaimable_below copy k n [] h = refl
reclaimable_below copy k n (s ∷ pool) h =
    in_cond (is_reclaimable copy s) k n (filter (λ p. is_reclaimable copy p.1) (enumerate_from (k + 1) pool)) s
    ∙ skip (is_reclaimable copy s) (k == n) _ (apart_test k n (λ e. absurd (omega arith)))
    ∙ reclaimable_below copy (k + 1) n pool (omega arith)

reclaimable_at : (copy : PinCopy) (k n j : ℕ) (pool : List BlockStatus) → n ≡ k + j
    → is_among n (reclaimable_from copy k pool) ≡ is_at (is_reclaimable copy) (slice_get pool j)
reclaimable_at copy k n j [] e = refl
reclaimable_at copy k n zero (s ∷ pool) e =
    in_cond (is_reclaimable copy s) k n (filter (λ p. is_reclaimable copy p.1) (enumerate_from (k + 1) pool)) s
    ∙ hit (is_reclaimable copy s) (k == n) _ (eq-eqb k n (omega arith)) (reclaimable_below copy (k + 1) n pool (omega arith))
reclaimable_at copy k n (suc j) (s ∷ pool) e =
    in_cond (is_reclaimable copy s) k n (filter (λ p. is_reclaimable copy p.1) (enumerate_from (k + 1) pool)) s
    ∙ skip (is_reclaimable copy s) (k == n) _ (apart_test k n (λ q. absurd (omega arith)))
    ∙ reclaimable_at copy (k + 1) n j pool (omega arith)

reclaimable_apart : (copy : PinCopy) (k : ℕ) (pool : List BlockStatus) → all_differ (reclaimable_from copy k pool) ≡ true
reclaimable_apart copy k [] = refl
reclaimable_apart copy k (s ∷ pool) =
    elim (is_reclaimable copy s) as (λ t. all_differ (map (λ p. p.0)
    (if t then (k, s) ∷ filter (λ p. is_reclaimable copy p.1) (enumerate_from (k + 1) pool) else filter (λ p. is_reclaimable copy p.1)
    (enumerate_from (k + 1) pool))) ≡ true) [
      | true ↦ rw (reclaimable_below copy (k + 1) k pool (omega arith)) (reclaimable_apart copy (k + 1) pool)
      | false ↦ reclaimable_apart copy (k + 1) pool
    ]

-- One number

-- the world after a collection
abbrev collected_world : PinCopy → DeskView → World → World
collected_world copy old w = with_status w (marked (reclaimable_numbers copy old.pool) Free w.status)

status_collected : (copy : PinCopy) (old : DeskView) (w : World) → ShowsWorld old w → (n : ℕ)
    → slice_get (collected_world copy old w).status n ≡ (if is_at (is_reclaimable copy) (slice_get old.pool n) then option_map
    (λ _. Free) (slice_get old.pool n) else slice_get old.pool n)
status_collected copy old w shows n = grind (arith, common_steps, marked_at, reclaimable_at)

shows_collected : (old new : DeskView) (copy : PinCopy) (w : World) → IsCollected old copy new → ShowsWorld old w
    → ShowsWorld new (collected_world copy old w)
shows_collected old new copy w collected shows =
    grind (arith, common_steps, same_list, status_collected, slice_get-map, length-marked)

pub collection_simulates : (old new : DeskView) (copy : PinCopy) → IsCollected old copy new
    → SimulatesAt copy old (recycling copy old.pool) new
collection_simulates old new copy collected w shows at =
    let go : (n : ℕ) → is_among n (reclaimable_numbers copy old.pool) ≡ true → goes w.copy (slice_get w.status n) ≡ true =
    λ n is.
    ap (λ f. goes f (slice_get w.status n)) at ∙ ap (λ pool. goes copy (slice_get pool n)) shows.status
    ∙ goes_is copy (slice_get old.pool n) ∙ sym (reclaimable_at copy 0 n n old.pool (omega arith)) ∙ is in (
      record {
        after = collected_world copy old w;
        done = recycles (reclaimable_numbers copy old.pool) w go (reclaimable_apart copy 0 old.pool);
        shown = shows_collected old new copy w collected shows;
        floor = refl;
        copy = refl;
        sessions = refl;
      },
      λ n. recycle_skipped (collected_world copy old w) n
          (ap (λ f. goes f (slice_get (collected_world copy old w).status n)) at
          ∙ ap (goes copy) (status_collected copy old w shows n) ∙ none_goes copy (slice_get old.pool n)),
    )
