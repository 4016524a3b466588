-- The status of a block that a version lists which is kept or held.
use Rattle.std.proofs.{Common.{◌≡◌, ℕ, true, false, not, inl, refl, ap, arith}, lemmas.Grind.common_steps}
use Rattle.std.specs.{Option.option_map, Prelude.slice_get, declared.option.Option.{Option, TheVariants.Some}}
use Rattle.block_reclamation.specs.Status.{is_at, is_retired, recycled, is_among, is_free, is_reclaimable}
use Rattle.block_reclamation.specs.declared.{copies.PinCopy.PinCopy, status.BlockStatus.{BlockStatus, TheVariants.Retired}}
use Rattle.block_reclamation.proofs.Recycling.{StaysRetired, stays_retired, needed_stays}
use Rattle.block_reclamation.proofs.OneStatus.{RetiredThen, retired_then}
use Rattle.epoch_core.specs.{Collections.{IsHeldBlock, HaveSettled}, Sound.{IsSound, IsKeptAt, IsCovered}}
use Rattle.epoch_core.specs.Worlds.{present_copy, last_blocks, World}
use Rattle.epoch_core.proofs.HeldBlocks.{NeedsWhatIsListed, needs_what_is_listed, held_alone, unlisted}
use Rattle.epoch_core.proofs.HeldBlocks.{held_is_retired}

module _ (w : World) (b : ℕ) (sound : IsSound w) (told : HaveSettled w) where
  pub left_is_held : is_at is_retired (option_map (recycled (present_copy w)) (slice_get w.status b)) ≡ true
      → IsHeldBlock w b × (is_among b (last_blocks w) ≡ false)
  left_is_held still =
      let stays : StaysRetired (present_copy w) (slice_get w.status b) = stays_retired _ _ still in
      let needed : NeedsWhatIsListed w b stays.birth stays.retirement =
      needs_what_is_listed w b stays.birth stays.retirement sound stays.was in
      (held_alone w b told (needed.listed stays.need), unlisted w b sound (ap (is_at is_retired) stays.was))

  pub held_is_left : IsHeldBlock w b → is_among b (last_blocks w) ≡ false
      → is_at is_retired (option_map (recycled (present_copy w)) (slice_get w.status b)) ≡ true
  held_is_left held none =
      let then : RetiredThen (slice_get w.status b) = retired_then _ (held_is_retired w b sound held none) in
      let needed : NeedsWhatIsListed w b then.birth then.retirement =
      needs_what_is_listed w b then.birth then.retirement sound then.is in
      needed_stays (present_copy w) (slice_get w.status b) (record {
        birth = then.birth;
        retirement = then.retirement;
        was = then.is;
        need = needed.needed (inl held);
      })

-- a block that is kept for the holders of a version is neither free nor freed by a copy that covers it
pub not_free : (n : ℕ) (s : Option BlockStatus) → IsKeptAt n s → is_at is_free s ≡ false
not_free n s kept = grind (arith, common_steps)

pub not_reclaimable : (n : ℕ) (copy : PinCopy) (s : Option BlockStatus) → IsKeptAt n s → IsCovered copy n
    → is_at (is_reclaimable copy) s ≡ false
not_reclaimable n copy (Some (Retired birth retirement)) kept covered = ap not (covered birth retirement kept.0 kept.1)
not_reclaimable n copy _ kept covered = refl
