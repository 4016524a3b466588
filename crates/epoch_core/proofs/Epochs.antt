-- The epoch law, from what is sound.
use Rattle.std.proofs.Common.{◌≡◌, ℕ, [], ◌∷◌, length, sym, ap, ◌∙◌, arith, ltb}
use Rattle.std.proofs.lemmas.Grind.{common_steps}
use Rattle.std.specs.Prelude.{slice_get, if◌then◌else◌, count_by}
use Rattle.block_reclamation.specs.Status.{is_at, is_free, is_granted, is_retired}
use Rattle.block_reclamation.proofs.StatusCounts.{one_part}
use Rattle.graph_types.proofs.ListPlaces.{some_within}
use Rattle.epoch_core.specs.{Worlds.World, Epochs.FillsNoHeldBlock, Epochs.IsPartition, Epochs.PinsInOrder, Sound.IsSound}

pub fills_no_held : (w : World) → IsSound w → FillsNoHeldBlock w
fills_no_held w sound b edges s n done held = grind (arith, common_steps)

pub pins_in_order : (w : World) → IsSound w → PinsInOrder w
pins_in_order w sound = grind (arith, common_steps)

pub partition : (w : World) (blocks : ℕ) → IsSound w → length w.status ≡ blocks → IsPartition blocks w
partition w blocks sound size = record {
  one_each = λ b.
      ap (λ t. count_by (λ is_in. is_in) (is_at is_free (slice_get w.status b) ∷ is_at is_granted (slice_get w.status b)
      ∷ is_at is_retired (slice_get w.status b) ∷ t ∷ [])) (sym (sound.used b))
      ∙ one_part (slice_get w.status b) ∙ ap (λ t. if t then 1 else 0) (some_within w.status b ∙ ap (ltb b) size);
  listed_once = sound.listed_once;
}
