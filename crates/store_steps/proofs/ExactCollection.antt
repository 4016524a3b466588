-- A collection leaves exactly the blocks that held versions list.
use Rattle.std.proofs.Common.{◌≡◌, List, length, sym, ap, ◌∙◌, arith}
use Rattle.std.proofs.lemmas.Option.{slice_get-map}
use Rattle.std.specs.{Prelude.slice_get, Option.option_map}
use Rattle.block_reclamation.specs.declared.{status.BlockStatus.BlockStatus, copies.PinCopy.PinCopy}
use Rattle.block_reclamation.specs.{Status.{is_at, is_among, is_retired, recycled}, Copies.copy_of}
use Rattle.epoch_core.specs.{Sound.IsSound, Runs.run, Worlds.{World, last_blocks, present_copy}}
use Rattle.epoch_core.proofs.{Steps.always_sound, Sizes.size_run}
use Rattle.graph_version.specs.Rows.{blocks_of, numbers_of}
use Rattle.epoch_core.proofs.HeldStatus.{left_is_held, held_is_left}
use Rattle.store_steps.specs.{Desks.last_numbers, Reached.raised_store, Held.CollectionIsExact}
use Rattle.store_steps.proofs.{Reached.same_count, BoardSteps.copies_same}

pub collection_is_exact : CollectionIsExact
collection_is_exact start events s new is_start few r board told collected b =
    let w : World = run events start.world in
    let sound : IsSound w = always_sound start events is_start in
    let same_sessions : length w.sessions ≡ length start.world.sessions = (size_run events start.world).sessions in
    let copy : present_copy w ≡ (raised_store s).copy =
    copies_same s.board w board (omega (arith, few, same_sessions)) r.board
    ∙ ap (λ n. copy_of n s.board.pins) (same_count s.desk w r.desk) in
    let pool : is_at is_retired (slice_get new.pool b)
    ≡ is_at is_retired (option_map (recycled (present_copy w)) (slice_get w.status b)) =
    ap (λ (blocks : List BlockStatus). is_at is_retired (slice_get blocks b)) collected.pool
    ∙ ap (is_at is_retired) (slice_get-map (recycled (raised_store s).copy) s.desk.pool b)
    ∙ ap (λ (blocks : List BlockStatus). is_at is_retired (option_map (recycled (raised_store s).copy) (slice_get blocks b)))
    (sym r.desk.status)
    ∙ ap (λ (k : PinCopy). is_at is_retired (option_map (recycled k) (slice_get w.status b))) (sym copy) in
    let listed : is_among b (last_blocks w) ≡ is_among b (last_numbers new) =
    ap (is_among b) (r.desk.blocks ∙ sym (ap (λ v. numbers_of (blocks_of v.rows)) collected.last)) in (
      λ still. let both = left_is_held w b sound told (sym pool ∙ still) in (both.0, sym listed ∙ both.1),
      λ h. pool ∙ held_is_left w b sound told h.0 (listed ∙ h.1),
    )
