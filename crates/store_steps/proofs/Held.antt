-- What a session holds is a snapshot.
use Rattle.std.proofs.Common.{◌≡◌, ℕ, take, sym, ap, subst, ◌∙◌, arith, List}
use Rattle.std.{proofs.lemmas.List.take-map, specs.Prelude.slice_get}
use Rattle.graph_types.specs.Step.{left_by}
use Rattle.block_reclamation.specs.declared.{status.BlockStatus.BlockStatus, copies.PinCopy.PinCopy}
use Rattle.block_reclamation.specs.Status.{is_free, is_reclaimable, is_at, is_among}
use Rattle.epoch_core.specs.{declared.session_states.SessionState.SessionState, Sound.IsSound}
use Rattle.epoch_core.specs.{Sound.IsCovered, Versions.{AreEdgesOf, graph_of_opening, blocks_at, edges_of}}
use Rattle.epoch_core.specs.{Versions.graph_at, Runs.run, Worlds.{World, session_of}}
use Rattle.epoch_core.proofs.{Steps.always_sound, HeldBlocks.{Holder, holder_of}}
use Rattle.epoch_core.proofs.HeldStatus.{not_free, not_reclaimable}
use Rattle.store_steps.specs.{Desks.DeskView, Shown.ShowsWorld, Held.{IsSnapshot, HeldIsSnapshot}}
use Rattle.store_steps.proofs.Reached.{same_count}

-- the graph of the machine's version is what the desk's first batches leave
graph_first : (d : DeskView) (w : World) (n : ℕ) → ShowsWorld d w → graph_at w.opening w.versions n
    ≡ left_by (take n d.last.batches) d.last.opening
graph_first d w n shows =
    ap (λ bs. left_by bs (graph_of_opening w.opening)) (sym (take-map (λ v. v.batch) n w.versions) ∙ ap (take n) shows.batches)
    ∙ ap (left_by (take n d.last.batches)) shows.opening

snapshot : (d : DeskView) (w : World) (copy : PinCopy) (session : SessionState) (n : ℕ) → ShowsWorld d w → w.copy ≡ copy
    → Holder w session n → IsSnapshot d copy w n
snapshot d w copy session n shows same holder =
    let version = holder.version_is in
    let covered : IsCovered copy holder.hold.version =
    subst (λ k. IsCovered k holder.hold.version) same holder.held.covered in
    record {
      within = let last = holder.held.held_last in let count = same_count d w shows in omega arith;
      shown = subst (AreEdgesOf (edges_of w.heap (blocks_at w.opening w.versions n))) (graph_first d w n shows)
          (subst (λ m. AreEdgesOf (edges_of w.heap (blocks_at w.opening w.versions m)) (graph_at w.opening w.versions m))
          version holder.held.shown);
      in_use = λ c is.
          ap (λ (pool : List BlockStatus). is_at is_free (slice_get pool c)) (sym shows.status)
          ∙ not_free holder.hold.version (slice_get w.status c)
          (holder.held.kept c (ap (λ m. is_among c (blocks_at w.opening w.versions m)) version ∙ is));
      kept = λ c is.
          ap (λ (pool : List BlockStatus). is_at (is_reclaimable copy) (slice_get pool c)) (sym shows.status)
          ∙ not_reclaimable holder.hold.version copy (slice_get w.status c)
          (holder.held.kept c (ap (λ m. is_among c (blocks_at w.opening w.versions m)) version ∙ is)) covered;
    }

pub held_is_snapshot : HeldIsSnapshot
held_is_snapshot start events s seat n is_start r held =
    let w : World = run events start.world in
    let sound : IsSound w = always_sound start events is_start in
    snapshot s.desk w s.copy (session_of w seat) n r.desk r.copied_is (holder_of w (session_of w seat) n (sound.sessions seat) held)
