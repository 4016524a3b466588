use Rattle.std.proofs.{Common.{◌∙◌, length, ap, subst, sym}, lemmas.List.length-replicate}
use Rattle.block_reclamation.specs.declared.status.BlockStatus.TheVariants.{Free}
use Rattle.block_pool.specs.{Pools.AreBodies, Kept.HasRoomFor}
use Rattle.block_pool.proofs.Rooms.{no_bodies, room_first}
use Rattle.block_pool.proofs.pool.Pool.new.Goals as goal

pub invariant_of-result : goal.invariant_of-result
invariant_of-result c = (
  c.in_ok-all_free.ensures.kept,
  subst (λ n. AreBodies n c.in_ok-new.field-0.items)
      (sym (ap length c.in_ok-all_free.ensures.statuses ∙ length-replicate c.args.blocks Free))
      (subst (AreBodies c.args.blocks) (sym c.in_ok-new.ensures) (no_bodies c.args.blocks)),
  subst (λ ps. HasRoomFor ps c.in_ok-new.field-0.rooms) (sym c.in_ok-all_free.ensures.statuses)
      (room_first c.args.blocks c.in_ok-new.field-0.rooms),
)

pub returns : goal.returns
returns c = c.in_ok-all_free.ensures.statuses
