use Rattle.std.proofs.{Common.{◌≡◌, ◌∙◌, length, sym, ap, subst, true}, Math.ListN.length-set}
use Rattle.block_reclamation.specs.declared.status.BlockStatus.TheVariants.{Used}
use Rattle.block_pool.specs.{Pools.{AreBodies, is_in_use_at}, Kept.statuses}
use Rattle.block_pool.proofs.{Tallies.used_at, Rooms.room_for_set}
use Rattle.block_pool.proofs.pool.Pool.born.Goals as goal

pub invariant_of-self : goal.invariant_of-self
invariant_of-self c =
    let n = c.self.inside.numbers in
    let rooms = c.self.invariant.2 in
    let at = used_at (statuses n) c.args.number (subst (λ ps. is_in_use_at ps c.args.number ≡ true) (sym c.self.view_is) c.requires) in (
      c.born.ensures.kept,
      subst (λ m. AreBodies m c.self.inside.bodies.items)
          (sym (ap length c.born.ensures.statuses ∙ length-set (statuses n) c.args.number (Used c.args.version))) c.self.invariant.1,
      rw c.born.ensures.statuses (room_for_set (statuses n) c.self.inside.bodies.rooms rooms c.args.number (Used c.args.version)
          (λ _. rooms c.args.number at.within at.not_free)),
    )
