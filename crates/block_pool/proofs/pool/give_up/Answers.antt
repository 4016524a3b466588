use Rattle.std.proofs.Common.{◌≡◌, ◌-◌, length, refl, subst, sym, arith, ◌∙◌}
use Rattle.block_pool.specs.Pools.{AreBodies}
use Rattle.block_pool.proofs.Grants.{free_read}
use Rattle.block_pool.proofs.pool.give_up.Goals as goal

pub get-number-requires : goal.get-number-requires
get-number-requires c = omega (arith, c.back-test.true, c.back.invariant.low, c.requires.few, c.requires.kept.free_in, c.requires.kept.free_room)

pub drop_body-requires-clause-within : goal.drop_body-requires-clause-within
drop_body-requires-clause-within c =
    let is = free_read c.args.numbers.now c.requires.kept (c.back.place - 1) c.get-number.result
    (omega (arith, c.back-test.true, c.back.invariant.low, c.requires.few)) c.get-number.ensures in
    omega (arith, is.1, c.back.invariant.bodies.same_length)

pub drop_body-requires-clause-bodies : goal.drop_body-requires-clause-bodies
drop_body-requires-clause-bodies c =
    subst (λ n. AreBodies n c.back.bodies.items) (sym c.back.invariant.bodies.same_length) c.back.invariant.bodies

pub back-preserved : goal.back-preserved
back-preserved c = record {
  low = omega (arith, c.back-test.true, c.back.invariant.low);
  bodies = subst (λ n. AreBodies n c.drop_body.new.bodies.items) c.back.invariant.bodies.same_length c.drop_body.ensures.bodies;
  rooms = c.drop_body.ensures.rooms ∙ c.back.invariant.rooms;
}
