use Rattle.std.proofs.{Common.◌∙◌, Common.ap, Common.w64, lemmas.Int.to_z-of_z}
use Rattle.edge_block.specs.Slots.{edge_slot, put_slot}
use Rattle.edge_block.proofs.{KeptColumns.after_put, KeptColumns.columns_put, KeptColumns.same_block, Times.times_put}
use Rattle.edge_block.proofs.blocks.Block.put.Goals as goal

pub invariant_of-self : goal.invariant_of-self
invariant_of-self c =
    let puts = rw (← c.self.view_is) at (c.place_for-place.ensures.puts c.args.weight c.args.first c.args.recent) in
    rw (to_z-of_z w64 c.args.weight c.ranges.weight) (
      columns_put c.self.inside.live c.self.inside.targets c.self.inside.weights c.self.inside.firsts c.self.inside.recents
          c.place_for-place.result c.args.target c.args.weight c.args.first c.args.recent c.place_for-place.ensures.within
          (after_put c.self.inside.live c.self.inside.targets c.self.inside.weights c.self.inside.firsts c.self.inside.recents
          c.place_for-place.result c.args.target c.args.weight c.args.first c.args.recent c.place_for-place.ensures.within
          c.self.told puts)
          (c.requires.weight, c.requires.first, c.requires.recent) c.self.invariant.0,
      times_put c.self.inside.live c.self.inside.recents c.place_for-place.result c.args.recent _ c.place_for-place.ensures.within
          c.self.told.3 (c.widened-times.ensures _ c.bounds_without-others.ensures),
    )

pub returns : goal.returns
returns c =
    let puts = rw (← c.self.view_is) at (c.place_for-place.ensures.puts c.args.weight c.args.first c.args.recent) in
    rw (to_z-of_z w64 c.args.weight c.ranges.weight)
    (same_block _ _ _ _ c.self.view_is
    (after_put c.self.inside.live c.self.inside.targets c.self.inside.weights c.self.inside.firsts c.self.inside.recents
    c.place_for-place.result c.args.target c.args.weight c.args.first c.args.recent c.place_for-place.ensures.within c.self.told
    puts
    ∙ ap (λ b. put_slot (edge_slot c.args.target c.args.weight c.args.first c.args.recent) b.slots) c.self.view_is))
