use Rattle.std.proofs.Common.{arith, pos, ap}
use Rattle.graph_types.proofs.ListPlaces.{copied_at, length-copied}
use Rattle.lane_scan.proofs.MaskPlaces.{below_used}
use Rattle.edge_block.proofs.Copies.{copied_block, slots_copied, columns_copied}
use Rattle.edge_block.proofs.Copies.{times_copied}
use Rattle.edge_block.proofs.blocks.Block.copy_from.Goals as goal

pub invariant_of-self : goal.invariant_of-self
invariant_of-self c = (
  columns_copied c.other.inside.live c.other.inside.targets c.other.inside.weights _ c.other.inside.firsts _
      c.other.inside.recents _
      (λ k few lives. copied_at c.other.inside.weights c.copy_from_slice.new.self _ c.used_places-used.result k
      (pos 0) c.copy_from_slice.ensures.after (omega (arith, c.other.told.1))
      (below_used _ _ k c.used_places-used.ensures.past lives))
      (λ k few lives. copied_at c.other.inside.firsts c.copy_from_slice-2.new.self _ c.used_places-used.result k 0
      c.copy_from_slice-2.ensures.after (omega (arith, c.other.told.2)) (below_used _ _ k c.used_places-used.ensures.past lives))
      (λ k few lives. copied_at c.other.inside.recents c.copy_from_slice-3.new.self _ c.used_places-used.result k 0
      c.copy_from_slice-3.ensures.after (omega (arith, c.other.told.3)) (below_used _ _ k c.used_places-used.ensures.past lives))
      c.other.invariant.0,
  times_copied c.other.inside.live c.other.inside.recents _ c.other.inside.times c.other.told.3
      (length-copied c.other.inside.recents c.self.inside.recents c.copy_from_slice-3.new.self c.used_places-used.result
      c.copy_from_slice-3.ensures.after c.other.told.3 c.self.told.3 c.used_places-used.ensures.few)
      (λ k few lives. copied_at c.other.inside.recents c.copy_from_slice-3.new.self _ c.used_places-used.result k 0
      c.copy_from_slice-3.ensures.after (omega (arith, c.other.told.3)) (below_used _ _ k c.used_places-used.ensures.past lives))
      c.other.invariant.1,
)

pub returns : goal.returns
returns c =
    let slots =
    slots_copied c.other.inside.live c.other.inside.targets c.other.inside.weights _ c.other.inside.firsts _
    c.other.inside.recents _
    (λ k few lives. copied_at c.other.inside.weights c.copy_from_slice.new.self _ c.used_places-used.result k
    (pos 0) c.copy_from_slice.ensures.after (omega (arith, c.other.told.1))
    (below_used _ _ k c.used_places-used.ensures.past lives))
    (λ k few lives. copied_at c.other.inside.firsts c.copy_from_slice-2.new.self _ c.used_places-used.result k 0
    c.copy_from_slice-2.ensures.after (omega (arith, c.other.told.2)) (below_used _ _ k c.used_places-used.ensures.past lives))
    (λ k few lives. copied_at c.other.inside.recents c.copy_from_slice-3.new.self _ c.used_places-used.result k 0
    c.copy_from_slice-3.ensures.after (omega (arith, c.other.told.3)) (below_used _ _ k c.used_places-used.ensures.past lives)) in
    copied_block c.self.inside.number _ _ c.args.self.now c.args.other.now
    (ap (λ b. b.number) c.self.view_is) slots c.other.view_is
