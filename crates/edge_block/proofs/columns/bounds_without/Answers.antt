use Rattle.std.proofs.Common.{◌<◌, inl, inr}
use Rattle.lane_scan.proofs.Selected.{bounds_alone}
use Rattle.edge_block.proofs.Times.{bounds_inside, live_with_others}
use Rattle.edge_block.proofs.columns.bounds_without.Goals as goal

pub returns-then-others-eq0 : goal.returns-then-others-eq0
returns-then-others-eq0 c = bounds_alone c.args.recents.now _ c.if-others-eq0.true

pub returns-then-time-greatest : goal.returns-then-time-greatest
returns-then-time-greatest c =
    let some : 0 < c.args.live = live_with_others c.args.live c.args.place c.if-others-eq0.false in
    elim c.if-time-greatest.either [
      | inl same ↦ rw same (c.requires.times some)
      | inr inside ↦ bounds_inside c.args.live c.args.recents.now c.args.times c.args.place c.requires.within c.told-recents
          (c.requires.times some) inside.1 inside.2
    ]
