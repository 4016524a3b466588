use Rattle.std.proofs.Common.{arith}
use Rattle.lane_scan.proofs.Selected.{bounds_alone}
use Rattle.edge_block.proofs.Selections.{selected_recents}
use Rattle.edge_block.proofs.blocks.Block.time_bounds.Goals as goal

pub returns-then-self-eq0 : goal.returns-then-self-eq0
returns-then-self-eq0 c =
    rw (
      ← c.self.view_is,
      ← selected_recents c.self.inside.live c.self.inside.targets c.self.inside.weights c.self.inside.firsts
          c.self.inside.recents c.self.told.3,
    ) (bounds_alone c.self.inside.recents c.self.inside.live c.if-self-eq0.true)

pub returns-else-self-eq0 : goal.returns-else-self-eq0
returns-else-self-eq0 c =
    rw (
      ← c.self.view_is,
      ← selected_recents c.self.inside.live c.self.inside.targets c.self.inside.weights c.self.inside.firsts
          c.self.inside.recents c.self.told.3,
    ) (c.self.invariant.1 (omega arith))
