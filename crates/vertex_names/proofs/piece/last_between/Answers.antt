use Rattle.std.proofs.Common.{◌≤◌, ◌+◌, ◌-◌, ◌/◌, ℕ, length, arith}
use Rattle.vertex_names.proofs.Entries.{bounds-up, bounds-down}
use Rattle.vertex_names.proofs.piece.last_between.Goals as goal

pub loop-end-preserved-then-pairs-middle : goal.loop-end-preserved-then-pairs-middle
loop-end-preserved-then-pairs-middle g c =
    let middle : ℕ = c.loop-end.at + (c.loop-end.end - c.loop-end.at) / 2 in
    let inv = c.loop-end.invariant in
    record {
      bounds = bounds-up c.args.pairs.now c.args.hash c.loop-end.at c.loop-end.end middle c.index-pairs-middle.result inv.bounds
          inv.within (omega (arith, c.loop-end-test.true)) c.requires.rising c.if-pairs-middle.true;
      within = inv.within;
    }

pub loop-end-preserved : goal.loop-end-preserved
loop-end-preserved g c =
    let middle : ℕ = c.loop-end.at + (c.loop-end.end - c.loop-end.at) / 2 in
    let inv = c.loop-end.invariant in
    let within : c.loop-end.end ≤ length c.args.pairs.now = inv.within in
    record {
      bounds = bounds-down c.args.pairs.now c.args.hash c.loop-end.at c.loop-end.end middle c.index-pairs-middle.result inv.bounds
          within (omega (arith, c.loop-end-test.true)) (omega (arith, c.loop-end-test.true)) c.if-pairs-middle.false;
      within = omega (arith, within, c.loop-end-test.true);
    }
