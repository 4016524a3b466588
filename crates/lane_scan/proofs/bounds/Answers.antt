use Rattle.std.proofs.{Common.arith, lemmas.List.take_all, lemmas.Bool.iff_false}
use Rattle.lane_scan.proofs.{Selected.selected_more_in, Selected.selected_more_out, UsedParts.selected_used}
use Rattle.lane_scan.proofs.bounds.Goals.{then-is_in, else-is_in}
use Rattle.lane_scan.proofs.bounds.Goals as goal

pub loop-place-preserved : goal.loop-place-preserved
loop-place-preserved c =
    elim c.if-is_in.branch [
      | then-is_in w ↦
          rw (
            w.found-is,
            selected_more_in c.args.mask c.used_part-used.result.now c.loop-place.place 0 c.loop-place-test.true
                (c.is_in.ensures.0 w.if-is_in.true),
          ) (w.widened.ensures _ c.loop-place.invariant)
      | else-is_in w ↦
          rw (
            w.found-is,
            selected_more_out c.args.mask c.used_part-used.result.now c.loop-place.place c.loop-place-test.true
                (iff_false c.is_in.ensures w.if-is_in.false),
          ) c.loop-place.invariant
    ]

pub returns : goal.returns
returns c =
    rw (← selected_used c.args.mask c.args.times.now c.used_part-used.result.now c.used_part-used.ensures)
    (rw (take_all c.loop-place.place c.used_part-used.result.now (omega arith)) at c.loop-place.invariant)
