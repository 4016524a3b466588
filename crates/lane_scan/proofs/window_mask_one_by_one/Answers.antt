use Rattle.std.proofs.{Common.arith, Common.length, Common.inl, Common.inr, lemmas.Bool.iff_false, lemmas.Bool.cases_lt}
use Rattle.lane_scan.{specs.Masks.IsPlaceWithin, proofs.UsedParts.{used_few, within_from_used, within_in_used}}
use Rattle.lane_scan.proofs.{Windows.{judged_in, judged_out}, window_mask_one_by_one.Goals.then-is_in+then-lo-time+then-time-hi}
use Rattle.lane_scan.proofs.window_mask_one_by_one.Goals.{else-is_in, else-is_in-via-then-is_in+then-lo-time+else-time-hi}
use Rattle.lane_scan.proofs.window_mask_one_by_one.Goals.{else-is_in-via-then-is_in+else-lo-time, else-is_in-via-else-is_in}
use Rattle.lane_scan.proofs.window_mask_one_by_one.Goals as goal

pub loop-place-preserved : goal.loop-place-preserved
loop-place-preserved c =
    elim c.if-is_in.branch [
      | then-is_in+then-lo-time+then-time-hi w ↦
          rw w.within-is
          (judged_in (IsPlaceWithin c.used_part-used.result.now c.args.live c.args.lo c.args.hi)
          c.loop-place.within c.loop-place.place
          c.loop-place.invariant
          (omega (arith, used_few c.args.live c.args.times.now c.used_part-used.result.now c.used_part-used.ensures))
          (record {
            within = c.loop-place-test.true;
            lives = c.is_in.ensures.0 w.if-is_in.true;
            from_lo = omega arith;
            to_hi = omega arith;
          }))
      | else-is_in w ↦
          rw w.within-is
          (judged_out (IsPlaceWithin c.used_part-used.result.now c.args.live c.args.lo c.args.hi)
          c.loop-place.within c.loop-place.place
          c.loop-place.invariant
          (elim w.else-is_in.branch [
            | else-is_in-via-then-is_in+then-lo-time+else-time-hi w' ↦
                (λ (in' : IsPlaceWithin c.used_part-used.result.now c.args.live c.args.lo c.args.hi c.loop-place.place). omega
                (arith, in'.to_hi))
            | else-is_in-via-then-is_in+else-lo-time w' ↦
                (λ (in' : IsPlaceWithin c.used_part-used.result.now c.args.live c.args.lo c.args.hi c.loop-place.place). omega
                (arith, in'.from_lo))
            | else-is_in-via-else-is_in w' ↦
                (λ (in' : IsPlaceWithin c.used_part-used.result.now c.args.live c.args.lo c.args.hi c.loop-place.place). iff_false
                c.is_in.ensures w'.if-is_in.false in'.lives)
          ]))
    ]

pub returns : goal.returns
returns c = λ place.
    elim (cases_lt place (length c.used_part-used.result.now)) [
      | inl within ↦ (
        (λ set. within_from_used c.args.times.now c.used_part-used.result.now c.args.live c.args.lo c.args.hi place
            c.used_part-used.ensures ((c.loop-place.invariant.below place (omega arith)).0 set)),
        (λ at. (c.loop-place.invariant.below place (omega arith)).1
            (within_in_used c.args.times.now c.used_part-used.result.now c.args.live c.args.lo c.args.hi place
            c.used_part-used.ensures at)),
      )
      | inr past ↦ (
        (λ set. absurd (c.loop-place.invariant.above place (omega arith) set)),
        (λ at. absurd (c.used_part-used.ensures.past place past at.within at.lives)),
      )
    ]
