use Rattle.std.proofs.{Common.arith, Common.length, Common.inl, Common.inr, lemmas.Bool.iff_false, lemmas.Bool.cases_lt}
use Rattle.lane_scan.{specs.Masks.IsPlaceOf, proofs.Windows.{judged_in, judged_out}}
use Rattle.lane_scan.proofs.target_mask_one_by_one.Goals.{then-is_in+then-found-target, else-is_in}
use Rattle.lane_scan.proofs.target_mask_one_by_one.Goals.{else-is_in-via-then-is_in+else-found-target, else-is_in-via-else-is_in}
use Rattle.lane_scan.proofs.target_mask_one_by_one.Goals as goal

pub loop-place-preserved : goal.loop-place-preserved
loop-place-preserved c =
    elim c.if-is_in.branch [
      | then-is_in+then-found-target w ↦
          rw w.held-is
          (judged_in (IsPlaceOf c.args.targets.now c.args.live c.args.target) c.loop-place.held c.loop-place.place
          c.loop-place.invariant (omega arith) (record {
            within = c.loop-place-test.true;
            lives = c.is_in.ensures.0 w.if-is_in.true;
            holds = w.if-found-target.true;
          }))
      | else-is_in w ↦
          rw w.held-is
          (judged_out (IsPlaceOf c.args.targets.now c.args.live c.args.target) c.loop-place.held c.loop-place.place
          c.loop-place.invariant (elim w.else-is_in.branch [
            | else-is_in-via-then-is_in+else-found-target w' ↦ (λ at. w'.if-found-target.false at.holds)
            | else-is_in-via-else-is_in w' ↦ (λ at. iff_false c.is_in.ensures w'.if-is_in.false at.lives)
          ]))
    ]

pub returns : goal.returns
returns c = λ place.
    elim (cases_lt place (length c.args.targets.now)) [
      | inl within ↦ c.loop-place.invariant.below place (omega arith)
      | inr past ↦ (
        (λ set. absurd (c.loop-place.invariant.above place (omega arith) set)),
        (λ at. absurd (omega (arith, at.within))),
      )
    ]
