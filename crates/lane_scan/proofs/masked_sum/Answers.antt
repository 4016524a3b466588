use Rattle.std.proofs.Common.{◌≡◌, pos, ◌+ℤ◌, arith, get_or, sym, ap, ◌∙◌}
use Rattle.std.proofs.lemmas.{Int.ints, Bool.iff_false, List.Sums.fold_push}
use Rattle.lane_scan.proofs.{Selected.{selected_more_in, selected_more_out, All-selected_at}, masked_sum.Goals.then-is_in}
use Rattle.lane_scan.{proofs.masked_sum.Goals.else-is_in, specs.Masks.IsLaneWeight}
use Rattle.lane_scan.proofs.masked_sum.Goals as goal

pub overflow_add-sum : goal.overflow_add-sum
overflow_add-sum c =
    let weight : IsLaneWeight (get_or c.args.weights.now c.loop-place.place (pos 0)) =
    All-selected_at IsLaneWeight c.args.mask c.args.weights.now c.loop-place.place
    (pos 0) c.requires.counted_are_weights c.loop-place-test.true (c.is_in.ensures.0 c.if-is_in.true) in
    omega (arith, ints)

pub loop-place-preserved : goal.loop-place-preserved
loop-place-preserved c =
    elim c.if-is_in.branch [
      | then-is_in w ↦
          let weight : IsLaneWeight (get_or c.args.weights.now c.loop-place.place (pos 0)) =
          All-selected_at IsLaneWeight c.args.mask c.args.weights.now c.loop-place.place
          (pos 0) c.requires.counted_are_weights c.loop-place-test.true (c.is_in.ensures.0 w.if-is_in.true) in
          let more : c.if-is_in.sum ≡ c.loop-place.sum +ℤ get_or c.args.weights.now c.loop-place.place (pos 0) =
          omega (arith, ints) in (
            rw (
              selected_more_in c.args.mask c.args.weights.now c.loop-place.place (pos 0) c.loop-place-test.true
                  (c.is_in.ensures.0 w.if-is_in.true),
              fold_push,
            ) (c.if-is_in.sum-is ∙ more ∙ ap (λ s. s +ℤ get_or c.args.weights.now c.loop-place.place (pos 0))
                (sym c.loop-place.sum-is ∙ c.loop-place.invariant.0)),
            omega (arith, ints),
          )
      | else-is_in w ↦ (
        rw (selected_more_out c.args.mask c.args.weights.now c.loop-place.place c.loop-place-test.true
            (iff_false c.is_in.ensures w.if-is_in.false)) (w.sum-is ∙ c.loop-place.invariant.0),
        omega (arith, ints),
      )
    ]
