-- One batch more was answered with what its receipt tells.
use Rattle.std.proofs.Common.{◌≡◌, ◌+◌, [], ◌∷◌, ◌++◌, ap, arith, length, length-append}
use Rattle.graph_types.proofs.Elements.{pushed}
use Rattle.store_drive.specs.Load.{IsBatchAnswered}
use Rattle.store_drive.proofs.feeder.feed_all.Goals as goal

pub loop-number-preserved : goal.loop-number-preserved
loop-number-preserved g c =
    let earlier = c.loop-number.earlier.items in
    let kept = c.kept_of.result in
    let count : length earlier + 1 ≡ c.loop-number.number = c.loop-number.invariant.count in
    let items : c.push.new.self.items ≡ earlier ++ kept ∷ [] = c.in_ok-push.ensures.items in
    let answered : IsBatchAnswered (length earlier + 1) kept = record {
      told = c.in_ok-fed.fed.receipt.told;
      receipt_is = rw (count, c.kept_of.ensures.number, c.kept_of.ensures.outcomes) c.in_ok-fed.ensures;
    } in
    record {
      count = omega (arith, count, ap length items, length-append earlier (kept ∷ []));
      earlier = rw items (pushed (λ n. IsBatchAnswered (n + 1)) earlier kept c.loop-number.invariant.earlier answered);
    }
