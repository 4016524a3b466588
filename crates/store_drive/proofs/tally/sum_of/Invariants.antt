use Rattle.std.{proofs.Common.{◌≡◌, ◌≤◌, ◌*◌, take}, specs.Prelude.sum_by}
use Rattle.store_drive.proofs.tally.sum_of.Given as goal

-- what those so far have counted
abbrev pub invariant-loop-tally : goal.invariant-loop-tally
invariant-loop-tally l = record {
  few : l.sum.checked ≤ 1000 * l.tally-index;
  checked : l.sum.checked ≡ sum_by (λ tally. tally.checked) (take l.tally-index l.tallies);
  wrong : l.sum.wrong ≡ sum_by (λ tally. tally.wrong) (take l.tally-index l.tallies);
  between : l.sum.between ≡ sum_by (λ tally. tally.between) (take l.tally-index l.tallies);
}
