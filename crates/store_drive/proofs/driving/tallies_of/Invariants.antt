use Rattle.std.{proofs.Common.{◌≡◌, length}, specs.Prelude.All}
use Rattle.store_drive.proofs.driving.tallies_of.Given as goal

-- what each reader so far has counted: 80 answers, and none as wrong
abbrev pub invariant-loop-reading : goal.invariant-loop-reading
invariant-loop-reading g l = record {
  count : length l.tallies.items ≡ l.reading-index;
  each : All (λ tally. (tally.checked ≡ 80) × (tally.wrong ≡ 0)) l.tallies.items;
}
