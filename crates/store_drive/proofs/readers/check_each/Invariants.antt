use Rattle.std.proofs.Common.{◌≡◌, ◌+◌}
use Rattle.store_drive.proofs.readers.check_each.Given as goal

-- each request so far was counted, and none as wrong
abbrev pub invariant-loop-request : goal.invariant-loop-request
invariant-loop-request l = record {
  checked : l.tally.checked ≡ l.fn.tally.checked + l.request-index;
  wrong : l.tally.wrong ≡ l.fn.tally.wrong;
  between : l.tally.between ≡ l.fn.tally.between;
}
