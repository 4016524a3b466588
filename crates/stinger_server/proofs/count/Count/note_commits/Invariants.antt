use Rattle.std.proofs.Common.{◌≡◌}
use Rattle.stinger_server.proofs.count.Count.note_commits.Given as goal

abbrev pub invariant-loop-byte : goal.invariant-loop-byte
invariant-loop-byte l = (l.self.bytes ≡ l.initial.self.bytes) × (l.self.lines ≡ l.initial.self.lines)
