use Rattle.std.{proofs.Common.{◌≡◌, ◌≤◌, ◌-◌, false, length, take}, specs.Io.KnownBytes.Appends}
use Rattle.script_server.specs.Writes.{held}
use Rattle.script_server.proofs.output.put.Given as goal

abbrev pub invariant-loop-at : goal.invariant-loop-at
invariant-loop-at g l = record {
  within : l.at ≤ length l.bytes;
  working : l.sink.failed ≡ false;
  same : l.sink.writer.ghost_name ≡ l.initial.sink.writer.ghost_name;
  written : Appends (held g.W.Write.contents l.initial.sink) (held g.W.Write.contents l.sink) (take l.at l.bytes);
}

abbrev pub decreases-loop-at : goal.decreases-loop-at
decreases-loop-at g l = length l.bytes - l.at
