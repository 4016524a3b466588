use Rattle.std.proofs.Common.{◌≡◌, ◌-◌, false}
use Rattle.feed_csv.specs.Records.{record_limit}
use Rattle.script_server.specs.Runs.{IsReadyRun, ShowsRun, ShowsStart}
use Rattle.script_server.specs.Writes.{held}
use Rattle.script_server.proofs.{RunSoFar.Reaches, SegmentTexts.Together}
use Rattle.script_commands.specs.States.{Setup, beginning}
use Rattle.script_server.proofs.script.turn_all.Given as goal

abbrev pub invariant-records : goal.invariant-records
invariant-records g l = record {
  ready : IsReadyRun l.feed l.run;
  working : l.sink.failed ≡ false;
  same : l.sink.writer.ghost_name ≡ l.initial.sink.writer.ghost_name;
  reaches : (setup : Setup) → ShowsRun l.initial.run (beginning setup)
      → Reaches setup l.initial.feed.left l.feed.left l.run (held g.W.Write.contents l.initial.sink)
      (held g.W.Write.contents l.sink);
  machine : (setup : Setup) → ShowsRun l.initial.run (beginning setup) → ShowsStart l.initial.run.server
      → Together setup l.initial.feed.left l.feed.left l.run (held g.W.Write.contents l.initial.sink)
      (held g.W.Write.contents l.sink);
}

abbrev pub decreases-records : goal.decreases-records
decreases-records g l = record_limit - l.feed.given
