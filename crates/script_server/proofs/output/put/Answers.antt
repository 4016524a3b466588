use Rattle.std.proofs.Common.{◌∙◌, arith, length-drop}
use Rattle.graph_types.proofs.{Cases.err_always, Prefixes.taken_more}
use Rattle.script_server.proofs.Writing.{part_taken}
use Rattle.script_server.proofs.output.put.Goals as goal

pub loop-at-preserved : goal.loop-at-preserved
loop-at-preserved g c = record {
  within = omega (arith, length-drop c.loop-at.at c.as_bytes-bytes.result.now, c.in_ok-at.ensures.count.1);
  working = c.in_ok-at.ensures.failed;
  same = c.in_ok-at.ensures.same_writer ∙ c.loop-at.invariant.same;
  written = taken_more _ _ _ _ _ _ c.loop-at.invariant.written c.in_ok-at.ensures.bytes;
}

pub returns-in_err-at-clause-part : goal.returns-in_err-at-clause-part
returns-in_err-at-clause-part g c =
    rw (← c.as_bytes-bytes.ensures.value)
    (err_always _ _
    (part_taken _ _ _ c.loop-at.at c.as_bytes-bytes.result.now c.loop-at.invariant.written c.in_err-at.ensures.bytes))
