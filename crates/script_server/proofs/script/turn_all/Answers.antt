use Rattle.std.proofs.Common.{refl, ◌∙◌}
use Rattle.script_server.proofs.{RunEnd.{cause_ended, cause_stopped, finish_failed}, RunTexts.{all_ended, all_stopped}}
use Rattle.script_server.proofs.RunSoFar.{reaches_more, reaches_nothing, ready_more}
use Rattle.script_server.proofs.SegmentTexts.{joined_ended, joined_stopped, together_more, together_nothing}
use Rattle.script_server.proofs.script.turn_all.Goals as goal

pub records-init : goal.records-init
records-init g c = record {
  ready = c.requires.ready;
  working = c.requires.working;
  same = refl;
  reaches = λ setup shows. reaches_nothing setup _ _ _ shows;
  machine = λ setup shows starts. together_nothing setup _ _ _ c.requires.ready.server shows starts;
}

pub records-preserved : goal.records-preserved
records-preserved g c =
    let turned = rw c.in-Ok-true.field-0-test at c.in-Ok-true.ensures.turns in
    record {
      ready = ready_more _ _ _ _ _ _ c.records.invariant.ready turned;
      working = c.in-Ok-true.ensures.failed;
      same = c.in-Ok-true.ensures.same_writer ∙ c.records.invariant.same;
      reaches = λ setup shows. reaches_more setup _ _ _ _ _ _ _ _ (c.records.invariant.reaches setup shows) turned;
      machine = λ setup shows starts.
          together_more setup _ _ _ _ _ _ _ _ (c.records.invariant.machine setup shows starts) turned;
    }

pub returns-in-Err-clause-cause : goal.returns-in-Err-clause-cause
returns-in-Err-clause-cause g c = cause_stopped _ _ _ _ _ _ c.in-Err.ensures.turns

pub returns-in-Err-clause-failed : goal.returns-in-Err-clause-failed
returns-in-Err-clause-failed g c = c.in-Err.ensures.failed

pub returns-in-Err-clause-text : goal.returns-in-Err-clause-text
returns-in-Err-clause-text g c = all_stopped _ _ _ _ _ _ _ _ _ c.records.invariant.reaches c.in-Err.ensures.turns

pub returns-in-Err-clause-machine : goal.returns-in-Err-clause-machine
returns-in-Err-clause-machine g c = joined_stopped _ _ _ _ _ _ _ _ _ c.records.invariant.machine c.in-Err.ensures.turns

pub returns-in-Ok-false-clause-cause : goal.returns-in-Ok-false-clause-cause
returns-in-Ok-false-clause-cause g c =
    cause_ended _ _ _ _ _ _ c.finish.result c.records.invariant.ready
    (rw c.in-Ok-false.field-0-test at c.in-Ok-false.ensures.turns)
    c.finish.ensures.summary c.finish.ensures.fault

pub returns-in-Ok-false-clause-failed : goal.returns-in-Ok-false-clause-failed
returns-in-Ok-false-clause-failed g c = finish_failed _ c.finish.result c.finish.ensures.fault c.finish.ensures.failed

pub returns-in-Ok-false-clause-text : goal.returns-in-Ok-false-clause-text
returns-in-Ok-false-clause-text g c =
    all_ended _ _ _ _ _ _ _ _ _ _ c.finish.result c.records.invariant.ready c.records.invariant.reaches
    (rw c.in-Ok-false.field-0-test at c.in-Ok-false.ensures.turns)
    (record {
      whole = c.finish.ensures.whole;
      summary = c.finish.ensures.summary;
      part = c.finish.ensures.part;
      fault = c.finish.ensures.fault;
    })

pub returns-in-Ok-false-clause-machine : goal.returns-in-Ok-false-clause-machine
returns-in-Ok-false-clause-machine g c =
    joined_ended _ _ _ _ _ _ _ _ _ _ c.finish.result c.records.invariant.ready c.records.invariant.machine
    (rw c.in-Ok-false.field-0-test at c.in-Ok-false.ensures.turns)
    (record {
      whole = c.finish.ensures.whole;
      summary = c.finish.ensures.summary;
      part = c.finish.ensures.part;
      fault = c.finish.ensures.fault;
    })
