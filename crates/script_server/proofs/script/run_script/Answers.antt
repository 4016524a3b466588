use Rattle.script_commands.specs.States.{set_up}
use Rattle.script_server.proofs.{RunEnd.{cause_unbegun, flushed_there}, RunTexts.{from_run, never_started}}
use Rattle.script_server.proofs.{SegmentTexts.joined_from_run, SegmentTexts.joined_never}
use Rattle.script_server.proofs.script.run_script.Goals as goal

pub returns-in-Err-clause-failed : goal.returns-in-Err-clause-failed
returns-in-Err-clause-failed g c = c.in-Err.ensures.failed

pub returns-in-Err-clause-cause : goal.returns-in-Err-clause-cause
returns-in-Err-clause-cause g c = cause_unbegun _ (set_up c.args.config) _ _ c.in-Err.fault c.requires.feed c.in-Err.ensures.starts

pub returns-in-Err-clause-text : goal.returns-in-Err-clause-text
returns-in-Err-clause-text g c = never_started _ _ _ _ _ c.in-Err.fault c.requires.feed c.in-Err.ensures.starts

pub returns-in-Err-clause-machine : goal.returns-in-Err-clause-machine
returns-in-Err-clause-machine g c = joined_never _ _ _ _ _ c.in-Err.fault c.requires.feed c.in-Err.ensures.starts

pub returns-in-Ok-clause-text : goal.returns-in-Ok-clause-text
returns-in-Ok-clause-text g c = from_run _ _ _ _ _ _ _ _ c.in-Ok.ensures.starts.3 c.in-Ok.ensures.starts.4 c.turn_all.ensures.text

pub returns-in-Ok-clause-machine : goal.returns-in-Ok-clause-machine
returns-in-Ok-clause-machine g c =
    joined_from_run _ _ _ _ _ _ _ _ c.in-Ok.ensures.starts.3 c.in-Ok.ensures.machine c.in-Ok.ensures.starts.4
    c.turn_all.ensures.machine

pub returns-in-Ok-clause-unread : goal.returns-in-Ok-clause-unread
returns-in-Ok-clause-unread g c = flushed_there c.args.feed.now c.turn_all.new.feed _ _ _ c.turn_all.ensures.failed c.turn_all.ensures.flushed
