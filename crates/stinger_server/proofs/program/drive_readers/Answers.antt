use Rattle.std.proofs.Common.{◌∙◌, Err, Ok, [], append-nil, inr, refl}
use Rattle.store_drive.specs.declared.reports.DriveWord.TheVariants.{Memory}
use Rattle.stinger_server.proofs.Driven.{told_of_drive}
use Rattle.stinger_server.proofs.program.drive_readers.Goals as goal

pub returns-in-Ok-report_line : goal.returns-in-Ok-report_line
returns-in-Ok-report_line g c =
    inr (told_of_drive _ _ _ _ _ _ _ _ _ (Ok c.in-Ok.report) c.as_str.result.now [] c.in-Ok.ensures
    (append-nil c.as_str.result.now ∙ (c.as_str.ensures.value ∙ c.in-Ok-report_line.ensures)) c.report_status.ensures
    c.show.ensures.told c.show.ensures.noted)

pub returns-in-Err-report_line : goal.returns-in-Err-report_line
returns-in-Err-report_line g c =
    inr (told_of_drive _ _ _ _ _ _ _ _ _ (Err (record { word = Memory })) [] c.word_line.result.now tt
    c.word_line.ensures refl c.show-in-Err-report_line.ensures.told c.show-in-Err-report_line.ensures.noted)
