-- What a drive came to, from what was told of it.
use Rattle.std.{proofs.Common.{◌≡◌, ◌⊎◌, ◌++◌, ℕ, List, subst}, specs.Prelude.{IfOk, Option, Result}}
use Rattle.stinger_server.specs.Program.{IsDriven, IsToldFault, drive_line, drive_status}
use Rattle.script_server.specs.Writes.{AppendsPart}
use Rattle.store_drive.specs.{Reports.IsReport, declared.reports.DriveFault.DriveFault, declared.reports.DriveReport.DriveReport}

pub told_of_drive : {F : Type 0} (readers status wanted : ℕ) (old new : Option (List ℕ)) (contents : F → Option (List ℕ))
    (unwritten : List ℕ) (faults faults' : F) (outcome : Result DriveReport DriveFault) (text end : List ℕ)
    → IfOk outcome (IsReport readers) → text ++ end ≡ drive_line outcome → wanted ≡ drive_status outcome
    → IsToldFault (λ told. told ≡ text ++ end) wanted status old new
    → (faults' ≡ faults) ⊎ ((status ≡ 1) × AppendsPart (contents faults) (contents faults') unwritten)
    → IsDriven readers status old new contents unwritten faults faults'
told_of_drive readers status wanted old new contents unwritten faults faults' outcome text end report line same told noted = record {
  outcome = outcome;
  report = report;
  told = subst (λ (s : List ℕ). IsToldFault (λ told. told ≡ s) (drive_status outcome) status old new) line
      (subst (λ (w : ℕ). IsToldFault (λ told. told ≡ text ++ end) w status old new) same told);
  noted = noted;
}
