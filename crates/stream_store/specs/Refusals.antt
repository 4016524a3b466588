-- When the desk refuses a batch: as the desk that it keeps does.
pub use Rattle.desk.specs.Refusals.{asked, block_count, Attempt, BatchRefusal, IsAdmissible, attempt_on, Refuses, IsWithin}
