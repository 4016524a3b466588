-- One number in the pool and in the machine: what a batch makes of it on both sides.
use Rattle.std.proofs.{Common.{◌≡◌, ℕ, Bool, true, arith}, lemmas.Grind.common_steps}
use Rattle.std.specs.declared.option.Option.{Option}
use Rattle.block_reclamation.specs.declared.status.BlockStatus.{BlockStatus}
use Rattle.block_reclamation.specs.Status.{is_free, is_used, is_at}
use Rattle.epoch_core.proofs.BlockSteps.{status_by}
use Rattle.block_pool.proofs.OneNumber.{number_after}

pub same_after : (n : ℕ) (p : Option BlockStatus) (t d : Bool) → (t ≡ true → is_at is_free p ≡ true)
    → (d ≡ true → is_at is_used p ≡ true) → status_by n (is_at is_used (number_after n p t d)) p t ≡ number_after n p t d
same_after n p t d f g = grind (arith, common_steps)
