-- What the code reads of a number.
use Rattle.std.proofs.{Common.{◌≡◌, ℕ, ◌<◌, length, get_or, sym}, lemmas.List.get_or_read}
use Rattle.block_pool.specs.{declared.numbers.Numbers.Numbers, Kept.{statuses, status_of}}
use Rattle.block_reclamation.specs.declared.status.BlockStatus.{BlockStatus, TheVariants.Granted}

pub status_read : (n : Numbers) (r : ℕ) (s : BlockStatus) → r < length n.statuses.items → s ≡ get_or n.statuses.items r s
    → status_of (statuses n) r ≡ s
status_read n r s lt read = sym (get_or_read n.statuses.items r s lt read Granted)
