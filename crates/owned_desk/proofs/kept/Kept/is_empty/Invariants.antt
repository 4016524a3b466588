use Rattle.std.proofs.Common.{◌≡◌, ◌<◌, ℕ}
use Rattle.std.specs.Prelude.{None}
use Rattle.owned_desk.specs.Kept.{seat_version}
use Rattle.owned_desk.proofs.kept.Kept.is_empty.Given as goal

abbrev pub invariant-loop-version : goal.invariant-loop-version
invariant-loop-version l = (seat : ℕ) → seat < l.version-index → seat_version l.self.versions seat ≡ None
