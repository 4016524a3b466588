-- Version 0 over copies of a version's blocks.
use Rattle.std.proofs.Common.{◌≡◌, ℕ, arith}
use Rattle.std.{proofs.lemmas.Grind.common_steps, specs.Arc.arc_value}
use Rattle.graph_version.specs.Rows.{blocks_of, numbers_of}
use Rattle.graph_version.specs.{Versions.VersionView, declared.versions.Version.Version}
use Rattle.store_steps.specs.Opening.{IsVersionZero, opened_desk}
use Rattle.desk.specs.{Openings.OpensWith, declared.zero.Zero.Zero}

-- what opens, by the version that is shared
pub opens_with : (blocks : ℕ) (parts : Zero) (z : VersionView) → arc_value {X = Version} parts.version ≡ z → IsVersionZero blocks z
    → parts.numbers ≡ numbers_of (blocks_of z.rows) → parts.pool ≡ (opened_desk blocks z).pool → OpensWith blocks parts
opens_with blocks parts z shown is numbers pool = grind (arith, common_steps)
