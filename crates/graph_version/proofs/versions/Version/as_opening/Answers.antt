use Rattle.std.proofs.Common.{◌∙◌, ap, sym}
use Rattle.graph_types.proofs.LimitsKept.{limits_left_by}
use Rattle.graph_version.specs.Versions.{VersionView}
use Rattle.graph_version.proofs.versions.Version.as_opening.Goals as goal

pub told-requires-clause-limits : goal.told-requires-clause-limits
told-requires-clause-limits c =
    c.limits-limits.ensures ∙ ap (λ (v : VersionView). v.opening.limits) c.self.view_is
    ∙ sym (limits_left_by c.args.self.now.batches c.args.self.now.opening)
