use Rattle.std.proofs.Common.{◌∙◌, ap, sym}
use Rattle.graph_types.proofs.LimitsKept.{limits_left_by}
use Rattle.graph_version.specs.Versions.{VersionView}
use Rattle.graph_version.proofs.versions.Version.limits.Goals as goal

pub returns-clause-limits : goal.returns-clause-limits
returns-clause-limits c =
    c.limits.ensures ∙ ap (λ (v : VersionView). v.opening.limits) c.self.view_is
    ∙ sym (limits_left_by c.args.self.now.batches c.args.self.now.opening)
