use Rattle.std.proofs.Common.{◌∙◌, ap}
use Rattle.graph_version.specs.{Versions.VersionView, Logs.keeps_batches}
use Rattle.graph_version.proofs.versions.Version.keeps_batches.Goals as goal

pub returns : goal.returns
returns c =
    c.keeps.ensures ∙ c.self.invariant.keeps_are ∙ ap (λ (v : VersionView). keeps_batches v.opening.limits) c.self.view_is
