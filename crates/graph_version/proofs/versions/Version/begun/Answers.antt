use Rattle.std.proofs.Common.{◌∙◌, ap}
use Rattle.graph_version.specs.Logs.{LogView}
use Rattle.graph_version.proofs.BegunRows.{begun_kept}
use Rattle.graph_version.proofs.versions.Version.begun.Goals as goal

pub invariant_of-result : goal.invariant_of-result
invariant_of-result c =
    let r = c.requires in
    begun_kept c.args.limits c.args.names c.args.kinds c.args.rows c.args.edges _ _ _ r.names r.kinds r.edges r.version
    c.in_ok-opening.ensures (ap (λ (l : LogView). l.batches) c.new.ensures)
    (ap (λ (l : LogView). l.keeps) c.new.ensures ∙ c.keeps_batches.ensures)
