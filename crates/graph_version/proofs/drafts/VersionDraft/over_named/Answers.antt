use Rattle.std.proofs.Common.{◌∙◌, ap, sym}
use Rattle.graph_types.specs.Graph.{Graph}
use Rattle.graph_version.{specs.Logs.{LogView, keeps_batches}, proofs.Drafting.{drafted}}
use Rattle.graph_version.proofs.drafts.VersionDraft.over_named.Goals as goal

pub invariant_of-result : goal.invariant_of-result
invariant_of-result c = ap (λ (l : LogView). l.keeps) c.in_ok-share.ensures ∙ c.version.invariant.keeps_are
    ∙ sym (ap (λ (g : Graph). keeps_batches g.limits) c.in_ok-share-3.ensures)

pub returns : goal.returns
returns c = rw (← c.version.view_is) (drafted _ _ _ _ _ _ _ _ c.in_ok-share-3.ensures
    (ap (λ (l : LogView). l.batches) c.in_ok-share.ensures) c.in_ok-share-2.ensures)
