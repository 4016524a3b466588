use Rattle.std.proofs.Common.{◌∙◌, ap, subst}
use Rattle.graph_version.specs.{Versions.VersionView, Kept.{IsSummary}}
use Rattle.graph_version.specs.Logs.{LogView, keeps_batches}
use Rattle.graph_version.proofs.Rebased.{reopened_kept, reopened_is}
use Rattle.graph_version.proofs.versions.Version.reopened.Goals as goal

pub invariant_of-result : goal.invariant_of-result
invariant_of-result c =
    let kept = ap (λ (l : LogView). l.keeps) c.new.ensures ∙ c.keeps_batches.ensures
    ∙ ap keeps_batches (c.limits.ensures ∙ ap (λ (v : VersionView). v.opening.limits) c.self.view_is) in
    reopened_kept _ _ c.self.inside.names c.self.inside.kinds c.args.self.now _ _ _ _ _ _
    (subst (IsSummary c.self.inside.names c.self.inside.kinds c.self.inside.edges c.self.inside.batches.keeps) c.self.view_is
    c.self.invariant) kept
    c.in_ok-share.ensures c.in_ok-share-2.ensures (ap (λ (l : LogView). l.batches) c.new.ensures)
    (c.in_ok-share-3.ensures ∙ ap (λ (v : VersionView). v.rows) c.self.view_is) c.in_ok-as_opening.ensures

pub returns : goal.returns
returns c = record {
  rebased = reopened_is c.args.self.now _ _ _ (ap (λ (l : LogView). l.batches) c.new.ensures)
      (c.in_ok-share-3.ensures ∙ ap (λ (v : VersionView). v.rows) c.self.view_is) c.in_ok-as_opening.ensures;
  rows = c.in_ok-share-3.ensures ∙ ap (λ (v : VersionView). v.rows) c.self.view_is;
}
