use Rattle.std.proofs.Common.{◌≡◌, ◌%◌, ◌^◌, sym, ap, subst}
use Rattle.graph_version.{specs.{Kept.edge_total, Drafts.{DraftView, IsWhole}}, proofs.Drafting.whole_kept}
use Rattle.graph_version.proofs.drafts.VersionDraft.finish_counted.Goals as goal

pub invariant_of-result : goal.invariant_of-result
invariant_of-result c = whole_kept _ _ _ _ _ _ _ c.self.invariant (subst IsWhole (sym c.self.view_is) c.requires.whole)
    (subst (λ (d : DraftView). c.args.edges ≡ edge_total d.version % 2 ^ 64) (sym c.self.view_is) c.requires.edges)

pub returns : goal.returns
returns c = ap (λ (d : DraftView). d.version) c.self.view_is
