use Rattle.std.proofs.Common.{ℕ, ◌%◌, ◌^◌, ◌∙◌, sym, ap, subst}
use Rattle.graph_version.{specs.{Drafts.{DraftView, IsWhole}, Kept.edge_total}, proofs.Few.count_is_total}
use Rattle.graph_version.proofs.drafts.VersionDraft.finish.Goals as goal

pub finish_counted-requires-clause-edges : goal.finish_counted-requires-clause-edges
finish_counted-requires-clause-edges c =
    let whole = subst IsWhole (sym c.self.view_is) c.requires in
    c.edges_in_rows-edges.ensures ∙ ap (λ (n : ℕ). n % 2 ^ 64) (count_is_total _ whole.version)
    ∙ ap (λ (d : DraftView). edge_total d.version % 2 ^ 64) c.self.view_is
