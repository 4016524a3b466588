use Rattle.std.proofs.Common.{◌∙◌, ap, refl}
use Rattle.vertex_names.specs.Book.{empty_book}
use Rattle.graph_version.{specs.Logs.LogView, proofs.Empty.is_kept_empty}
use Rattle.graph_version.proofs.versions.Version.empty_within.Goals as goal

pub invariant_of-result : goal.invariant_of-result
invariant_of-result c = is_kept_empty _ _ _ _ _ _ _ _ c.names.ensures.limits (c.new.ensures ∙ ap empty_book c.names.ensures.number)
    (c.new-2.ensures ∙ ap empty_book c.kinds.ensures.number) c.empty.ensures (ap (λ (l : LogView). l.batches) c.new-3.ensures)
    c.new-4.ensures refl (ap (λ (l : LogView). l.keeps) c.new-3.ensures ∙ c.keeps_batches.ensures)
