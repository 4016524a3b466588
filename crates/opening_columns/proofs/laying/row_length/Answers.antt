use Rattle.std.proofs.Common.{◌≡◌, ◌∙◌, ℕ, ap, sym, subst, arith, get_or, inl, inr}
use Rattle.std.proofs.lemmas.Bool.Decides.{eqb_tells}
use Rattle.edge_block.specs.Slots.{BlockView}
use Rattle.graph_version.specs.Sharing.{block_values}
use Rattle.opening_columns.proofs.RowLists.{source_at}
use Rattle.opening_columns.proofs.laying.row_length.Goals as goal

pub loop-count-preserved : goal.loop-count-preserved
loop-count-preserved c =
    let bs = c.args.blocks.now in
    let count : ℕ = c.loop-count.count in
    let here : (d : BlockView) → (get_or (block_values bs) count d).source ≡ (get_or (block_values bs) 0 d).source = λ d.
    ap (λ (b : BlockView). b.source) (source_at bs count c.index-blocks-count.result d (omega arith) c.index-blocks-count.is
    ∙ sym c.deref-in-loop-count.ensures) ∙ sym c.source.ensures ∙ c.if-source.false ∙ c.source-source.ensures
    ∙ ap (λ (b : BlockView). b.source) (c.deref.ensures
    ∙ sym (source_at bs 0 c.index-blocks-0.result d (omega arith) c.index-blocks-0.is)) in
    record {
      low = omega arith;
      within = omega arith;
      alike = λ i d lt. elim (eqb_tells i count) [
        | inl same ↦ subst (λ (k : ℕ). (get_or (block_values bs) k d).source ≡ (get_or (block_values bs) 0 d).source) (sym same.1) (here d)
        | inr apart ↦ c.loop-count.invariant.alike i d (let ne = apart.1 in omega arith)
      ];
    }
