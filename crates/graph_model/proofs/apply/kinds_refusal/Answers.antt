-- The names that are left are counted once more.
use Rattle.std.proofs.Common.{◌≡◌, ◌≤◌, arith, length, sym, ap, subst, ◌∙◌}
use Rattle.graph_types.specs.Graph.{graph_in}
use Rattle.graph_types.specs.{Parts.names_after_all, Refusals.IsLimitRefusal}
use Rattle.graph_types.proofs.OperationParts.{names_fit}
use Rattle.graph_model.specs.Refusals.{IsNamesRefusal}
use Rattle.graph_model.proofs.{BatchRefusals.Refuses-names, apply.kinds_refusal.Goals.{in-Ok, in-Err}}
use Rattle.graph_model.proofs.apply.kinds_refusal.Goals as goal

pub returns : goal.returns
returns c =
    let ops = c.args.ops.now in
    let g = graph_in c.args.limits c.args.content.now in
    let most : c.names.result ≡ g.limits.names = c.names.ensures.number in
    elim c.match-names_after_all.branch [
      | in-Ok w ↦
          let few : length (names_after_all ops g.names) ≤ g.limits.names =
          subst (λ xs. length xs ≤ g.limits.names) (w.in-Ok.ensures.left ∙ ap (names_after_all ops) c.as_slice.ensures)
          (omega (arith, w.in-Ok.ensures.few, most)) in
          subst (λ e. IsLimitRefusal e ops g) (sym w.result-is) (c.requires.kinds, names_fit ops g few)
      | in-Err w ↦
          subst (λ e. IsLimitRefusal e ops g) (sym w.result-is)
          (Refuses-names w.in-Err.error ops g (subst
          (λ xs. IsNamesRefusal g.limits.names w.in-Err.error (names_after_all ops xs)) c.as_slice.ensures
          (rw (sym most) w.in-Err.ensures.refused)))
    ]
