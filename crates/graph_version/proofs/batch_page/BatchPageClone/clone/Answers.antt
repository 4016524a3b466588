use Rattle.std.proofs.Common.{◌≡◌, ◌∙◌, ◌++◌, List, ap, map, subst}
use Rattle.std.specs.{List.AllZip, declared.sync.Arc.Arc, declared.alloc.Global.Global}
use Rattle.graph_types.specs.declared.batches.Batch.{Batch}
use Rattle.graph_version.specs.Batches.{batch_value}
use Rattle.list_pieces.proofs.Shown.{zipped_map}
use Rattle.graph_version.proofs.batch_page.BatchPageClone.clone.Goals as goal

pub returns : goal.returns
returns c =
    let (ys, all, same) = c.in_ok-extend_from_slice.ensures.items in
    record {
      cases = rw (← c.self.view_is) (ap (map batch_value) (all ∙ ap (λ l. l ++ ys) c.in_ok-batches.ensures.items)
          ∙ zipped_map batch_value _ _ (subst (λ (xs : List (Arc Batch Global)).
          AllZip (λ x y. batch_value y ≡ batch_value x) xs ys) c.deref.ensures.value same));
    }
