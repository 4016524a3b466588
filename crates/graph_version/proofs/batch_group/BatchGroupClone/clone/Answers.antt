use Rattle.std.proofs.Common.{◌≡◌, ◌∙◌, ◌++◌, List, ap, sym, subst, length, flat_map}
use Rattle.std.specs.{List.AllZip, declared.sync.Arc.Arc, declared.alloc.Global.Global}
use Rattle.graph_version.specs.{BatchPages.in_page, BatchPages.ArePages, declared.batch_page.BatchPage.BatchPage}
use Rattle.list_pieces.proofs.{Pieces.zipped_pieces, Shown.zipped_flat}
use Rattle.graph_version.proofs.batch_group.BatchGroupClone.clone.Goals as goal

pub invariant_of-result : goal.invariant_of-result
invariant_of-result c =
    let (ys, all, same) = c.in_ok-extend_from_slice.ensures.items in
    let zipped : AllZip (λ x y. in_page y ≡ in_page x) c.self.inside.pages.items ys =
    subst (λ (xs : List (Arc BatchPage Global)). AllZip (λ x y. in_page y ≡ in_page x) xs ys) c.deref.ensures.value same in
    let whole : c.extend_from_slice.new.self.items ≡ ys = all ∙ ap (λ l. l ++ ys) c.in_ok-pages.ensures.items in (
      ap (λ l. length (flat_map in_page l)) whole ∙ ap length (zipped_flat in_page _ _ zipped) ∙ c.self.invariant.0,
      subst ArePages (sym whole) (zipped_pieces 16 in_page _ _ zipped c.self.invariant.1),
    )

pub returns : goal.returns
returns c =
    let (ys, all, same) = c.in_ok-extend_from_slice.ensures.items in
    record {
      cases = rw (← c.self.view_is) (ap (flat_map in_page) (all ∙ ap (λ l. l ++ ys) c.in_ok-pages.ensures.items)
          ∙ zipped_flat in_page _ _ (subst (λ (xs : List (Arc BatchPage Global)).
          AllZip (λ x y. in_page y ≡ in_page x) xs ys) c.deref.ensures.value same));
    }
