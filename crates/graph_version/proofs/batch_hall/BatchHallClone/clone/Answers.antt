use Rattle.std.proofs.Common.{◌≡◌, ◌∙◌, ◌++◌, List, ap, sym, subst, length, flat_map}
use Rattle.std.specs.{List.AllZip, declared.sync.Arc.Arc, declared.alloc.Global.Global}
use Rattle.graph_version.specs.{BatchGroups.in_group, BatchGroups.AreGroups, declared.batch_group.BatchGroup.BatchGroup}
use Rattle.list_pieces.proofs.{Pieces.zipped_pieces, Shown.zipped_flat}
use Rattle.graph_version.proofs.batch_hall.BatchHallClone.clone.Goals as goal

pub invariant_of-result : goal.invariant_of-result
invariant_of-result c =
    let (ys, all, same) = c.in_ok-extend_from_slice.ensures.items in
    let zipped : AllZip (λ x y. in_group y ≡ in_group x) c.self.inside.groups.items ys =
    subst (λ (xs : List (Arc BatchGroup Global)). AllZip (λ x y. in_group y ≡ in_group x) xs ys) c.deref.ensures.value same in
    let whole : c.extend_from_slice.new.self.items ≡ ys = all ∙ ap (λ l. l ++ ys) c.in_ok-groups.ensures.items in (
      ap (λ l. length (flat_map in_group l)) whole ∙ ap length (zipped_flat in_group _ _ zipped) ∙ c.self.invariant.0,
      subst AreGroups (sym whole) (zipped_pieces 256 in_group _ _ zipped c.self.invariant.1),
    )

pub returns : goal.returns
returns c =
    let (ys, all, same) = c.in_ok-extend_from_slice.ensures.items in
    record {
      cases = rw (← c.self.view_is) (ap (flat_map in_group) (all ∙ ap (λ l. l ++ ys) c.in_ok-groups.ensures.items)
          ∙ zipped_flat in_group _ _ (subst (λ (xs : List (Arc BatchGroup Global)).
          AllZip (λ x y. in_group y ≡ in_group x) xs ys) c.deref.ensures.value same));
    }
