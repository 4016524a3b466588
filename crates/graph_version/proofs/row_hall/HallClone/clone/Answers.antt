use Rattle.std.proofs.{Common.{◌≡◌, ◌≤◌, ◌∙◌, [], length, ap, arith}, lemmas.Slice.Zip.AllZip-long}
use Rattle.graph_version.specs.RowGroups.{in_group}
use Rattle.list_pieces.{specs.Pieces.padded, proofs.{Full.zipped_full, Shown.zipped_flat}}
use Rattle.graph_version.proofs.row_hall.HallClone.clone.Goals as goal

pub invariant_of-result : goal.invariant_of-result
invariant_of-result c =
    let same = c.in_ok-clone.ensures.cases.0 in
    let long = AllZip-long (λ x y. in_group y ≡ in_group x) _ _ same in
    let few : length c.self.inside.groups.items ≤ 64 = c.self.invariant.1 in
    (zipped_full 1024 in_group _ _ same c.self.invariant.0, omega (arith, long, few))

pub returns : goal.returns
returns c = record { cases = ap (padded 65536 []) (zipped_flat in_group _ _ c.in_ok-clone.ensures.cases.0) ∙ c.self.view_is }
