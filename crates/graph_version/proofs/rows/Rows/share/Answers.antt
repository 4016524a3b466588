use Rattle.std.proofs.{Common.{◌≡◌, ◌≤◌, ◌^◌, ◌*◌, length, arith, sym, subst, ap, take}, lemmas.Slice.Zip.AllZip-long}
use Rattle.graph_version.specs.{Rows.IsBlankFrom, RowHalls.in_hall}
use Rattle.list_pieces.proofs.{Full.zipped_full, Shown.zipped_flat}
use Rattle.graph_version.proofs.rows.Rows.share.Goals as goal

pub invariant_of-result : goal.invariant_of-result
invariant_of-result c =
    let same = c.in_ok-clone.ensures.cases.0 in
    let long = AllZip-long (λ x y. in_hall y ≡ in_hall x) _ _ same in
    let few : length c.self.inside.halls.items ≤ 2 ^ 16 = c.self.invariant.1 in
    let within : c.self.inside.len ≤ length c.self.inside.halls.items * 65536 = c.self.invariant.2 in (
      zipped_full 65536 in_hall _ _ same c.self.invariant.0,
      omega (arith, long, few),
      omega (arith, long, within),
      subst (IsBlankFrom c.self.inside.len) (sym (zipped_flat in_hall _ _ same)) c.self.invariant.3,
    )

pub returns : goal.returns
returns c = rw (← c.self.view_is) (ap (take c.self.inside.len) (zipped_flat in_hall _ _ c.in_ok-clone.ensures.cases.0))
