use Rattle.std.proofs.Common.{◌≡◌, length, arith}
use Rattle.graph_version.specs.RowPages.{in_page}
use Rattle.list_pieces.proofs.Full.{long}
use Rattle.graph_version.proofs.row_group.Group.put.Goals as goal

pub returns-clause-length : goal.returns-clause-length
returns-clause-length c =
    let whole = long 64 in_page c.put_in_page.new.pages c.put_in_page.ensures.pages in
    let same = c.put_in_page.auto.pages in
    let before : length c.self.inside.pages ≡ 16 = c.self.invariant.1 in
    omega (arith, whole, same, before)
