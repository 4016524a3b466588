use Rattle.std.proofs.{Common.{◌≤◌, ◌*◌, ◌^◌, length, arith, sym}, lemmas.List.length-take-le}
use Rattle.graph_version.specs.RowHalls.{in_hall, in_halls}
use Rattle.list_pieces.proofs.Full.{long}
use Rattle.graph_version.proofs.rows.Rows.len.Goals as goal

pub returns-clause-count : goal.returns-clause-count
returns-clause-count c =
    let halls = c.self.inside.halls.items in
    let whole = long 65536 in_hall halls c.self.invariant.0 in
    let within : c.self.inside.len ≤ length halls * 65536 = c.self.invariant.2 in
    rw (← c.self.view_is) (sym (length-take-le c.self.inside.len (in_halls halls) (omega (arith, whole, within))))

pub returns-clause-few : goal.returns-clause-few
returns-clause-few c =
    let halls = c.self.inside.halls.items in
    let whole = long 65536 in_hall halls c.self.invariant.0 in
    let within : c.self.inside.len ≤ length halls * 65536 = c.self.invariant.2 in
    let few : length halls ≤ 2 ^ 16 = c.self.invariant.1 in
    let cut = length-take-le c.self.inside.len (in_halls halls) (omega (arith, whole, within)) in
    rw (← c.self.view_is) (omega (arith, cut, within, few))
