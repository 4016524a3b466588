use Rattle.std.proofs.Common.{◌∙◌, ◌≤◌, ◌*◌, List, length, arith}
use Rattle.std.specs.declared.{sync.Arc.Arc, alloc.Global.Global}
use Rattle.graph_version.specs.declared.row_hall.Hall.{Hall}
use Rattle.graph_version.proofs.ShownHalls.{same_len, shown_same}
use Rattle.graph_version.proofs.rows.Rows.caught_up.Goals as goal

pub returns : goal.returns
returns c =
    let before : List (Arc Hall Global) = c.from.inside.halls.items in
    let halls : List (Arc Hall Global) = c.add_halls.new.halls.items in
    let within : c.from.inside.len ≤ length before * 65536 = c.from.invariant.2 in
    let enough : c.len.result ≤ length halls = c.in_ok-add_halls.ensures.enough in
    let many = c.len.ensures in
    shown_same c.from.inside.len halls c.args.from.now
    (λ s. c.in_ok-add_halls.ensures.same s ∙ c.in_ok-take_over.ensures.same s)
    (same_len c.from.inside.len before c.args.from.now c.from.view_is c.from.invariant.0 within)
    c.in_ok-add_halls.ensures.halls (omega (arith, within, enough, many))
