use Rattle.std.proofs.Common.{◌<◌, length}
use Rattle.vertex_names.proofs.Entries.{rising-take, lookup-take}
use Rattle.vertex_names.proofs.piece.Piece.before.Goals as goal

pub invariant_of-result : goal.invariant_of-result
invariant_of-result c =
    rw (c.in_ok-entries.ensures, c.deref.ensures.value)
    (rising-take c.self.inside.entries.items c.args.place c.self.invariant)

pub returns : goal.returns
returns c =
    let lt : c.args.place < length c.self.inside.entries.items = rw c.self.view_is c.requires in
    rw (c.in_ok-entries.ensures, c.deref.ensures.value, ← c.self.view_is)
    (λ q less. lookup-take c.self.inside.entries.items c.args.place q c.self.invariant lt less)
