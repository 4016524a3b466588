use Rattle.std.proofs.{Common.{◌<◌, length}, lemmas.List.take_rest}
use Rattle.vertex_names.proofs.Entries.{rising-drop, lookup-drop}
use Rattle.vertex_names.proofs.piece.Piece.from.Goals as goal

pub invariant_of-result : goal.invariant_of-result
invariant_of-result c =
    rw (c.in_ok-entries.ensures, c.deref.ensures.value, take_rest c.self.inside.entries.items c.args.place)
    (rising-drop c.self.inside.entries.items c.args.place c.self.invariant)

pub returns : goal.returns
returns c =
    let lt : c.args.place < length c.self.inside.entries.items = rw c.self.view_is c.requires in
    rw (
      c.in_ok-entries.ensures,
      c.deref.ensures.value,
      take_rest c.self.inside.entries.items c.args.place,
      ← c.self.view_is,
    )
    (λ q le. lookup-drop c.self.inside.entries.items c.args.place q c.self.invariant lt le)
