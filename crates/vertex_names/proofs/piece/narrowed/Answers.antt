use Rattle.std.proofs.Common.{arith}
use Rattle.vertex_names.proofs.Entries.{bounds-up, bounds-down}
use Rattle.vertex_names.proofs.piece.narrowed.Goals as goal

pub returns-then-pairs-place-clause-bounds : goal.returns-then-pairs-place-clause-bounds
returns-then-pairs-place-clause-bounds g c =
    bounds-up c.args.pairs.now c.args.hash c.args.low c.args.high c.args.place c.index-pairs-place.result c.requires.bounds
    c.requires.within (omega (arith, c.if-high-place.false)) c.requires.rising c.if-pairs-place.true

pub returns-else-pairs-place-clause-bounds : goal.returns-else-pairs-place-clause-bounds
returns-else-pairs-place-clause-bounds g c =
    bounds-down c.args.pairs.now c.args.hash c.args.low c.args.high c.args.place c.index-pairs-place.result c.requires.bounds
    c.requires.within (omega (arith, c.if-high-place.false)) (omega (arith, c.if-place-low.false)) c.if-pairs-place.false
