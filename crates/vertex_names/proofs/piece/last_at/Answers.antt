use Rattle.std.proofs.Common.{sym}
use Rattle.vertex_names.{specs.Order.firsts, proofs.{Places.bounds-all, Entries.firsts_long}}
use Rattle.vertex_names.proofs.piece.last_at.Goals as goal

pub narrowed-low-requires-clause-bounds : goal.narrowed-low-requires-clause-bounds
narrowed-low-requires-clause-bounds g c =
    bounds-all (firsts c.args.pairs.now) c.args.hash _ (sym (firsts_long c.args.pairs.now))
