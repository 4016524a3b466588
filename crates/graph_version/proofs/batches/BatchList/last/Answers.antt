use Rattle.std.proofs.Common.{arith}
use Rattle.graph_types.proofs.{Cases.copied_match, ListPlaces.last_of}
use Rattle.graph_version.proofs.batches.BatchList.last.Goals as goal

pub returns : goal.returns
returns c =
    let long = c.self.invariant.0 in
    let some = c.in_ok-place.ensures.0 in
    let place = c.in_ok-place.ensures.1 in
    copied_match _ _ c.get.result (last_of c.args.self.now c.in_ok-place.place _ c.get.ensures.batch
    (rw (← c.self.view_is) (omega (arith, long, some, place))))
