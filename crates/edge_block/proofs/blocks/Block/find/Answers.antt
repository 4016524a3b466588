use Rattle.std.{proofs.Common.arith, specs.declared.option.Option.TheVariants.{Some, None}}
use Rattle.lane_scan.specs.Masks.{IsFirstPlaceOf}
use Rattle.edge_block.specs.{Slots.edge_slot, Slots.stamp_in_slot, Columns.slots_of}
use Rattle.edge_block.proofs.{Firsts.first_some-by_any, KeptColumns.block_of_columns, Ranges.stamp_in_range}
use Rattle.edge_block.proofs.Places.{length-slots_of, none_holds, found_at, not_free_at}
use Rattle.edge_block.proofs.blocks.Block.find.Goals as goal

pub returns-in_err-place-clause-edge : goal.returns-in_err-place-clause-edge
returns-in_err-place-clause-edge c =
    let absent : IsFirstPlaceOf c.self.inside.targets c.self.inside.live c.args.target None = c.in_err-place.ensures in
    rw (c.from_residual.ensures, ← c.self.view_is)
    (first_some-by_any (λ s. stamp_in_slot s c.args.target)
    (slots_of c.self.inside.live c.self.inside.targets c.self.inside.weights c.self.inside.firsts c.self.inside.recents)
    (none_holds c.self.inside.live c.self.inside.targets c.self.inside.weights c.self.inside.firsts c.self.inside.recents
    c.args.target c.self.told.0 absent))

pub returns-in_err-place-clause-block : goal.returns-in_err-place-clause-block
returns-in_err-place-clause-block c =
    rw (← c.self.view_is) (block_of_columns _ _ _ _ _ _ _ _ c.self.invariant.0)

pub edge_at-requires-clause-has_edge : goal.edge_at-requires-clause-has_edge
edge_at-requires-clause-has_edge c =
    let found : IsFirstPlaceOf c.self.inside.targets c.self.inside.live c.args.target (Some c.in_ok-place.place) =
    c.in_ok-place.ensures in
    rw (← c.self.view_is)
    (not_free_at c.self.inside.live c.self.inside.targets c.self.inside.weights c.self.inside.firsts c.self.inside.recents
    c.in_ok-place.place (omega (arith, found.0.within, c.self.told.0)) found.0.lives)

pub returns-clause-edge : goal.returns-clause-edge
returns-clause-edge c =
    let found : IsFirstPlaceOf c.self.inside.targets c.self.inside.live c.args.target (Some c.in_ok-place.place) =
    c.in_ok-place.ensures in
    let edge =
    edge_slot c.edge_at.result.target.now c.edge_at.result.weight.now c.edge_at.result.first.now c.edge_at.result.recent.now in
    let at =
    found_at c.self.inside.live c.self.inside.targets c.self.inside.weights c.self.inside.firsts c.self.inside.recents
    c.args.target c.in_ok-place.place edge c.self.told.0 found.0 found.1 (rw (← c.self.view_is) at c.edge_at.ensures.edge) in
    record { of_kind = c.edge_at.ensures.kind; to_target = at.0; stands = rw (← c.self.view_is) at.1 }

pub returns-clause-in_range : goal.returns-clause-in_range
returns-clause-in_range c =
    let found : IsFirstPlaceOf c.self.inside.targets c.self.inside.live c.args.target (Some c.in_ok-place.place) =
    c.in_ok-place.ensures in
    let edge =
    edge_slot c.edge_at.result.target.now c.edge_at.result.weight.now c.edge_at.result.first.now c.edge_at.result.recent.now in
    stamp_in_range
    (slots_of c.self.inside.live c.self.inside.targets c.self.inside.weights c.self.inside.firsts c.self.inside.recents)
    c.in_ok-place.place edge c.self.invariant.0.stamped
    (omega (
      arith,
      found.0.within,
      c.self.told.0,
      length-slots_of c.self.inside.live c.self.inside.targets c.self.inside.weights
          c.self.inside.firsts c.self.inside.recents,
    ))
    (rw (← c.self.view_is) at c.edge_at.ensures.edge)

pub returns-clause-block : goal.returns-clause-block
returns-clause-block c =
    rw (← c.self.view_is) (block_of_columns _ _ _ _ _ _ _ _ c.self.invariant.0)
