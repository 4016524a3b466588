use Rattle.std.proofs.Common.{◌∙◌, sym, ap}
use Rattle.edge_block.{specs.Slots.old_in, proofs.Expiring.{old_stands, none_left, none_at_zero}}
use Rattle.edge_block.proofs.blocks.Block.first_before.Goals as goal

pub returns-then-time-eq0-clause-edge : goal.returns-then-time-eq0-clause-edge
returns-then-time-eq0-clause-edge c = ap (λ t. old_in t c.args.self.now.slots) c.if-time-eq0.true ∙ none_at_zero c.args.self.now.slots

pub returns-in-Some-clause-edge : goal.returns-in-Some-clause-edge
returns-in-Some-clause-edge c =
    let parts = old_stands c.args.time c.args.self.now _ _ c.if-time-eq0.false c.select-edges.ensures.block.distinct
    (sym c.select-edges.ensures.lends ∙ c.in-Some.ensures.steps) in
    (_, parts.0, parts.1)

pub returns-in-None-clause-edge : goal.returns-in-None-clause-edge
returns-in-None-clause-edge c = none_left c.args.time c.args.self.now c.if-time-eq0.false
    (sym c.select-edges.ensures.lends ∙ c.in-None.ensures.steps.0)

pub returns-in-Some-clause-places : goal.returns-in-Some-clause-places
returns-in-Some-clause-places c = c.select-edges.ensures.block.places
