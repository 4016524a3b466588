use Rattle.std.proofs.Common.{arith, refl, replicate, []}
use Rattle.edge_block.{specs.Slots.BlockView, proofs.{Places.slots_of-none, KeptColumns.{columns_none, same_block}}}
use Rattle.edge_block.proofs.blocks.Block.clear_for.Goals as goal

pub invariant_of-self : goal.invariant_of-self
invariant_of-self c =
    (columns_none c.self.inside.weights c.self.inside.firsts c.self.inside.recents, (λ some. absurd (omega arith)))

pub returns : goal.returns
returns c =
    let before : BlockView =
    record { number = c.self.inside.number; source = c.args.source.0; kind = c.args.kind.0; slots = [] } in
    let after : BlockView =
    record { number = c.args.self.now.number; source = c.args.source.0; kind = c.args.kind.0; slots = [] } in
    same_block before after _ _ (rw (← c.self.view_is) refl)
    (slots_of-none (replicate 32 0) c.self.inside.weights c.self.inside.firsts c.self.inside.recents)
