use Rattle.std.proofs.Common.{arith, refl, replicate, pos, []}
use Rattle.edge_block.{specs.Slots.BlockView, proofs.{Places.slots_of-none, KeptColumns.{columns_none, same_block}}}
use Rattle.edge_block.proofs.blocks.Block.blank.Goals as goal

pub invariant_of-result : goal.invariant_of-result
invariant_of-result c = (columns_none (replicate 32 (pos 0)) (replicate 32 0) (replicate 32 0), (λ some. absurd (omega arith)))

pub returns : goal.returns
returns c =
    let block : BlockView = record { number = c.args.number; source = 0; kind = 0; slots = [] } in
    same_block block block _ _ refl (slots_of-none (replicate 32 0) (replicate 32 (pos 0)) (replicate 32 0) (replicate 32 0))
