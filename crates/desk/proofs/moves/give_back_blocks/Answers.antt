use Rattle.std.proofs.Common.{◌≡◌, ap, set, ◌∙◌, rules}
use Rattle.block_reclamation.specs.declared.status.BlockStatus.TheVariants.{Free}
use Rattle.batch_shards.specs.RowBlocks.{block_of, shared_numbers}
use Rattle.batch_shards.proofs.SharedNumbers.{last_number}
use Rattle.desk.proofs.Moving.{rest_moving, last_used}
use Rattle.desk.proofs.moves.give_back_blocks.Goals as goal

pub loop-block-preserved : goal.loop-block-preserved
loop-block-preserved c =
    let number : c.number.result ≡ (block_of c.in-Some.block).number = search rules in
    rest_moving _ (shared_numbers c.pop.new.self.items) (block_of c.in-Some.block).number Free c.loop-block.pool _ _
    (last_number _ c.pop.new.self.items c.in-Some.block c.in-Some.ensures.items)
    (c.give_back.ensures ∙ ap (λ n. set c.loop-block.pool n Free) number) c.loop-block.invariant

pub give_back-requires-clause-in_use : goal.give_back-requires-clause-in_use
give_back-requires-clause-in_use c =
    let number : c.number.result ≡ (block_of c.in-Some.block).number = search rules in
    rw number (last_used _ (shared_numbers c.pop.new.self.items) (block_of c.in-Some.block).number Free c.loop-block.pool _
    (last_number _ c.pop.new.self.items c.in-Some.block c.in-Some.ensures.items) c.loop-block.invariant)
