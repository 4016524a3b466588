use Rattle.std.proofs.Common.{ap, ◌∙◌, sym}
use Rattle.edge_block.specs.Slots.{edges_in, old_in}
use Rattle.edge_block.proofs.OldSlots.{none_without, none_from}
use Rattle.batch_shards.proofs.row_blocks.RowBlock.least_time.Goals as goal

pub returns-in-None : goal.returns-in-None
returns-in-None c =
    ap (λ b. old_in 18446744073709551615 b.slots) (sym c.deref.ensures)
    ∙ none_without 18446744073709551615 (edges_in c.deref.result.now.slots) c.in-None.ensures

pub returns-in-Some : goal.returns-in-Some
returns-in-Some c =
    ap (λ b. old_in c.in-Some.least b.slots) (sym c.deref.ensures)
    ∙ none_from c.in-Some.least (edges_in c.deref.result.now.slots) c.in-Some.ensures.0.bound
