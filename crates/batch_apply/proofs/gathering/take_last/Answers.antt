use Rattle.batch_apply.proofs.gathering.take_last.Goals as goal
use Rattle.batch_shards.proofs.SharedNumbers.{cut_numbers}

pub returns-clause-numbers : goal.returns-clause-numbers
returns-clause-numbers c = cut_numbers _ c.args.blocks.now.items c.split_off.new.self.items c.in_ok-taken.taken.items
    c.in_ok-taken.ensures.items c.in_ok-taken.ensures.tail
