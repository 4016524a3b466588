use Rattle.block_reclamation.proofs.Reclaimed.{one_of_four, partition}
use Rattle.block_reclamation.proofs.laws.law_partition.Goals as goal

pub returns-clause-one : goal.returns-clause-one
returns-clause-one c = one_of_four

pub returns-clause-all : goal.returns-clause-all
returns-clause-all c = partition
