use Rattle.store_steps.proofs.{CollectedDesk.collected_is_desk, Collecting.collection_simulates, StatusCounts.collected_counts}
use Rattle.store_steps.proofs.laws.law_collected.Goals as goal

pub returns : goal.returns
returns c = record { desk = collected_is_desk; steps = collection_simulates; counts = collected_counts }
