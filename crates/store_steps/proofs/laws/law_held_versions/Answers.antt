use Rattle.store_steps.proofs.{Held.held_is_snapshot, ExactCollection.collection_is_exact}
use Rattle.store_steps.proofs.laws.law_held_versions.Goals as goal

pub returns : goal.returns
returns c = record { snapshots = held_is_snapshot; collections = collection_is_exact }
