use Rattle.stream_store.proofs.store.Store.apply.Goals as goal

-- Its search is long where it fails.
pub returns-clause-receipt : goal.returns-clause-receipt
returns-clause-receipt g c = c.apply.ensures.receipt
