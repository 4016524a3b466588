use Rattle.stream_store.proofs.seats.Session.release.Goals as goal

-- Its search is long where it fails.
pub returns : goal.returns
returns g c = c.release.ensures
