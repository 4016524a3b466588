use Rattle.graph_version.proofs.versions.Version.kinds.Goals as goal

pub returns : goal.returns
returns c = rw (← c.self.view_is) c.self.invariant.kinds_are
