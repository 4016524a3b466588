use Rattle.graph_version.proofs.versions.Version.edge_count.Goals as goal

pub returns-clause-edges : goal.returns-clause-edges
returns-clause-edges c = rw (← c.self.view_is) c.self.invariant.edges_are

pub returns-clause-version : goal.returns-clause-version
returns-clause-version c = rw (← c.self.view_is) c.self.invariant.version
