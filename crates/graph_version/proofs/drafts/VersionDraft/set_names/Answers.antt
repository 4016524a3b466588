use Rattle.std.proofs.Common.{rules}
use Rattle.graph_version.proofs.drafts.VersionDraft.set_names.Goals as goal

pub returns : goal.returns
returns c = search rules
