use Rattle.std.proofs.Common.{rules}
use Rattle.graph_version.proofs.drafts.VersionDraft.push_batch.Goals as goal

pub returns : goal.returns
returns c = search rules
