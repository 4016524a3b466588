use Rattle.std.proofs.Common.{rules}
use Rattle.graph_version.proofs.drafts.VersionDraft.replace_row.Goals as goal

pub returns : goal.returns
returns c = search rules
