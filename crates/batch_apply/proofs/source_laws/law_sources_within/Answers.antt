use Rattle.batch_apply.proofs.Sources.{sources_within}
use Rattle.batch_apply.proofs.source_laws.law_sources_within.Goals as goal

pub returns : goal.returns
returns c = sources_within
