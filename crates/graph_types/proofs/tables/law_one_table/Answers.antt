use Rattle.graph_types.proofs.OneTable.{one_table}
use Rattle.graph_types.proofs.tables.law_one_table.Goals as goal

pub returns : goal.returns
returns c = one_table
