use Rattle.graph_types.proofs.SomeTable.{some_table}
use Rattle.graph_types.proofs.tables.law_some_table.Goals as goal

pub returns : goal.returns
returns c = some_table
