use Rattle.version_columns.proofs.lookups.number_in.Goals as goal
use Rattle.graph_types.proofs.NameTexts.{no_text_not_listed}

pub returns-in-Err : goal.returns-in-Err
returns-in-Err c = no_text_not_listed c.args.book.now.names c.args.name.now c.len-length.ensures.book.named c.in-Err.ensures.cases.0
