use Rattle.batch_columns.specs.Operations.{table_of}
use Rattle.opening_columns.proofs.Opened.{made_in, refused_in, rows_refused}
use Rattle.opening_columns.proofs.making.made_of.Goals as goal

pub opened-requires-clause-left : goal.opened-requires-clause-left
opened-requires-clause-left c = (table_of c.args.columns.now, c.in-Ok.ensures.left)

pub returns-in-Ok-clause-made : goal.returns-in-Ok-clause-made
returns-in-Ok-clause-made c =
    made_in c.args.limits c.args.blocks (table_of c.args.columns.now) c.in-Ok.left.names c.in-Ok.left.kinds c.in-Ok.left.edges.items
    c.opened.result c.in-Ok.ensures.left c.opened.ensures.made

pub returns-in-Ok-clause-refused : goal.returns-in-Ok-clause-refused
returns-in-Ok-clause-refused c =
    refused_in c.args.limits c.args.blocks (table_of c.args.columns.now) c.in-Ok.left.names c.in-Ok.left.kinds c.in-Ok.left.edges.items
    c.opened.result c.in-Ok.ensures.left c.opened.ensures.refused

pub returns-in-Err-clause-refused : goal.returns-in-Err-clause-refused
returns-in-Err-clause-refused c =
    rows_refused c.args.limits c.args.blocks (table_of c.args.columns.now) c.in-Err.place c.in-Err.error c.in-Err.ensures.refused
