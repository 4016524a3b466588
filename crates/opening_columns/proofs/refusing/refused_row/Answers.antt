use Rattle.batch_columns.specs.Operations.{table_of}
use Rattle.opening_columns.proofs.RowRefusals.{told_first}
use Rattle.opening_columns.proofs.refusing.refused_row.Goals as goal

pub returns-in_default : goal.returns-in_default
returns-in_default c = λ limits at.
    told_first limits (table_of c.args.columns.now) c.args.place c.args.why c.told.result c.in_default.not-OutOfMemory c.told.ensures at
