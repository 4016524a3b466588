use Rattle.std.proofs.Common.{◌∙◌, sym, subst}
use Rattle.batch_columns.specs.Operations.{table_of}
use Rattle.opening_columns.specs.Numbers.{ReportsRow}
use Rattle.opening_columns.proofs.RowRefusals.{tells_full}
use Rattle.opening_columns.proofs.refusing.told.Goals as goal

pub returns : goal.returns
returns c = λ names kinds refuses.
    subst (ReportsRow (table_of c.args.columns.now) c.args.place names kinds) (sym c.full_error.ensures)
    (tells_full (table_of c.args.columns.now) c.args.place names kinds c.args.why (sym c.row_error.ensures ∙ c.in_default.is)
    c.requires.known refuses)
