use Rattle.std.proofs.Common.{◌∙◌, sym, subst}
use Rattle.batch_columns.specs.Operations.{table_of}
use Rattle.opening_columns.specs.{Numbers.{RefusesNumbers}}
use Rattle.opening_columns.proofs.RowTaken.{takes_by, unsound, source_refused, target_refused, kind_refused}
use Rattle.opening_columns.proofs.numbering.put_at.Goals as goal

pub returns-then-not-is_sound-clause-refused : goal.returns-then-not-is_sound-clause-refused
returns-then-not-is_sound-clause-refused c =
    unsound (table_of c.args.columns.now) c.args.place (sym c.is_sound.ensures ∙ c.if-not-is_sound.true)

pub returns-in-Err-clause-refused : goal.returns-in-Err-clause-refused
returns-in-Err-clause-refused c =
    subst (RefusesNumbers (table_of c.args.columns.now) c.args.place c.args.names.now c.args.kinds.now) (sym c.vertex_refused.ensures)
    (source_refused (table_of c.args.columns.now) c.args.place c.args.names.now c.args.kinds.now c.in-Err.error c.in-Err.ensures.refused)

pub returns-in-Err-entry_number-clause-refused : goal.returns-in-Err-entry_number-clause-refused
returns-in-Err-entry_number-clause-refused c =
    subst (RefusesNumbers (table_of c.args.columns.now) c.args.place c.args.names.now c.args.kinds.now)
    (sym c.vertex_refused-in-Err-entry_number.ensures)
    (target_refused (table_of c.args.columns.now) c.args.place c.args.names.now c.entry_number.new.book c.args.kinds.now c.in-Ok.source
    c.in-Err-entry_number.error c.in-Ok.ensures.number c.in-Err-entry_number.ensures.refused)

pub returns-in-Err-entry_number-2-clause-refused : goal.returns-in-Err-entry_number-2-clause-refused
returns-in-Err-entry_number-2-clause-refused c =
    subst (RefusesNumbers (table_of c.args.columns.now) c.args.place c.args.names.now c.args.kinds.now) (sym c.kind_refused.ensures)
    (kind_refused (table_of c.args.columns.now) c.args.place c.args.names.now c.entry_number.new.book c.entry_number-2.new.book
    c.args.kinds.now c.in-Ok.source c.in-Ok-entry_number.target c.in-Err-entry_number-2.error c.in-Ok.ensures.number
    c.in-Ok-entry_number.ensures.number c.in-Ok-entry_number.ensures.within c.in-Err-entry_number-2.ensures.refused)

pub returns-clause-put : goal.returns-clause-put
returns-clause-put c =
    takes_by (table_of c.args.columns.now) c.args.place c.args.names.now c.entry_number.new.book c.entry_number-2.new.book c.args.kinds.now
    c.entry_number-3.new.book c.in-Ok.source c.in-Ok-entry_number.target c.in-Ok-entry_number-2.kind c.requires.within
    (sym c.is_sound.ensures ∙ c.if-not-is_sound.false) c.in-Ok.ensures.number c.in-Ok-entry_number.ensures.number
    c.in-Ok-entry_number-2.ensures.number c.in-Ok-entry_number.ensures.within c.in-Ok-entry_number-2.ensures.within
    c.requires.walls.0 c.requires.walls.1
