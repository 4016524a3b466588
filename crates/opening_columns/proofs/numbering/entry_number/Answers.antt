use Rattle.std.proofs.Common.{◌<◌, length, sym, arith}
use Rattle.opening_columns.proofs.SeenNames.{seen_enters, seen_below, entry_within, added_enters, added_below, added_seen}
use Rattle.opening_columns.proofs.numbering.entry_number.Goals as goal

pub returns-in-Some-clause-number : goal.returns-in-Some-clause-number
returns-in-Some-clause-number c =
    seen_enters c.args.is_kind c.args.text.now c.args.ends.now c.args.entry c.args.book.now c.in-Some.number
    (c.requires.seen c.args.entry c.in-Some.number c.in-Some.ensures)

pub returns-in-Some-clause-below : goal.returns-in-Some-clause-below
returns-in-Some-clause-below c =
    seen_below c.args.is_kind c.args.text.now c.args.ends.now c.args.entry c.args.book.now.names c.in-Some.number
    (c.requires.seen c.args.entry c.in-Some.number c.in-Some.ensures)

pub bounds-seen-entry : goal.bounds-seen-entry
bounds-seen-entry c =
    let within = entry_within c.args.is_kind c.args.text.now c.args.ends.now c.args.entry c.in-Some-entry_name.name.now
    (sym c.in-Some-entry_name.ensures) in
    let long = c.requires.long in
    omega arith

pub returns-in-Ok-clause-number : goal.returns-in-Ok-clause-number
returns-in-Ok-clause-number c =
    added_enters c.args.is_kind c.args.text.now c.args.ends.now c.args.entry c.args.book.now c.add.new.self
    c.in-Some-entry_name.name.now c.in-Ok.number (sym c.in-Some-entry_name.ensures) c.in-Ok.ensures.number c.in-Ok.ensures.added

pub returns-in-Ok-clause-below : goal.returns-in-Ok-clause-below
returns-in-Ok-clause-below c =
    added_below c.args.book.now c.add.new.self c.in-Some-entry_name.name.now c.in-Ok.number c.in-Ok.ensures.number c.in-Ok.ensures.added

pub returns-in-Ok-clause-seen : goal.returns-in-Ok-clause-seen
returns-in-Ok-clause-seen c =
    let within : c.args.entry < length c.args.seen.now =
    (let inside = entry_within c.args.is_kind c.args.text.now c.args.ends.now c.args.entry c.in-Some-entry_name.name.now
    (sym c.in-Some-entry_name.ensures) in
    let long = c.requires.long in omega arith) in
    added_seen c.args.is_kind c.args.text.now c.args.ends.now c.args.entry c.args.book.now c.add.new.self
    c.in-Some-entry_name.name.now c.in-Ok.number c.args.seen.now c.requires.seen (sym c.in-Some-entry_name.ensures)
    c.in-Ok.ensures.number c.in-Ok.ensures.added within
