use Rattle.std.proofs.Common.{arith}
use Rattle.batch_shards.proofs.NotedBlocks.{now_stands, more_stand}
use Rattle.batch_shards.proofs.notes.Notes.note.Goals as goal

pub returns-in_ok-add_place-clause-noted : goal.returns-in_ok-add_place-clause-noted
returns-in_ok-add_place-clause-noted c =
    let more = c.in_ok-add_place.ensures in
    now_stands c.args.self.now c.list_of-list.result c.args.place more.before more.after c.add_place.new.places
    more.before_is (omega (arith, c.if-list-len.true, c.len.ensures)) more.after_is more.lists_are
    c.args.target c.list_of-list.ensures

pub returns-in_ok-add_place-clause-more : goal.returns-in_ok-add_place-clause-more
returns-in_ok-add_place-clause-more c =
    let more = c.in_ok-add_place.ensures in
    more_stand c.args.self.now c.list_of-list.result c.args.place more.before more.after c.add_place.new.places
    more.before_is (omega (arith, c.if-list-len.true, c.len.ensures)) more.after_is more.lists_are
