use Rattle.std.{proofs.Common.{arith, ◌≡◌, ◌∙◌, ap, map, length, replicate}, specs.{Prelude.{None, Some}, Vec.Iter.into_iter_len}}
use Rattle.std.proofs.lemmas.Grind.{common_steps}
use Rattle.block_reclamation.specs.Board.{BoardState}
use Rattle.script_commands.proofs.SlotLaws.{all_given, none_held, slots_first}
use Rattle.script_commands.proofs.slots.Slots.new.Goals as goal

pub returns : goal.returns
returns c =
    let ok = c.args.seats.ok.0 in
    let count : into_iter_len c.into_iter-seat-iterator.result ≡ length c.args.seats.items =
    omega (arith, c.into_iter-seat-iterator.ensures.into_iter_gives.1) in
    let all : c.loop-seat.yielded ≡ c.args.seats.items =
    all_given c.args.seats.items c.into_iter-seat-iterator.result c.loop-seat.yielded c.loop-seat.seat-iterator c.next.result
    c.next.new.self c.into_iter-seat-iterator.ensures.into_iter_gives.0 count c.loop-seat.yielded_by c.in-None.is
    c.next.ensures.steps in
    let none = c.loop-seat.invariant.1 ∙ ap (λ seats. replicate (length seats) None) all in
    record {
      slots = λ last. slots_first last c.args.board c.args.seats.items c.loop-seat.free.items c.loop-seat.sessions.items
          c.requires.board c.requires.few c.requires.numbers (c.loop-seat.invariant.0 ∙ ap (map (λ s. Some s)) all) none;
      few = grind (arith, common_steps);
      none = none_held c.loop-seat.sessions.items (length c.args.seats.items) none;
      floor = ap (λ (b : BoardState). b.floor) c.requires.board;
    }
