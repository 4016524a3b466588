use Rattle.std.proofs.Common.{rules, ◌≡◌, ◌+◌, ◌<◌, ◌≤◌, ◌++◌, ◌∷◌, [], length, vec_len}
use Rattle.version_shelf.proofs.Openings.{first_off}
use Rattle.stream_store.proofs.Seated.{numbers_more, seen_more}
use Rattle.stream_store.proofs.opening.seats_of.Goals as goal

pub loop-readers-preserved : goal.loop-readers-preserved
loop-readers-preserved c =
    let few : vec_len c.push.new.self + length c.remove-reader.new.self.items ≤ 16 = search rules in
    let items : c.push.new.self.items ≡ c.loop-readers.seats.items ++ c.of.result ∷ [] = search rules in
    let next : c.of.result.number ≡ length c.loop-readers.seats.items = search rules in
    let seen : c.of.result.seen ≡ c.remove-reader.result = search rules in
    let some : 0 < length c.loop-readers.readers.items = search rules in
    let cut : c.loop-readers.readers.items ≡ c.remove-reader.result ∷ c.remove-reader.new.self.items =
    first_off c.loop-readers.readers.items c.remove-reader.new.self.items c.remove-reader.result some
    c.remove-reader.ensures.value c.remove-reader.ensures.by_index.2 in (
      seen_more c.loop-readers.seats.items c.push.new.self.items c.of.result c.remove-reader.result _ _ _ items seen cut
          c.loop-readers.invariant.0,
      few,
      numbers_more c.loop-readers.seats.items c.push.new.self.items c.of.result items next
          c.loop-readers.invariant.2,
    )
