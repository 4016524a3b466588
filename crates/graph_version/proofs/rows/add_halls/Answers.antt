use Rattle.std.proofs.Common.{◌≡◌, ◌∙◌, [], ◌∷◌, replicate, length, length-append, ap, arith}
use Rattle.graph_version.specs.RowHalls.{in_hall}
use Rattle.list_pieces.proofs.Full.{blank_pushed, push_piece}
use Rattle.graph_version.proofs.rows.add_halls.Goals as goal

pub loop-alloc-preserved : goal.loop-alloc-preserved
loop-alloc-preserved c =
    let blank : in_hall c.in_ok-hall.hall ≡ replicate 65536 [] = c.in_ok-hall.ensures.ok ∙ c.blank.ensures in
    let longer = length-append c.loop-alloc.halls.items (c.in_ok-hall.hall ∷ []) in
    let room = c.loop-alloc-test.true in
    let len = c.len.ensures in
    let count = c.requires.count in
    rw c.in_ok-push.ensures.items (record {
      same = λ s. blank_pushed 65536 in_hall c.loop-alloc.halls.items c.in_ok-hall.hall [] 65536 s blank
          ∙ c.loop-alloc.invariant.same s;
      halls = push_piece 65536 in_hall c.loop-alloc.halls.items c.in_ok-hall.hall c.loop-alloc.invariant.halls (ap length blank);
      more = let more = c.loop-alloc.invariant.more in omega (arith, longer, more);
      few = omega (arith, longer, room, len, count);
    })
