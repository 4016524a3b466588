use Rattle.std.proofs.{Common.{◌≡◌, ◌∙◌, [], ◌∷◌, replicate, length, length-append, ap, arith}, lemmas.Grind.flat_map-append}
use Rattle.std.proofs.lemmas.List.{append-nil}
use Rattle.graph_version.specs.RowGroups.{in_group, in_groups}
use Rattle.list_pieces.{specs.Pieces.padded, proofs.{Full.{long, push_piece}, Padded.padded_more}}
use Rattle.graph_version.proofs.row_hall.add_groups.Goals as goal

pub loop-alloc-preserved : goal.loop-alloc-preserved
loop-alloc-preserved c =
    let blank : in_group c.in_ok-group.group ≡ replicate 1024 [] = c.in_ok-group.ensures.ok ∙ c.in_ok-blank.ensures in
    let longer = length-append c.loop-alloc.groups.items (c.in_ok-group.group ∷ []) in
    let room = c.loop-alloc-test.true in
    let len = c.len.ensures in
    let count = c.requires.count in
    let whole = long 1024 in_group c.loop-alloc.groups.items c.loop-alloc.invariant.groups in
    rw c.in_ok-push.ensures.items (record {
      same = ap (padded 65536 []) (flat_map-append in_group c.loop-alloc.groups.items (c.in_ok-group.group ∷ []))
          ∙ padded_more 65536 [] (in_groups c.loop-alloc.groups.items) _ 1024 (append-nil (in_group c.in_ok-group.group) ∙ blank)
          (omega (arith, whole, room, len, count)) ∙ c.loop-alloc.invariant.same;
      groups = push_piece 1024 in_group c.loop-alloc.groups.items c.in_ok-group.group c.loop-alloc.invariant.groups (ap length blank);
      few = omega (arith, longer, room, len, count);
    })
