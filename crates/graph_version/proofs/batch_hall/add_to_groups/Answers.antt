use Rattle.std.proofs.{Common.{◌≡◌, ◌∙◌, ◌/◌, ap, inl, inr, length, rules, arith}, lemmas.Result.IfErr-at_err}
use Rattle.std.specs.{Result.IsOk, declared.sync.Arc.Arc, declared.alloc.Global.Global}
use Rattle.graph_version.specs.{Batches.batch_value, BatchGroups.in_group, declared.batch_group.BatchGroup.BatchGroup}
use Rattle.list_pieces.proofs.{Pieces.{begun_piece, last_there, same_last, pushed_last, last_room}, Shown.always-OnErr}
use Rattle.graph_version.proofs.batch_hall.add_to_groups.Goals as goal

pub returns-then-len-eq0-clause-groups : goal.returns-then-len-eq0-clause-groups
returns-then-len-eq0-clause-groups c =
    rw c.in_ok-push.ensures.items
    (begun_piece 256 in_group c.args.groups.now.items c.args.len (c.args.len / 256) c.in_ok-group.group (batch_value c.args.batch) c.requires.groups
    c.requires.len (omega (arith, c.if-len-eq0.true)) (omega arith) (c.in_ok-group.ensures.ok ∙ c.in_ok-of.ensures))

pub index_mut-requires : goal.index_mut-requires
index_mut-requires c =
    let last = last_there 256 in_group c.args.groups.now.items c.args.len c.requires.groups c.requires.len (omega arith)
    (omega (arith, c.if-len-eq0.false)) in omega arith

pub returns-in_err-groups : goal.returns-in_err-groups
returns-in_err-groups c =
    let kept : in_group c.make_mut.follows.lender-at-none ≡ in_group c.index_mut.result.now =
    elim (IfErr-at_err _ c.in_err-groups.was c.make_mut.follows.holds-at-none) [ inl e ↦ e | inr e ↦ e ] in
    let last = same_last 256 in_group c.args.groups.now.items c.args.len c.requires.groups c.requires.len (omega arith)
    (omega (arith, c.if-len-eq0.false)) c.make_mut.follows.lender-at-none c.index_mut.result.now
    (kept ∙ ap in_group c.index_mut.ensures.value) in
    record { added = search rules; unchanged = always-OnErr _ last.0; groups = last.1 }

pub push-requires-2 : goal.push-requires-2
push-requires-2 c =
    let h : Arc BatchGroup Global = c.index_mut.result.now in
    let room = last_room 256 in_group c.args.groups.now.items c.args.len c.requires.groups c.requires.len (omega arith)
    (omega (arith, c.if-len-eq0.false)) h in
    let same : c.in_ok-groups.field-0.now ≡ in_group h = elim c.in_ok-groups.ensures.value [ inl e ↦ e | inr e ↦ e ] in
    let from = ap length (same ∙ ap in_group c.index_mut.ensures.value) in
    omega (arith, room, from)

pub returns : goal.returns
returns c =
    let h : Arc BatchGroup Global = c.index_mut.result.now in
    let same : c.in_ok-groups.field-0.now ≡ in_group h = elim c.in_ok-groups.ensures.value [ inl e ↦ e | inr e ↦ e ] in
    let ok : IsOk c.make_mut.result = search rules in
    let last = pushed_last 256 in_group c.args.groups.now.items c.args.len c.requires.groups c.requires.len (omega arith)
    (omega (arith, c.if-len-eq0.false)) c.push-2.result (c.make_mut.follows.lender c.push-2.new.self) h c.push-2.new.self
    c.in_ok-groups.field-0.now (batch_value c.args.batch) (c.make_mut.follows.holds c.push-2.new.self ok) (same ∙ ap in_group c.index_mut.ensures.value)
    c.push-2.ensures.pushed c.push-2.ensures.unchanged in
    record { added = last.0; unchanged = last.1; groups = last.2 }
