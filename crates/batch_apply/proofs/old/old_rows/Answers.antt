use Rattle.std.proofs.Common.{◌≡◌, ℕ, ◌+◌, ◌-◌, ◌<◌, ◌≤◌, List, length, refl, sym, subst, ◌∙◌, arith}
use Rattle.edge_block.specs.Slots.{BlockView}
use Rattle.graph_version.specs.{Rows.row_of, Versions.content}
use Rattle.batch_shards.specs.Spending.{old_blocks}
use Rattle.batch_apply.specs.{OldRows.AreOldRows, OldRows.expiry_time, declared.old.OldRow.OldRow}
use Rattle.batch_apply.proofs.OldRows.{found_no_more, found_more, found_all, none_at_zero, old_is_within, some_counted}
use Rattle.batch_apply.proofs.old.old_rows.Goals as goal

pub returns-then-time-eq0 : goal.returns-then-time-eq0
returns-then-time-eq0 c =
    let rows : ℕ → List BlockView = row_of c.args.version.now.rows in
    let none : expiry_time c.args.ops.now ≡ 0 =
    sym c.expiry_time-time.ensures ∙ c.if-time-eq0.true in
    subst (λ (t : ℕ). AreOldRows t rows c.new-found.result.items) (sym none)
    (subst (λ (l : List OldRow). AreOldRows 0 rows l) (sym c.new-found.ensures.items) (none_at_zero rows))

pub loop-source-preserved : goal.loop-source-preserved
loop-source-preserved c =
    let time : ℕ = c.expiry_time-time.result in
    let rows : ℕ → List BlockView = row_of c.args.version.now.rows in
    let n : ℕ = c.loop-source.from.0 in
    let m : ℕ = c.in-Some.source.0 in
    let found : List OldRow = c.loop-source.found.items in
    let next = c.in-Some.ensures.next in
    let blocks : c.in-Some.blocks ≡ old_blocks time (rows m) = c.in-Some.ensures.blocks in
    let some : 0 < old_blocks time (rows m) = some_counted time (rows m) next.1 in
    let r : OldRow = record { source = c.in-Some.source; blocks = c.in-Some.blocks } in
    rw c.in_ok-push.ensures.items
    (found_more time rows m found (found_no_more time rows n found c.loop-source.invariant m next.0 next.2) r refl blocks
    (omega (arith, blocks, some)))

pub loop-source-smaller : goal.loop-source-smaller
loop-source-smaller c =
    let time : ℕ = c.expiry_time-time.result in
    let names : ℕ = length (content c.args.version.now).names in
    let n : ℕ = c.loop-source.from.0 in
    let m : ℕ = c.in-Some.source.0 in
    let next = c.in-Some.ensures.next in
    let le : n ≤ m = next.0 in
    let within : m < names = old_is_within c.args.version.now c.in-Some.ensures.version time m
    (some_counted time (row_of c.args.version.now.rows m) next.1) in
    let less : names - (m + 1) < names - n = omega arith in less

pub returns : goal.returns
returns c =
    let time : ℕ = c.expiry_time-time.result in
    let rows : ℕ → List BlockView = row_of c.args.version.now.rows in
    let same : time ≡ expiry_time c.args.ops.now = c.expiry_time-time.ensures in
    subst (λ (t : ℕ). AreOldRows t rows c.loop-source.found.items) same
    (found_all time rows c.loop-source.from.0 c.loop-source.found.items c.loop-source.invariant c.in_default.ensures.next)

pub overflow_add-from : goal.overflow_add-from
overflow_add-from c =
    let next = c.in-Some.ensures.next in
    let within : c.in-Some.source.0 < length (content c.args.version.now).names =
    old_is_within c.args.version.now c.in-Some.ensures.version c.expiry_time-time.result c.in-Some.source.0
    (some_counted c.expiry_time-time.result (row_of c.args.version.now.rows c.in-Some.source.0) next.1) in
    omega (arith, within, c.in-Some.ensures.version.small.names, c.in-Some.ensures.version.small.limits.names)
