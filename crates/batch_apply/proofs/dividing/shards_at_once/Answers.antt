use Rattle.std.proofs.Common.{Ok, IfOk, get_or, ◌≡◌, ◌<◌, ◌+◌, ◌-◌, ◌^◌, ℕ, List, [], ◌∷◌, ◌++◌, map, min, ap₂, sym, subst, ◌∙◌}
use Rattle.std.proofs.Common.{arith, length, length-append, Result}
use Rattle.std.{proofs.lemmas.List.map-append, specs.{declared.alloc.AllocError.AllocError}}
use Rattle.std.proofs.lemmas.Iterator.{Adapters.YieldsList-from_vec, Consumers.YieldsList-turn}
use Rattle.graph_types.proofs.Elements.{one_more_shard}
use Rattle.edge_block.specs.Slots.{BlockView}
use Rattle.batch_shards.specs.{Done.layout_by, Done.sources_in, Spending.needed, declared.shard.Shard.Shard}
use Rattle.batch_apply.specs.{Plan.shown_op, Shards.{IsShardOf, latest_expiry}, OldRows.AreOldRows, declared.shards.Needing.Needing}
use Rattle.batch_apply.proofs.dividing.shards_at_once.Goals as goal

pub loop-one-preserved : goal.loop-one-preserved
loop-one-preserved g c rows are =
    let start = c.into_iter-one-iterator.ensures.into_iter_gives in
    let turn = YieldsList-turn (YieldsList-from_vec {s = c.into_iter-one-iterator.result} c.in_ok-planned.planned.items start.0
    (start.1 ∙ c.in_ok-planned.planned.ok.0)) c.loop-one.yielded c.loop-one.one-iterator c.loop-one.yielded_by c.next.result
    c.next.new.self c.in-Some.one c.in-Some.is c.next.ensures.steps in
    let w : ℕ = length c.loop-one.yielded in
    let within : w < c.args.workers = omega (arith, turn.0, c.in_ok-planned.ensures.len, c.in_ok-planned.planned.ok.0) in
    let told = (c.in_ok-planned.ensures.each w c.in-Some.one within).1.met in
    let shards : List Shard = c.loop-one.all.shards.items in
    let shard : Shard = c.in_ok-one.field-0.shard in
    let need : Shard → ℕ = λ (s : Shard). min (needed rows (sources_in s) s.steps.items) (2 ^ 64 - 1) in
    let R : ℕ → Shard → Type 0 = IsShardOf c.args.workers (map shown_op c.args.ops.now) (layout_by rows) in
    let P : Needing → Type 0 = λ (n : Needing). (rows' : ℕ → List BlockView)
    → AreOldRows (latest_expiry (map shown_op c.args.ops.now)) rows' c.args.old.now
    → IsShardOf c.args.workers (map shown_op c.args.ops.now) (layout_by rows') w n.shard in
    let Q : Needing → Type 0 = λ (n : Needing). (rows' : ℕ → List BlockView)
    → AreOldRows (latest_expiry (map shown_op c.args.ops.now)) rows' c.args.old.now
    → n.blocks ≡ min (needed rows' (sources_in n.shard) n.shard.steps.items) (2 ^ 64 - 1) in
    let is : get_or c.in_ok-planned.planned.items w c.in-Some.one ≡ Ok c.in_ok-one.field-0 = sym turn.1 ∙ c.in_ok-one.was in
    let given : IfOk (get_or c.in_ok-planned.planned.items w c.in-Some.one) P = told.0 in
    let needing : IfOk (get_or c.in_ok-planned.planned.items w c.in-Some.one) Q = told.1 in
    let one : R w shard = subst (λ (r : Result Needing AllocError). IfOk r P) is given rows are in
    let tells : c.in_ok-one.field-0.blocks ≡ need shard =
    subst (λ (r : Result Needing AllocError). IfOk r Q) is needing rows are in
    let so_far = c.loop-one.invariant rows are in
    let more : length (c.loop-one.yielded ++ c.in-Some.one ∷ []) ≡ w + 1 =
    length-append c.loop-one.yielded (c.in-Some.one ∷ []) in
    let pushed : c.add_shard.new.all.shards.items ≡ shards ++ shard ∷ [] = c.in_ok-add_shard.ensures.shards in
    let counted : c.add_shard.new.all.needs.items ≡ c.loop-one.all.needs.items ++ c.in_ok-one.field-0.blocks ∷ [] =
    c.in_ok-add_shard.ensures.needs in (
      rw (pushed, more) (one_more_shard R w shards shard so_far.0 one),
      rw (counted, pushed) (ap₂ (λ (a : List ℕ) (b : ℕ). a ++ b ∷ []) so_far.1 tells ∙ sym (map-append need shards (shard ∷ []))),
    )
