use Rattle.std.proofs.Common.{◌≡◌, ◌-◌, ◌^◌, ℕ, List, [], ◌∷◌, ◌++◌, map, min, ap₂, sym, subst, ◌∙◌, arith}
use Rattle.std.{proofs.lemmas.List.map-append, specs.List.range_with_len, specs.List.AllZip}
use Rattle.graph_types.proofs.Elements.{one_more_shard}
use Rattle.batch_shards.specs.{Done.layout_by, Done.sources_in, Spending.needed, declared.shard.Shard.Shard}
use Rattle.batch_apply.specs.{Plan.shown_op, Shards.IsShardOf}
use Rattle.batch_apply.proofs.dividing.shards_for.Goals as goal

pub loop-worker-preserved : goal.loop-worker-preserved
loop-worker-preserved c rows are =
    let so_far = c.loop-worker.invariant rows are in
    let shards : List Shard = c.loop-worker.all.shards.items in
    let shard : Shard = c.in_ok-planned.planned.shard in
    let need : Shard → ℕ = λ (s : Shard). min (needed rows (sources_in s) s.steps.items) (2 ^ 64 - 1) in
    let one : IsShardOf c.args.workers (map shown_op c.args.ops.now) (layout_by rows) c.loop-worker.worker shard =
    c.in_ok-planned.ensures.shard rows are in
    let tells : c.in_ok-planned.planned.blocks ≡ need shard = c.in_ok-planned.ensures.blocks rows are in
    let pushed : c.add_shard.new.all.shards.items ≡ shards ++ shard ∷ [] = c.in_ok-add_shard.ensures.shards in
    let counted : c.add_shard.new.all.needs.items ≡ c.loop-worker.all.needs.items ++ c.in_ok-planned.planned.blocks ∷ [] =
    c.in_ok-add_shard.ensures.needs in (
      rw pushed (one_more_shard (IsShardOf c.args.workers (map shown_op c.args.ops.now) (layout_by rows)) c.loop-worker.worker shards
          shard so_far.0 one),
      rw (counted, pushed) (ap₂ (λ (a : List ℕ) (b : ℕ). a ++ b ∷ []) so_far.1 tells ∙ sym (map-append need shards (shard ∷ []))),
    )

pub shard_for-requires : goal.shard_for-requires
shard_for-requires c = record {
  workers = c.requires.workers;
  few = c.requires.few;
  placed = c.requires.placed;
  valid = c.requires.valid;
  few_old = c.requires.few_old;
  old = c.requires.old;
}

pub returns-clause-shards : goal.returns-clause-shards
returns-clause-shards c rows are =
    let end : c.loop-worker.worker ≡ c.args.workers = omega arith in
    subst (λ (n : ℕ). AllZip (IsShardOf c.args.workers (map shown_op c.args.ops.now) (layout_by rows)) (range_with_len 0 n)
    c.loop-worker.all.shards.items) end (c.loop-worker.invariant rows are).0

pub returns-clause-needs : goal.returns-clause-needs
returns-clause-needs c rows are = (c.loop-worker.invariant rows are).1
