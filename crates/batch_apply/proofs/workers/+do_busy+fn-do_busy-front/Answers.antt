use Rattle.std.proofs.{Common.{rules, All, sym, subst}, lemmas.{Result.IfOk-at_ok, List.Elements.{All-take, All-drop}}}
use Rattle.graph_types.proofs.Elements.{zip_halves}
use Rattle.graph_version.specs.Rows.{row_of}
use Rattle.batch_shards.specs.{Done.IsShardDone, declared.shard.ShardDone.ShardDone}
use Rattle.batch_apply.specs.{Gathered.{IsShard, AreShardsDone}, declared.workers.Job.Job}
use Rattle.batch_apply.proofs.workers.+do_busy+fn-do_busy-front.Goals as goal

pub returns : goal.returns
returns g t c =
    let cut = c.in_ok-high.ensures in
    let rows = row_of c.args.version.now.rows in
    zip_halves (λ (j : Job) (d : ShardDone). IsShardDone rows j.shard d) _ _ _ _ _ _ _ cut.items cut.tail
    c.in_ok-done.ensures
    (IfOk-at_ok (λ v. AreShardsDone rows c.split_off.new.self.items v.items) c.in_ok-all.was c.join-b.ensures.second)
    (IfOk-at_ok (λ v. AreShardsDone rows c.in_ok-high.high.items v.items) c.in_ok-rest.was c.join-b.ensures.first)

-- the shards of each part of the jobs can be worked on
pub join-b-requires-after_bounds : goal.join-b-requires-after_bounds
join-b-requires-after_bounds g t c κs within =
    let rows = row_of c.args.version.now.rows in
    let cut = c.in_ok-high.ensures in
    let high : All (λ j. IsShard rows j.shard) c.in_ok-high.high.items =
    subst (λ js. All (λ (j : Job). IsShard rows j.shard) js) (sym cut.tail)
    (All-drop (λ (j : Job). IsShard rows j.shard) c.in-Some.place c.args.low.items c.requires) in
    let low : All (λ j. IsShard rows j.shard) c.split_off.new.self.items =
    subst (λ js. All (λ (j : Job). IsShard rows j.shard) js) (sym cut.items)
    (All-take (λ (j : Job). IsShard rows j.shard) c.in-Some.place c.args.low.items c.requires) in
    search rules
