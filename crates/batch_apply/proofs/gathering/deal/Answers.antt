use Rattle.std.proofs.Common.{◌≡◌, ◌<◌, ◌+◌, ◌++◌, ◌∷◌, [], ℕ, List, flat_map, count_by, length, length-append, zip, take, get_or}
use Rattle.std.proofs.{Common.{slice_index_or, arith, refl, sym, ap, ◌∙◌, subst}, lemmas.Iterator.Adapters.YieldsList-from_vec}
use Rattle.std.{proofs.lemmas.{Iterator.Consumers.YieldsList-turn, List.Sums.sum_by-take-le}, specs.List.{sum_by, AllZip}}
use Rattle.graph_types.proofs.{Elements.zip_more, Joined.one_piece, Sums.{sum_taken, count_by-append}, ZippedRows.zip_push}
use Rattle.batch_shards.specs.{RowBlocks.shared_numbers, declared.shard.Shard.Shard}
use Rattle.batch_apply.specs.{Gathered.IsDealt, declared.workers.Job.Job}
use Rattle.batch_apply.proofs.gathering.deal.Goals.{After-len-in-loop-shard}
use Rattle.batch_apply.proofs.gathering.deal.Goals as goal

-- the next shard is one of the plan's, and what it needs is read at its place
turned : (c : After-len-in-loop-shard) → (length c.loop-shard.yielded < length c.args.needs.now)
    × (slice_index_or c.args.needs.now c.len-in-loop-shard.result 0 ≡ get_or c.args.needs.now (length c.loop-shard.yielded) 0)
turned c =
    let start = c.into_iter-shard-iterator.ensures.into_iter_gives in
    let turn = YieldsList-turn (YieldsList-from_vec {s = c.into_iter-shard-iterator.result} c.args.shards.items start.0
    (start.1 ∙ c.args.shards.ok.0))
    c.loop-shard.yielded c.loop-shard.shard-iterator c.loop-shard.yielded_by c.next.result c.next.new.self
    c.in-Some.shard c.in-Some.is c.next.ensures.steps in
    let place : c.len-in-loop-shard.result ≡ length c.loop-shard.yielded =
    omega (arith, c.len-in-loop-shard.ensures, c.loop-shard.jobs.ok.0, c.loop-shard.invariant.many) in
    (omega (arith, turn.0, c.requires.long), ap (λ (n : ℕ). slice_index_or c.args.needs.now n 0) place)

-- what the plan's next shard needs is left
pub take_last-requires : goal.take_last-requires
take_last-requires c =
    let needs : List ℕ = c.args.needs.now in
    let i : ℕ = length c.loop-shard.yielded in
    let turn = turned (goal.at.take_last-requires c).After-len-in-loop-shard in
    let rest = sum_by-take-le (λ (n : ℕ). n) needs (i + 1) in
    omega (arith, turn.1, sum_taken i needs 0 turn.0, rest, c.loop-shard.invariant.left, c.requires.blocks)

pub loop-shard-preserved : goal.loop-shard-preserved
loop-shard-preserved c =
    let needs : List ℕ = c.args.needs.now in
    let yielded : List Shard = c.loop-shard.yielded in
    let s : Shard = c.in-Some.shard in
    let i : ℕ = length yielded in
    let turn = turned (goal.at.loop-shard-preserved c).After-len-in-loop-shard in
    let more : length (yielded ++ s ∷ []) ≡ i + 1 = length-append yielded (s ∷ []) in
    let job : Job = record {
      worker = c.len-in-loop-shard-2.result;
      shard =
          record c.in-Some.shard { fresh = c.in_ok-fresh.fresh };
    } in
    let fresh_of : Job → List ℕ = λ j. shared_numbers j.shard.fresh.items in
    record {
      jobs = subst (λ js. AllZip IsDealt (zip (yielded ++ s ∷ []) needs) js) (sym c.in_ok-push.ensures.items)
          (subst (λ ps. AllZip IsDealt ps (c.loop-shard.jobs.items ++ job ∷ [])) (sym (zip_push yielded s needs 0 turn.0))
          (zip_more IsDealt (zip yielded needs) c.loop-shard.jobs.items (s, get_or needs i 0) job c.loop-shard.invariant.jobs
          (record {
            sources_are = refl;
            steps_are = refl;
            fresh = c.in_ok-fresh.ensures.taken ∙ turn.1;
          })));
      many = omega (
        arith,
        more,
        ap length c.in_ok-push.ensures.items,
        length-append c.loop-shard.jobs.items (job ∷ []),
        c.loop-shard.invariant.many,
      );
      left = omega (
        arith,
        turn.1,
        ap (λ (n : ℕ). sum_by (λ k. k) (take n needs)) more,
        sum_taken i needs 0 turn.0,
        c.in_ok-fresh.ensures.left,
        c.loop-shard.invariant.left,
      );
      numbers = λ q.
          (let jobs : count_by q (flat_map fresh_of c.push.new.self.items)
          ≡ count_by q (flat_map fresh_of c.loop-shard.jobs.items) + count_by q (shared_numbers c.in_ok-fresh.fresh.items) =
          ap (λ js. count_by q (flat_map fresh_of js)) c.in_ok-push.ensures.items
          ∙ ap (count_by q) (one_piece fresh_of c.loop-shard.jobs.items job)
          ∙ count_by-append q (flat_map fresh_of c.loop-shard.jobs.items) (fresh_of job) in
          omega (arith, jobs, c.in_ok-fresh.ensures.numbers q, c.loop-shard.invariant.numbers q));
    }
