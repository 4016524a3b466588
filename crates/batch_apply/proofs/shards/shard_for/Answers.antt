use Rattle.std.proofs.Common.{◌≡◌, ◌+◌, ◌-◌, ◌^◌, ◌<◌, true, false, ℕ, List, [], ◌∷◌, ◌++◌, length, map, get_or, take, drop, min, cond}
use Rattle.std.proofs.{Common.{ap, sym, subst, ◌∙◌, arith}, lemmas.List.{length-map, length-take-le, take_all, take_more}}
use Rattle.std.{proofs.lemmas.List.{get_or-map, Sums.sum_by_push}, specs.Prelude.{pos, count_by, not, Bool, IfSome}}
use Rattle.std.specs.{List.sum_by, declared.option.Option.TheVariants.None}
use Rattle.graph_types.specs.declared.changes.EdgeChange.TheVariants.{Insert}
use Rattle.edge_block.specs.Batches.{Resolved, IsPlaced, is_in_shard, shard_ops}
use Rattle.batch_shards.specs.{Done.layout_by, Groups.is_expiry, Spending.old_blocks, Spending.latest as latest_step}
use Rattle.batch_shards.specs.declared.shard.{Act.Act, Step.Step}
use Rattle.batch_apply.specs.{Plan.shown_op, Shards.AreShardSteps, Shards.has_old_shape, Shards.latest_expiry, Shards.source_numbers}
use Rattle.batch_apply.specs.{OldRows.{own_rows, blocks_in, old_sources}, FirstSources.{AreNext, asked_sources}}
use Rattle.batch_apply.specs.declared.{old.OldRow.OldRow, resolve.ResolvedOp.ResolvedOp, resolve.ResolvedOp.TheVariants.Edge}
use Rattle.batch_apply.proofs.{Growth.{passed, added, same_sum}, Listing.{sum_agrees, is_listed, listed_blocks}}
use Rattle.batch_apply.proofs.Listing.{own_blocks, same_old, same_latest, listed_agrees}
use Rattle.batch_apply.proofs.First.{start, finished, is_known, unknown, same_blocks, old_first, next_given, next_other}
use Rattle.batch_apply.proofs.shards.shard_for.Goals.{then-is_in_shard+in_ok-act+in_ok-push, else-is_in_shard}
use Rattle.batch_apply.proofs.shards.shard_for.Goals as goal

pub act_in-requires-clause-next : goal.act_in-requires-clause-next
act_in-requires-clause-next c =
    let workers : ℕ = c.args.workers in
    let worker : ℕ = c.args.worker in
    let i : ℕ = c.loop-k.k in
    let ops : List ResolvedOp = c.args.ops.now in
    let rs : List Resolved = map shown_op ops in
    let d : ResolvedOp = Edge None None (Insert (pos 0) 0 0) in
    let r : Resolved = shown_op (get_or ops i d) in
    let lt : i < length ops = omega arith in
    let long : length rs ≡ length ops = length-map ops shown_op in
    let mine : is_in_shard workers worker r ≡ true = sym c.is_in_shard.ensures ∙ c.if-is_in_shard.true in (
      asked_sources (shard_ops workers worker (drop (i + 1) rs)),
      next_given workers worker rs i (shown_op d) r (omega arith) (get_or-map shown_op ops i d (shown_op d) lt) mine
          (source_numbers c.loop-k.sources.items) c.loop-k.places c.loop-k.invariant.next,
    )

pub loop-k-init : goal.loop-k-init
loop-k-init c =
    let workers : ℕ = c.args.workers in
    let worker : ℕ = c.args.worker in
    let old : List OldRow = c.args.old.now in
    let rs : List Resolved = map shown_op c.args.ops.now in
    let (rows, is_old) = c.requires.old in
    let sum : ℕ = blocks_in (own_rows workers worker old) in
    let none : sum ≡ sum + 0 = omega arith in
    let found = c.in_ok-sources.ensures in
    record {
      steps = (_, (found.sources, rw c.in_ok-steps.ensures.items (start workers worker rs old _ found.sources)));
      next = found.places;
      old_blocks = same_blocks workers worker rs old _ (old_sources (own_rows workers worker old)) found.sources
          (old_first workers worker rs old is_old.distinct) ∙ own_blocks (latest_expiry rs) rows old is_old workers worker;
      blocks = rw c.in_ok-steps.ensures.items (found.blocks ∙ ap (λ n. min n (2 ^ 64 - 1)) none);
      few = omega (arith, found.few);
    }

pub loop-k-preserved : goal.loop-k-preserved
loop-k-preserved c =
    let workers : ℕ = c.args.workers in
    let worker : ℕ = c.args.worker in
    let old : List OldRow = c.args.old.now in
    let i : ℕ = c.loop-k.k in
    let ops : List ResolvedOp = c.args.ops.now in
    let rs : List Resolved = map shown_op ops in
    let d : ResolvedOp = Edge None None (Insert (pos 0) 0 0) in
    let r : Resolved = shown_op (get_or ops i d) in
    let lt : i < length ops = omega arith in
    let long : length rs ≡ length ops = length-map ops shown_op in
    let within : i < length rs = omega arith in
    let at : get_or rs i (shown_op d) ≡ r = get_or-map shown_op ops i d (shown_op d) lt in
    let step : take (i + 1) rs ≡ take i rs ++ r ∷ [] = take_more rs i (shown_op d) within ∙ ap (λ x. take i rs ++ x ∷ []) at in
    let keys : List ℕ = source_numbers c.loop-k.sources.items in
    let steps : List Step = c.loop-k.steps.items in
    let (first, (are, is)) = c.loop-k.invariant.steps in
    let known : ℕ → Bool = is_known workers worker rs old first in
    let left : List Resolved = shard_ops workers worker (drop (i + 1) rs) in
    elim c.if-is_in_shard.branch [
      | then-is_in_shard+in_ok-act+in_ok-push w ↦
          let mine : is_in_shard workers worker r ≡ true = sym c.is_in_shard.ensures ∙ w.if-is_in_shard.true in
          let placed : IsPlaced r = subst IsPlaced at (c.requires.placed i (shown_op d) within) in
          let act : Act = w.in_ok-act.act in
          let s : Step = record { op = i; act = act } in
          let next : List ℕ = source_numbers w.act_in.new.sources.items in
          let done : AreShardSteps workers (take i rs ++ r ∷ []) worker known next (steps ++ s ∷ []) =
          added workers worker (take i rs) r known keys steps is mine placed next i act
          w.in_ok-act.ensures.sources (sym (length-take-le i rs (omega arith))) w.in_ok-act.ensures.act
          w.in_ok-act.ensures.in_rows in
          let sums : sum_by (listed_blocks old) next ≡ sum_by (listed_blocks old) keys =
          same_sum workers worker (take i rs) r known keys steps is mine placed
          (listed_blocks old) (unknown workers worker rs old first) next w.in_ok-act.ensures.sources in
          let one = sum_by_push (λ (t : Step). cond (not (is_expiry t.act)) 1 0) steps s in
          let takes : w.blocks_for.result ≡ cond (not (is_expiry act)) 1 0 = w.blocks_for.ensures in
          let so_far = c.loop-k.invariant.blocks in
          let more = w.saturating_add-blocks.ensures in
          let sum : w.saturating_add-blocks.result ≡ min (blocks_in (own_rows workers worker old)
          + count_by (λ (t : Step). not (is_expiry t.act)) (steps ++ s ∷ [])) (2 ^ 64 - 1) = omega arith in
          record {
            steps = (first, (are, rw (w.sources-is, w.steps-is, w.in_ok-push.ensures.items, step) done));
            next = rw (w.sources-is, w.places-is) (w.in_ok-act.ensures.next (asked_sources left)
                (next_given workers worker rs i (shown_op d) r within at mine keys c.loop-k.places c.loop-k.invariant.next));
            old_blocks = rw w.sources-is (sums ∙ c.loop-k.invariant.old_blocks);
            blocks = rw (w.blocks-is, w.steps-is, w.in_ok-push.ensures.items) sum;
            few = rw w.sources-is (omega (arith, w.in_ok-act.ensures.few, c.loop-k.invariant.few));
          }
      | else-is_in_shard w ↦
          let other : is_in_shard workers worker r ≡ false = sym c.is_in_shard.ensures ∙ w.if-is_in_shard.false in
          let done : AreShardSteps workers (take i rs ++ r ∷ []) worker known keys steps =
          passed workers worker (take i rs) r known keys steps is other in
          record {
            steps = (first, (are, rw (w.sources-is, w.steps-is, step) done));
            next = rw (w.sources-is, w.places-is) (subst (λ (l : List ℕ). IfSome c.loop-k.places (AreNext keys l))
                (next_other workers worker rs i (shown_op d) r within at other) c.loop-k.invariant.next);
            old_blocks = rw w.sources-is c.loop-k.invariant.old_blocks;
            blocks = rw (w.blocks-is, w.steps-is) c.loop-k.invariant.blocks;
            few = rw w.sources-is (omega (arith, c.loop-k.invariant.few));
          }
    ]

pub returns : goal.returns
returns c =
    let rs : List Resolved = map shown_op c.args.ops.now in
    let old : List OldRow = c.args.old.now in
    let sources : List ℕ = source_numbers c.loop-k.sources.items in
    let steps : List Step = c.loop-k.steps.items in
    let long : length rs ≡ length c.args.ops.now = length-map c.args.ops.now shown_op in
    let whole : take c.loop-k.k rs ≡ rs = take_all c.loop-k.k rs (omega (arith, long, c.loop-k-test.false)) in
    let (first, (are, is)) = c.loop-k.invariant.steps in
    let done : AreShardSteps c.args.workers rs c.args.worker (is_listed old) sources steps =
    finished c.args.workers c.args.worker rs old first sources steps are (rw (sym whole) is) in
    record {
      shard = λ rows are. same_old c.args.workers c.args.worker rs (is_listed old) (λ s. has_old_shape (latest_expiry rs) (layout_by rows s))
          sources steps (listed_agrees (latest_expiry rs) rows old are) done;
      blocks = λ rows are.
          let owed : sum_by (λ s. old_blocks (latest_step steps) (rows s)) sources
          ≡ blocks_in (own_rows c.args.workers c.args.worker old) =
          ap (λ t. sum_by (λ s. old_blocks t (rows s)) sources)
          (same_latest c.args.workers c.args.worker rs (is_listed old) sources steps done)
          ∙ sym (sum_agrees (latest_expiry rs) rows old are sources) ∙ c.loop-k.invariant.old_blocks in
          let edges : ℕ = count_by (λ (s : Step). not (is_expiry s.act)) steps in
          let both : blocks_in (own_rows c.args.workers c.args.worker old) + edges
          ≡ edges + sum_by (λ s. old_blocks (latest_step steps) (rows s)) sources = omega arith in
          c.loop-k.invariant.blocks ∙ ap (λ n. min n (2 ^ 64 - 1)) both;
    }
