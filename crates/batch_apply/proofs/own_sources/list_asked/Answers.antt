use Rattle.std.proofs.Common.{◌≡◌, ◌<◌, ◌++◌, true, false, ℕ, List, length, get_or, map, pos}
use Rattle.std.proofs.{Common.{ap, sym, ◌∙◌, arith}, lemmas.List.{take_all, append-nil}}
use Rattle.std.specs.declared.option.Option.TheVariants.{None}
use Rattle.graph_types.specs.declared.changes.EdgeChange.TheVariants.{Insert}
use Rattle.edge_block.specs.Batches.{Resolved, is_in_shard, shard_ops}
use Rattle.batch_apply.specs.{Plan.shown_op, Shards.source_numbers, FirstSources.{asked_sources, asked_source}}
use Rattle.batch_apply.specs.declared.resolve.ResolvedOp.{ResolvedOp, TheVariants.Edge}
use Rattle.batch_apply.proofs.First.{one_asked, none_asked}
use Rattle.batch_apply.proofs.own_sources.list_asked.Goals.{then-is_in_shard+in_ok-add_asked, else-is_in_shard}
use Rattle.batch_apply.proofs.own_sources.list_asked.Goals as goal

pub loop-op-init : goal.loop-op-init
loop-op-init c = record { asked = sym (append-nil (source_numbers c.args.sources.now.items)) }

pub loop-op-preserved : goal.loop-op-preserved
loop-op-preserved c =
    let workers : ℕ = c.args.workers in
    let worker : ℕ = c.args.worker in
    let ops : List ResolvedOp = c.args.ops.now in
    let d : ResolvedOp = Edge None None (Insert (pos 0) 0 0) in
    let i : ℕ = c.loop-op.op-index in
    let r : Resolved = shown_op (get_or ops i d) in
    let lt : i < length ops = omega arith in
    let first : List ℕ = source_numbers c.args.sources.now.items in
    elim c.if-is_in_shard.branch [
      | then-is_in_shard+in_ok-add_asked w ↦
          let mine : is_in_shard workers worker r ≡ true = sym c.is_in_shard.ensures ∙ w.if-is_in_shard.true in
          record {
            asked = rw w.sources-is (w.in_ok-add_asked.ensures ∙ ap (λ (l : List ℕ). l ++ asked_source r) c.loop-op.invariant.asked
                ∙ one_asked workers worker ops i d first lt mine);
          }
      | else-is_in_shard w ↦
          let other : is_in_shard workers worker r ≡ false = sym c.is_in_shard.ensures ∙ w.if-is_in_shard.false in
          record {
            asked = rw w.sources-is (c.loop-op.invariant.asked ∙ ap (λ (l : List ℕ). first ++ l)
                (sym (none_asked workers worker ops i d lt other)));
          }
    ]

pub returns : goal.returns
returns c =
    let ops : List ResolvedOp = c.args.ops.now in
    c.loop-op.invariant.asked ∙ ap (λ (l : List ResolvedOp). source_numbers c.args.sources.now.items
    ++ asked_sources (shard_ops c.args.workers c.args.worker (map shown_op l))) (take_all c.loop-op.op-index ops (omega arith))
