use Rattle.std.proofs.{Common.◌++◌, Common.List, Common.replicate, Common.sym, Common.ap, Common.◌∙◌, lemmas.List.append_assoc}
use Rattle.graph_types.specs.declared.batches.Outcome.TheVariants.{Absent}
use Rattle.graph_types.proofs.Joined.{one_piece}
use Rattle.batch_shards.specs.{RowBlocks.shared_blocks, RowBlocks.shared_numbers, Closing.row_values, declared.shard.ShardDone.ShardDone}
use Rattle.batch_apply.{specs.Plans.written, proofs.Loops.from_more}
use Rattle.batch_apply.proofs.gathering.gather.Goals as goal

pub loop-done-preserved : goal.loop-done-preserved
loop-done-preserved c =
    let before : List ShardDone = c.loop-done.yielded in
    let d : ShardDone = c.in-Some.done in
    let was = c.loop-done.invariant in
    let now = c.in_ok-add.ensures in
    record {
      outcomes = now.outcomes ∙ ap (written d.outcomes.items) was.outcomes
          ∙ sym (from_more before d (replicate c.args.operations Absent));
      rows = now.rows ∙ ap (λ l. l ++ row_values d.rows.items) was.rows
          ∙ sym (one_piece (λ (d : ShardDone). row_values d.rows.items) before d);
      taken = now.taken ∙ ap (λ l. l ++ d.left.taken.items) was.taken
          ∙ sym (one_piece (λ (d : ShardDone). d.left.taken.items) before d);
      dropped = now.dropped ∙ ap (λ l. l ++ shared_blocks d.left.dropped.items) was.dropped
          ∙ sym (one_piece (λ (d : ShardDone). shared_blocks d.left.dropped.items) before d);
      unused =
          now.unused ∙ ap (λ l. l ++ shared_numbers d.left.unused.items) was.unused
          ∙ append_assoc (shared_numbers c.args.unused.items) _ (shared_numbers d.left.unused.items)
          ∙ ap (λ l. shared_numbers c.args.unused.items ++ l)
          (sym (one_piece (λ (d : ShardDone). shared_numbers d.left.unused.items) before d));
    }
