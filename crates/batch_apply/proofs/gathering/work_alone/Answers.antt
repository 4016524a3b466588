use Rattle.std.proofs.Common.{◌++◌, [], ◌∷◌, zip, refl, sym, ap, ◌∙◌, subst, arith}
use Rattle.std.{specs.List.AllZip, proofs.lemmas.List.append-nil, proofs.lemmas.List.get_or_read}
use Rattle.graph_types.proofs.{Sums.{only, numbers_one}, ZippedRows.paired}
use Rattle.batch_shards.specs.{RowBlocks.shared_blocks, RowBlocks.shared_numbers, Closing.row_values, declared.shard.Shard.Shard}
use Rattle.batch_apply.specs.{Gathered.IsDealt, Plans.written, declared.workers.Job.Job}
use Rattle.batch_apply.proofs.gathering.work_alone.{Given.Over, Goals.In_ok-fresh}
use Rattle.batch_apply.proofs.gathering.work_alone.Goals as goal

pub take_last-requires : goal.take_last-requires
take_last-requires g c =
    let read = get_or_read c.args.load.needs.items 0 c.index.result.now (omega (arith, c.requires.long, c.requires.alone))
    c.index.ensures 0 in
    omega (arith, read, only c.args.load.needs.items 0 (c.requires.long ∙ c.requires.alone), c.requires.blocks)

-- the only job
abbrev alone : (g : Over) → In_ok-fresh g → Job
alone g c = let shard : Shard = c.in-Some.shard in record { worker = 0; shard = record shard { fresh = c.in_ok-fresh.fresh } }

dealt : (g : Over) (c : In_ok-fresh g)
    → AllZip IsDealt (zip c.args.load.shards.items c.args.load.needs.items) (alone g c ∷ [])
dealt g c =
    let read = get_or_read c.args.load.needs.items 0 c.index.result.now (omega (arith, c.requires.long, c.requires.alone))
    c.index.ensures 0 in
    subst (λ ps. AllZip IsDealt ps (alone g c ∷ []))
    (sym (paired c.args.load.shards.items c.pop.new.self.items c.in-Some.shard c.args.load.needs.items 0 c.in-Some.ensures.items
    c.requires.alone c.requires.long))
    (record { sources_are = refl; steps_are = refl; fresh = c.in_ok-fresh.ensures.taken ∙ read }, tt)

pub do_alone-requires : goal.do_alone-requires
do_alone-requires g c =
    let f = (goal.at.do_alone-requires g c).In_ok-fresh in
    c.requires.ready (alone g f ∷ []) (dealt g f) 0 (alone g f) (omega arith)

pub returns : goal.returns
returns g c =
    let f = (goal.at.returns g c).In_ok-fresh in
    record {
      jobs = alone g f ∷ [];
      dones = c.in_ok-done.done ∷ [];
      rest = shared_numbers c.take_last.new.blocks.items;
      dealt = dealt g f;
      shared_out = λ q. numbers_one q (shared_numbers c.in_ok-fresh.fresh.items) _ _ (c.in_ok-fresh.ensures.numbers q);
      done = (c.in_ok-done.ensures, tt);
      outcomes_are = c.in_ok-add.ensures.outcomes ∙ ap (written c.in_ok-done.done.outcomes.items) c.in_ok-all.ensures.outcomes;
      rows_are = c.in_ok-add.ensures.rows ∙ ap (λ l. row_values l ++ row_values c.in_ok-done.done.rows.items) c.in_ok-all.ensures.rows
          ∙ sym (append-nil (row_values c.in_ok-done.done.rows.items));
      taken_are = c.in_ok-add.ensures.taken ∙ ap (λ l. l ++ c.in_ok-done.done.left.taken.items) c.in_ok-all.ensures.taken
          ∙ sym (append-nil c.in_ok-done.done.left.taken.items);
      dropped_are = c.in_ok-add.ensures.dropped
          ∙ ap (λ l. shared_blocks l ++ shared_blocks c.in_ok-done.done.left.dropped.items) c.in_ok-all.ensures.dropped
          ∙ sym (append-nil (shared_blocks c.in_ok-done.done.left.dropped.items));
      unused_are = c.in_ok-add.ensures.unused
          ∙ ap (λ b. shared_numbers b.items ++ shared_numbers c.in_ok-done.done.left.unused.items) c.in_ok-all.ensures.unused
          ∙ ap (λ l. shared_numbers c.take_last.new.blocks.items ++ l)
          (sym (append-nil (shared_numbers c.in_ok-done.done.left.unused.items)));
    }
