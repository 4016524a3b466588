use Rattle.std.proofs.Common.{◌≡◌, ℕ, List, length, drop, Some, sym, ap, subst, ◌∙◌, arith}
use Rattle.std.specs.Prelude.{Ok, Err}
use Rattle.graph_version.specs.Batches.{batch_value}
use Rattle.batch_columns.specs.Dictionaries.{insertions_from}
use Rattle.desk_columns.specs.Feeding.{batch_length, columns_of, IsTried}
use Rattle.batch_apply.specs.Listed.{AreEndsListed}
use Rattle.desk_columns.proofs.{Inserted.{left_as_it_was, taken_of}, Listed.{entry_name, listed_from, same_length}}
use Rattle.desk_columns.proofs.columns.insert_batch.Goals as goal

pub returns-in-Ok-apply_collecting-clause-taken : goal.returns-in-Ok-apply_collecting-clause-taken
returns-in-Ok-apply_collecting-clause-taken c =
    let ops = batch_value c.in-Ok-new.batch in
    let a = c.in-Ok-apply_collecting.accepted in
    let fit : insertions_from (columns_of c.args.insertions.now) c.args.from c.min-count.result ≡ Some ops =
    c.in-Ok.ensures.batch ∙ ap Some (sym c.in-Ok-new.ensures.ok) in
    let tried : IsTried c.args.desk.now ops (Ok a) c.apply_collecting.new.desk = c.in-Ok-apply_collecting.ensures in (
      ops,
      fit,
      taken_of c.args.desk.now c.apply_collecting.new.desk c.count_and_collect.new.desk c.args.counts.now c.count_and_collect.new.counts
          ops a tried c.count_and_collect.ensures.counts c.count_and_collect.ensures.collects,
    )

pub returns-in-Err-apply_collecting-clause-unchanged : goal.returns-in-Err-apply_collecting-clause-unchanged
returns-in-Err-apply_collecting-clause-unchanged c = λ free.
    let cols = columns_of c.args.insertions.now in
    let ops = batch_value c.in-Ok-new.batch in
    let fit : insertions_from cols c.args.from (batch_length c.args.parts cols c.args.from) ≡ Some ops =
    subst (λ n. insertions_from cols c.args.from n ≡ Some ops) c.min-count.ensures
    (c.in-Ok.ensures.batch ∙ ap Some (sym c.in-Ok-new.ensures.ok)) in
    let tried : IsTried c.args.desk.now ops (Err c.in-Err-apply_collecting.error) c.apply_collecting.new.desk =
    c.in-Err-apply_collecting.ensures in
    left_as_it_was cols c.args.from c.args.parts c.args.desk.now c.apply_collecting.new.desk ops c.in-Err-apply_collecting.error fit
    free tried

pub apply_collecting-requires-clause-listed : goal.apply_collecting-requires-clause-listed
apply_collecting-requires-clause-listed c =
    let cols = columns_of c.args.insertions.now in
    let ops = batch_value c.in-Ok-new.batch in
    let fit : insertions_from cols c.args.from c.min-count.result ≡ Some ops =
    c.in-Ok.ensures.batch ∙ ap Some (sym c.in-Ok-new.ensures.ok) in
    let alike : length cols.targets ≡ length cols.sources = same_length cols c.requires.alike in (
      entry_name cols,
      subst (λ (l : List ℕ). AreEndsListed (entry_name cols) ops c.listing_from.result.sources.now l) (sym c.listing_from.ensures.targets)
          (subst (λ (l : List ℕ). AreEndsListed (entry_name cols) ops l (drop c.args.from cols.targets)) (sym c.listing_from.ensures.sources)
          (listed_from cols c.args.from c.min-count.result ops fit (omega (arith, c.min-count.ensures, c.requires.within))
          (omega (arith, c.min-count.ensures, c.requires.within, alike)))),
    )
