use Rattle.std.proofs.Common.{rules, ◌≡◌, length, true, refl, arith}
use Rattle.desk_counts.specs.Counted.{none_counted}
use Rattle.desk_columns.specs.Feeding.{are_alike_columns, columns_of, AreIn.More}
use Rattle.desk_columns.proofs.Inserted.{begun, refused_at, still_in}
use Rattle.desk_columns.proofs.columns.insert_all.Goals as goal

pub returns-then-not-are_alike : goal.returns-then-not-are_alike
returns-then-not-are_alike c = record {
  fed = c.args.desk.now;
  are_in = begun c.args.desk.now (none_counted (length c.args.desk.now.desk.last.batches)) c.none_of.result
      (columns_of c.args.insertions.now) c.none_of.ensures;
  ends = (search rules, refl, refl);
}

pub loop-at-init : goal.loop-at-init
loop-at-init c = record {
  within = omega arith;
  done_is = refl;
  are_in = begun c.args.desk.now (none_counted (length c.args.desk.now.desk.last.batches)) c.none_of.result
      (columns_of c.args.insertions.now) c.none_of.ensures;
}

pub loop-at-preserved : goal.loop-at-preserved
loop-at-preserved c =
    let next = c.in-Ok.ensures.taken in
    record {
      within = omega (arith, next.count_is);
      done_is = refl;
      are_in = More c.loop-at.at c.in-Ok.more c.loop-at.desk c.insert_next.new.desk c.loop-at.counts c.insert_next.new.counts
          c.loop-at.invariant.are_in next;
    }

pub returns-in-Err : goal.returns-in-Err
returns-in-Err c =
    let alike : are_alike_columns (columns_of c.args.insertions.now) ≡ true = search rules in
    record {
      fed = c.loop-at.desk;
      are_in = still_in c.args.desk.now (none_counted (length c.args.desk.now.desk.last.batches))
          (columns_of c.args.insertions.now) c.loop-at.at c.loop-at.done c.loop-at.desk c.loop-at.counts c.insert_next.new.counts
          c.loop-at.invariant.done_is c.in-Err.ensures.counts c.loop-at.invariant.are_in;
      ends = refused_at (columns_of c.args.insertions.now) c.loop-at.at c.loop-at.done c.loop-at.desk c.insert_next.new.desk
          c.in-Err.error c.loop-at.invariant.done_is alike (omega (arith, c.loop-at-test.true)) c.in-Err.ensures.refused;
    }

pub returns : goal.returns
returns c =
    let alike : are_alike_columns (columns_of c.args.insertions.now) ≡ true = search rules in
    record {
      fed = c.loop-at.desk;
      are_in = still_in c.args.desk.now (none_counted (length c.args.desk.now.desk.last.batches))
          (columns_of c.args.insertions.now) c.loop-at.at c.loop-at.done c.loop-at.desk c.loop-at.counts c.loop-at.counts
          c.loop-at.invariant.done_is refl c.loop-at.invariant.are_in;
      ends = (alike, omega arith, refl);
    }
