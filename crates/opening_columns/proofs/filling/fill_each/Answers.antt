use Rattle.std.proofs.Common.{◌<◌, ◌∙◌, ℕ, List, sym, subst, arith, length, All}
use Rattle.graph_types.specs.declared.ids.Edge.{Edge}
use Rattle.graph_version.specs.Sharing.{block_value}
use Rattle.opening_columns.specs.{Edges.{AreRising, IsWithinBounds}, Runs.{IsFilled, IsRun}}
use Rattle.opening_columns.proofs.RunLists.{fits, the_run, front_is, back_is, run_is, runs_more, rising_front, rising_back, range_front, range_back, numbers_set, filled_more}
use Rattle.opening_columns.proofs.filling.fill_each.Goals as goal

pub split_at-requires : goal.split_at-requires
split_at-requires c =
    let (runs, are, long) = c.requires.runs in
    let left = (c.loop-place.invariant.filled runs are long).0 in
    fits c.args.edges.now c.loop-place.rest.now c.args.lengths.now c.loop-place.place runs are long left (omega arith)

pub fill-requires-clause-rising : goal.fill-requires-clause-rising
fill-requires-clause-rising c =
    subst AreRising (sym c.split_at.ensures.front) (rising_front _ c.loop-place.rest.now c.loop-place.invariant.rising)

pub fill-requires-clause-range : goal.fill-requires-clause-range
fill-requires-clause-range c =
    subst (All IsWithinBounds) (sym c.split_at.ensures.front) (range_front _ c.loop-place.rest.now c.loop-place.invariant.range)

pub fill-requires-clause-run : goal.fill-requires-clause-run
fill-requires-clause-run c =
    let (runs, are, long) = c.requires.runs in
    let left = (c.loop-place.invariant.filled runs are long).0 in
    let lt : c.loop-place.place < length c.args.lengths.now = omega arith in
    subst IsRun (sym (c.split_at.ensures.front
    ∙ front_is c.args.edges.now c.loop-place.rest.now c.args.lengths.now c.loop-place.place runs are long left lt))
    (run_is c.args.edges.now c.loop-place.rest.now c.args.lengths.now c.loop-place.place runs are long left lt)

pub loop-place-preserved : goal.loop-place-preserved
loop-place-preserved c =
    let edges : List Edge = c.args.edges.now in
    let rest : List Edge = c.loop-place.rest.now in
    let lengths : List ℕ = c.args.lengths.now in
    let p : ℕ = c.loop-place.place in
    let lt : p < length lengths = omega arith in
    let many : p < length c.loop-place.blocks = omega arith in
    let block = c.fill.new.block in
    record {
      rising = subst AreRising (sym c.split_at.ensures.back) (rising_back _ rest c.loop-place.invariant.rising);
      range = subst (All IsWithinBounds) (sym c.split_at.ensures.back) (range_back _ rest c.loop-place.invariant.range);
      numbers = numbers_set c.loop-place.blocks p block c.index-blocks-place.result many
          c.in_ok-fill.ensures.number
          ∙ c.loop-place.invariant.numbers;
      filled = λ runs are long.
          let inv = c.loop-place.invariant.filled runs are long in (
            back_is edges rest lengths p runs are long inv.0 lt ∙ sym c.split_at.ensures.back,
            filled_more runs c.loop-place.blocks p block (the_run edges rest lengths p runs are long inv.0 lt) many
                (runs_more edges rest lengths p runs are long inv.0 lt) inv.1
                (subst (λ (r : List Edge). IsFilled r (block_value block))
                (c.split_at.ensures.front ∙ front_is edges rest lengths p runs are long inv.0 lt) c.in_ok-fill.ensures.filled),
          );
    }
