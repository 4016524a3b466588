use Rattle.std.proofs.Common.{◌≡◌, ℕ, ◌+◌, ◌<◌, ◌≤◌, List, refl, ◌∙◌, arith, rules, get_or, length, vec_len}
use Rattle.std.proofs.lemmas.List.{length-map}
use Rattle.graph_types.proofs.MappedFirst.{map_first_all}
use Rattle.edge_block.specs.Rows.{OpenBlock, expire_block}
use Rattle.batch_shards.specs.{RowBlocks.{open_of, opens}, Spending.unspent, declared.row_blocks.RowBlock.RowBlock}
use Rattle.batch_shards.proofs.RowSteps.{keeps_set}
use Rattle.batch_shards.proofs.ExpiringRows.{owes_here, set_here, count_here, few_here, all_set}
use Rattle.batch_shards.proofs.rows.expire_blocks.Goals as goal

pub loop-place-init : goal.loop-place-init
loop-place-init c = record {
  row = refl;
  count = refl;
  had = refl;
  own = λ source all. all;
  numbers = λ q. refl;
  enough = λ t le. omega arith;
}

pub expire-requires : goal.expire-requires
expire-requires c e =
    let owes = owes_here c.loop-place.row.items c.loop-place.place c.index_mut.result.now (search rules)
    c.index_mut.ensures.value c.args.time e in
    let few = c.loop-place.invariant.enough c.args.time (omega arith) in
    omega (arith, owes, few, c.requires)

pub loop-place-preserved : goal.loop-place-preserved
loop-place-preserved c =
    let k : ℕ = c.loop-place.place in
    let row : List RowBlock = c.loop-place.row.items in
    let h : RowBlock = c.index_mut.result.now in
    let y : RowBlock = c.expire.new.self in
    let first : List OpenBlock = opens c.args.row.now.items in
    let is : h ≡ get_or row k h = c.index_mut.ensures.value in
    let lt : k < length row = search rules in
    let keeps = keeps_set _ row k y h c.loop-place.fresh c.expire.new.fresh lt is c.in_ok-gone.ensures.keeps in
    record {
      row = set_here row k h lt is c.args.time first c.loop-place.invariant.row y c.in_ok-gone.ensures.shown;
      count = count_here row k h lt is c.args.time first c.loop-place.invariant.row c.loop-place.count c.from-count.result
          c.loop-place.invariant.count (c.from-count.ensures ∙ c.in_ok-gone.ensures.count);
      had = keeps.had ∙ c.loop-place.invariant.had;
      own = λ source all. all_set row k h lt is y source c.in_ok-gone.ensures.source (c.loop-place.invariant.own source all);
      numbers = λ q. (let here = keeps.numbers q in let so_far = c.loop-place.invariant.numbers q in omega arith);
      enough = λ t le.
          let so_far : vec_len c.args.fresh.now + unspent t (opens row) ≤ vec_len c.loop-place.fresh + unspent t first =
          (let enough = c.loop-place.invariant.enough t le in omega (arith, enough)) in
          let more = few_here row k h lt is c.args.time t (vec_len c.args.fresh.now) (vec_len c.loop-place.fresh)
          (vec_len c.expire.new.fresh) y (unspent t first) le c.in_ok-gone.ensures.shown so_far c.in_ok-gone.ensures.keeps.few in
          omega (arith, more);
    }

pub returns-clause-row : goal.returns-clause-row
returns-clause-row c =
    let long = length-map c.args.row.now.items open_of in
    c.loop-place.invariant.row ∙ map_first_all (expire_block c.args.time) c.loop-place.place (opens c.args.row.now.items)
    (omega (arith, c.loop-place.auto.place-end, c.loop-place-test.false, c.len-place-end.ensures, c.args.row.now.ok.0, long))

pub returns-clause-keeps : goal.returns-clause-keeps
returns-clause-keeps c = record {
  had = c.loop-place.invariant.had;
  numbers = c.loop-place.invariant.numbers;
  few = let enough = c.loop-place.invariant.enough c.args.time (omega arith) in omega (arith, enough);
}
