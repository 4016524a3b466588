use Rattle.std.proofs.Common.{◌≡◌, ℕ, ◌+◌, ◌-◌, ◌<◌, true, rules, arith, ap, sym, refl, subst, ◌∙◌, get_or, length, List, take}
use Rattle.std.proofs.{lemmas.Bool.false≢true, lemmas.List.get_or-set_other, lemmas.List.get_or_default, Math.Seq.map-set_same}
use Rattle.graph_types.specs.declared.{ids.VertexId.VertexId, batches.Outcome.Outcome}
use Rattle.batch_shards.proofs.{Expiring.not_later, Expiring.spends_least, ShardSteps.first_step, SourceSteps.earlier_next}
use Rattle.batch_shards.proofs.SourceSteps.{next_from, stepped, outcome_here, left_alone, left_told, skipped_count, at_row}
use Rattle.batch_shards.{proofs.SourceSteps.beside, specs.Groups.act_step}
use Rattle.graph_types.specs.Outcomes.{told}
use Rattle.batch_shards.specs.Groups.{act_outcome, is_on_row, is_expiry, is_later, does_act, may_change, IsNextStep, LeadsToStep, IsSourceRow}
use Rattle.batch_shards.specs.{Groups.IsOneMore, OpenRows.IsRowOf, RowBlocks.opens, Shards.resolved_in, Spending.latest, declared.shard.Act.Act}
use Rattle.edge_block.specs.{Batches.rows_all, Rows.{OpenBlock, old_in_row}}
use Rattle.graph_types.specs.Outcomes.{together}
use Rattle.graph_types.proofs.OutcomeSteps.{wrote}
use Rattle.batch_shards.proofs.open_rows.do_steps.Goals as goal

pub loop-index-init : goal.loop-index-init
loop-index-init c =
    let e : ℕ = c.first_edge-edge.result in
    let n : ℕ = c.min-index.result in
    let since : ℕ = c.args.opened.now.hints.since in
    let edge : IsNextStep (is_on_row c.args.row) c.args.steps.now 0 e = c.first_edge-edge.ensures in
    let expiry : LeadsToStep (is_later since) is_expiry c.args.steps.now 0 c.later_expiry.result =
    c.later_expiry.ensures in
    let next : LeadsToStep (may_change c.args.row since) (does_act c.args.row) c.args.steps.now 0 n =
    subst (LeadsToStep (may_change c.args.row since) (does_act c.args.row) c.args.steps.now 0) (sym c.min-index.ensures)
    (earlier_next edge expiry) in
    record {
      within = next.within;
      there = next.there;
      edge = next_from edge n (omega arith) (omega (arith, c.min-index.ensures));
      rows = λ sources rows is e. e ∙ sym (left_alone sources c.args.steps.now c.args.row c.args.opened.now.source.0 is rows since 0 n
          next (ap (old_in_row since) (sym e) ∙ c.requires.of_source.hinted.young));
      written = λ sources rows is e k s o lt at was. left_told sources c.args.steps.now c.args.row c.args.opened.now.source.0 is rows
          since 0 n next (ap (old_in_row since) (sym e) ∙ c.requires.of_source.hinted.young) k s (get_or c.args.outcomes.now.items k o).1
          (omega arith) lt at was;
      later = λ k o ge. refl;
      others = λ k s o lt at. refl;
      places = refl;
      length = c.requires.outcomes;
      of_source = c.requires.of_source;
      had = refl;
      numbers = λ q. refl;
      few = omega arith;
    }

pub do_act-requires-clause-fresh : goal.do_act-requires-clause-fresh
do_act-requires-clause-fresh c =
    let i : ℕ = c.loop-index.index in
    let act : Act = (get_or c.args.steps.now i first_step).act in
    let more = at_row c.args.steps.now c.args.row i c.loop-index-test.true
    (c.loop-index.invariant.there first_step c.loop-index-test.true) in
    let least = spends_least act (latest c.args.steps.now) (opens c.loop-index.opened.blocks.items)
    (not_later c.args.steps.now i first_step c.loop-index-test.true) in
    omega (arith, more.0, more.1, least, c.loop-index.invariant.few, c.requires.fresh)

pub loop-index-preserved : goal.loop-index-preserved
loop-index-preserved c =
    let i : ℕ = c.loop-index.index in
    let e : ℕ = c.edge_behind-edge.result in
    let n : ℕ = c.min-index-in-loop-index.result in
    let since : ℕ = c.do_act.new.row.hints.since in
    let lt : i < length c.args.steps.now = c.loop-index-test.true in
    let act : Act = (get_or c.args.steps.now i first_step).act in
    let at : does_act c.args.row act ≡ true = c.loop-index.invariant.there first_step lt in
    let edge : IsNextStep (is_on_row c.args.row) c.args.steps.now (i + 1) e = c.edge_behind-edge.ensures in
    let expiry : LeadsToStep (is_later since) is_expiry c.args.steps.now (i + 1) c.later_expiry-in-loop-index.result =
    c.later_expiry-in-loop-index.ensures in
    let next : LeadsToStep (may_change c.args.row since) (does_act c.args.row) c.args.steps.now (i + 1) n =
    subst (LeadsToStep (may_change c.args.row since) (does_act c.args.row) c.args.steps.now (i + 1))
    (sym c.min-index-in-loop-index.ensures) (earlier_next edge expiry) in
    let r : ℕ × Outcome = c.index.result.now in
    let read : (o : ℕ × Outcome) → r ≡ get_or c.args.outcomes.now.items i o =
    λ o. c.index.ensures ∙ c.loop-index.invariant.later i r (omega arith)
    ∙ get_or_default c.args.outcomes.now.items i r o (omega (arith, lt, c.requires.outcomes)) in
    let by : (sources : List ℕ) (rows : ℕ → List OpenBlock) → IsSourceRow sources c.args.steps.now c.args.row
    c.args.opened.now.source.0 → opens c.args.opened.now.blocks.items ≡ rows c.args.opened.now.source.0
    → opens c.do_act.new.row.blocks.items ≡ rows_all (resolved_in sources (take (i + 1) c.args.steps.now)) rows
    c.args.opened.now.source.0 =
    λ sources rows is e. c.in_ok-outcome.ensures.row
    ∙ ap (λ (s : VertexId). act_step s.0 act (opens c.loop-index.opened.blocks.items)) c.loop-index.invariant.of_source.source_is
    ∙ stepped sources c.args.steps.now c.args.row c.args.opened.now.source.0 is rows i
    (opens c.loop-index.opened.blocks.items) lt at (c.loop-index.invariant.rows sources rows is e) in
    record {
      within = next.within;
      there = next.there;
      edge = next_from edge n next.ahead (omega (arith, c.min-index-in-loop-index.ensures));
      rows = λ sources rows is e. by sources rows is e
          ∙ sym (left_alone sources c.args.steps.now c.args.row c.args.opened.now.source.0 is rows since (i + 1) n next
          (ap (old_in_row since) (sym (by sources rows is e)) ∙ c.in_ok-outcome.ensures.of_source.hinted.young));
      written = λ sources rows is e k s o k_lt k_at was.
          wrote c.loop-index.outcomes.items i k (c.index_mut.result.now.0, c.in_ok-outcome.outcome) o
          (λ j a. IsOneMore sources c.args.steps.now rows c.args.opened.now.source.0 j
          (get_or c.args.outcomes.now.items j o).1 a) (omega (arith, lt, c.loop-index.invariant.length))
          (outcome_here sources c.args.steps.now c.args.row c.args.opened.now.source.0 is rows i
          (opens c.loop-index.opened.blocks.items) (get_or c.args.outcomes.now.items i o).1 c.in_ok-outcome.outcome lt at
          (c.loop-index.invariant.rows sources rows is e)
          (c.in_ok-outcome.ensures.outcome
          ∙ ap (λ (p : ℕ × Outcome). told (together p.1 (act_outcome c.loop-index.opened.source.0 act
          (opens c.loop-index.opened.blocks.items)))) (read o)
          ∙ ap (λ (s : VertexId). told (together (get_or c.args.outcomes.now.items i o).1 (act_outcome s.0 act
          (opens c.loop-index.opened.blocks.items)))) c.loop-index.invariant.of_source.source_is))
          (beside (λ j. IsOneMore sources c.args.steps.now rows c.args.opened.now.source.0 k
          (get_or c.args.outcomes.now.items k o).1 (get_or c.loop-index.outcomes.items k o).1) i k
          (λ below. c.loop-index.invariant.written sources rows is e k s o below k_at was)
          (λ behind. subst (λ (x : ℕ × Outcome). IsOneMore sources c.args.steps.now rows c.args.opened.now.source.0 k
          (get_or c.args.outcomes.now.items k o).1 x.1) (sym (c.loop-index.invariant.later k o (omega arith)))
          (left_told sources c.args.steps.now c.args.row c.args.opened.now.source.0 is rows since (i + 1) n next
          (ap (old_in_row since) (sym (by sources rows is e)) ∙ c.in_ok-outcome.ensures.of_source.hinted.young) k s
          (get_or c.args.outcomes.now.items k o).1 behind k_lt k_at was)));
      later = λ k o ge. get_or-set_other c.loop-index.outcomes.items i k
          (c.index_mut.result.now.0, c.in_ok-outcome.outcome) o (omega (arith, next.ahead))
          ∙ c.loop-index.invariant.later k o (omega (arith, next.ahead));
      others = λ k s o k_lt out. get_or-set_other c.loop-index.outcomes.items i k
          (c.index_mut.result.now.0, c.in_ok-outcome.outcome) o
          (λ same. false≢true (sym out ∙ ap (λ j. does_act c.args.row (get_or c.args.steps.now j s).act) same
          ∙ c.loop-index.invariant.there s lt)) ∙ c.loop-index.invariant.others k s o k_lt out;
      places = map-set_same (λ (o : ℕ × Outcome). o.0) c.loop-index.outcomes.items i
          (c.index_mut.result.now.0, c.in_ok-outcome.outcome) c.index_mut.result.now
          (ap (λ (o : ℕ × Outcome). o.0) c.index_mut.ensures.value) ∙ c.loop-index.invariant.places;
      length = search rules;
      of_source = subst (λ (s : VertexId). IsRowOf s c.do_act.new.row) c.loop-index.invariant.of_source.source_is c.in_ok-outcome.ensures.of_source;
      had = c.in_ok-outcome.ensures.keeps.had ∙ c.loop-index.invariant.had;
      numbers = λ q. (let a = c.in_ok-outcome.ensures.keeps.numbers q in let b = c.loop-index.invariant.numbers q in omega arith);
      few =
          let more = at_row c.args.steps.now c.args.row i lt at in
          let same = skipped_count c.args.steps.now c.args.row since (n - (i + 1)) (i + 1) n (omega (arith, next.ahead)) next.within
          next.between in
          let took = c.in_ok-outcome.ensures.enough (latest c.args.steps.now) (not_later c.args.steps.now i first_step lt) in
          omega (arith, more.0, same, took, c.loop-index.invariant.few);
    }

pub later_expiry-requires-clause-groups : goal.later_expiry-requires-clause-groups
later_expiry-requires-clause-groups c = (c.requires.groups.0, c.requires.groups.2)

pub later_expiry-requires-in-loop-index-clause-groups : goal.later_expiry-requires-in-loop-index-clause-groups
later_expiry-requires-in-loop-index-clause-groups c = (c.requires.groups.0, c.requires.groups.2)
