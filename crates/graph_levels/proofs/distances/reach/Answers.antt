use Rattle.std.proofs.Common.{◌≡◌, ◌≤◌, ◌<◌, ◌+◌, ◌/◌, ◌∙◌, ◌⊎◌, [], ℕ, List, Some, inl, inr, arith, length, drop, refl, ap, sym, subst}
use Rattle.std.{proofs.lemmas.List.length-replicate, specs.Prelude.{All, replicate}}
use Rattle.graph_types.specs.declared.ids.VertexId.{VertexId}
use Rattle.graph_levels.specs.{Search.IsSearch, Reached.{AreRows, is_found, level_table, met, vertices_of}}
use Rattle.graph_levels.proofs.{Frontiers.deeper, Marking.no_marks}
use Rattle.graph_levels.proofs.Searches.{begin, begin_flat, bound_is, cut_off, ended, found, found_there, goes_on, is_over, less_is_within, marks_within, none_is_within}
use Rattle.graph_levels.proofs.Tables.{few_rows, length-table, met_rows, no_rows, none_left}
use Rattle.graph_levels.proofs.distances.reach.Goals as goal

pub visit-requires-clause-within : goal.visit-requires-clause-within
visit-requires-clause-within g c = λ k d lt.
    let n = g.S.Steps.vertices c.args.steps.now in
    let long = ap length c.requires.fresh ∙ length-replicate (n / 64 + 1) 0 in
    omega (arith, c.requires.sources k d lt, long)

pub visit-requires-clause-marks : goal.visit-requires-clause-marks
visit-requires-clause-marks g c =
    rw (c.requires.fresh, c.new-rows.ensures.items) (no_marks (g.S.Steps.vertices c.args.steps.now / 64 + 1))

pub is_found-requires-clause-within : goal.is_found-requires-clause-within
is_found-requires-clause-within g c =
    marks_within c.args.until (g.S.Steps.vertices c.args.steps.now) (length c.frontiers.marks) c.frontiers.invariant.words c.requires.until

pub frontiers-init : goal.frontiers-init
frontiers-init g c =
    let step = g.S.Steps.leads c.args.steps.now in
    let sources = c.args.sources.now in
    let n = g.S.Steps.vertices c.args.steps.now in
    let long = ap length c.requires.fresh ∙ length-replicate (n / 64 + 1) 0 in
    let all : c.visit.new.rows.items ≡ met 0 sources [] =
    c.in_ok-visit.ensures.rows ∙ ap (λ (rows : List (VertexId × ℕ)). met 0 sources rows) c.new-rows.ensures.items in
    rw all (record {
      words = omega (arith, long, c.visit.auto.marks);
      marks = rw (← all) c.in_ok-visit.ensures.marks;
      rows = met_rows n 0 sources [] c.requires.sources (no_rows n);
      search = begin step sources n c.requires.sources;
      flat = begin_flat step sources n c.requires.sources;
      bound = none_is_within c.args.most;
      room = few_rows n (met 0 sources []) (met_rows n 0 sources [] c.requires.sources (no_rows n));
      deep = omega arith;
    })

pub frontiers-preserved : goal.frontiers-preserved
frontiers-preserved g c =
    let step = g.S.Steps.leads c.args.steps.now in
    let sources = c.args.sources.now in
    let n = g.S.Steps.vertices c.args.steps.now in
    let d = c.frontiers.depth in
    let i = c.frontiers.invariant in
    let old = c.frontiers.rows.items in
    let new = c.advance.new.rows.items in
    let end : length old ≡ c.len-end.result = omega (arith, c.len-end.ensures) in
    let on = goes_on c.frontiers.first c.len.result d c.args.most c.is_found.result
    (sym c.goes_on.ensures ∙ c.frontiers-test.true) in
    let more : IsSearch step sources (level_table n new) [] (vertices_of (drop (length old) new)) d =
    c.in_ok-advance.ensures.search c.if-branch.false sources i.search in
    record {
      words = omega (arith, i.words, c.advance.auto.marks);
      marks = c.in_ok-advance.ensures.marks;
      rows = c.in_ok-advance.ensures.rows;
      search = subst (λ m. IsSearch step sources (level_table n new) (vertices_of (drop m new)) [] (d + 1)) end
          (deeper step sources (level_table n new) (vertices_of (drop (length old) new)) d more);
      flat = λ v k h. more.low v k h;
      bound = less_is_within c.args.most d on.1;
      room = few_rows n new c.in_ok-advance.ensures.rows;
      deep = omega (arith, i.deep, on.0, c.len.ensures, c.len-end.ensures);
    }

pub returns-clause-levels : goal.returns-clause-levels
returns-clause-levels g c =
    let step = g.S.Steps.leads c.args.steps.now in
    let sources = c.args.sources.now in
    let n = g.S.Steps.vertices c.args.steps.now in
    let d = c.frontiers.depth in
    let i = c.frontiers.invariant in
    let rows = c.frontiers.rows.items in
    let rest = vertices_of (drop c.frontiers.first rows) in
    elim (is_over c.frontiers.first c.len.result d c.args.most c.is_found.result (sym c.goes_on.ensures ∙ c.frontiers-test.false)) [
      | inl past ↦ ended n step sources c.args.most c.args.until (level_table n rows)
          (found step sources (level_table n rows) rest d c.args.most i.search i.flat i.bound
          (inl (none_left c.frontiers.first rows (omega (arith, past, c.len.ensures)))) n (length-table n rows))
      | inr (inl bound) ↦ ended n step sources c.args.most c.args.until (level_table n rows)
          (found step sources (level_table n rows) rest d c.args.most i.search i.flat i.bound
          (inr (bound_is c.args.most d bound i.bound)) n (length-table n rows))
      | inr (inr there) ↦
          let told = found_there n rows c.args.until c.requires.until
          (ap (λ (rs : List (VertexId × ℕ)). is_found rs c.args.until) (sym c.deref.ensures.value) ∙ sym c.is_found.ensures ∙ there) in
          cut_off step sources (level_table n rows) rest [] d i.search n c.args.most c.args.until (length-table n rows) told.0 told.1
    ]

pub returns-then-branch-clause-levels : goal.returns-then-branch-clause-levels
returns-then-branch-clause-levels g c =
    let step = g.S.Steps.leads c.args.steps.now in
    let sources = c.args.sources.now in
    let n = g.S.Steps.vertices c.args.steps.now in
    let new : List (VertexId × ℕ) = c.advance.new.rows.items in
    let early = c.in_ok-advance.ensures.early c.if-branch.true in
    let cut = early.1 sources c.frontiers.invariant.search in
    let told = found_there n new c.args.until c.requires.until early.0 in
    cut_off step sources (level_table n new) cut.0 cut.1 c.frontiers.depth cut.2 n c.args.most c.args.until (length-table n new) told.0 told.1
