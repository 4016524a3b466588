use Rattle.std.{proofs.Common.{◌≡◌, ◌<◌, ◌≤◌, ◌+◌, ◌++◌, ◌∙◌, List, [], arith, length, drop, ap, sym, get_or, ℕ, subst}, specs.{Prelude.All, List.Contains}}
use Rattle.std.{proofs.lemmas.List.{append-nil, drop_all, length-append}}
use Rattle.graph_levels.specs.{Reached.{AreRows, is_found, level_table, met, vertices_of}, Search.{IsCutSearch, IsSearch}}
use Rattle.graph_types.specs.declared.ids.VertexId.{VertexId}
use Rattle.graph_types.proofs.Elements.{told}
use Rattle.graph_types.proofs.Prefixes.{front_long}
use Rattle.graph_levels.proofs.{Frontiers.{step as step_on}, Searches.marks_within, Tables.{front_more, met_rows}}
use Rattle.graph_levels.proofs.distances.advance.Goals as goal

pub visit-requires-clause-within : goal.visit-requires-clause-within
visit-requires-clause-within g c = λ k d lt.
    let step = g.S.Steps.leads c.args.steps.now in
    let u = c.index.result.now.0.0 in
    let edge : step u (get_or c.deref.result.now k d) =
    told (step u) _ _ c.deref.ensures.value c.in_ok-list_next.ensures k d lt in
    let below = (c.requires.within u (get_or c.deref.result.now k d) edge).1 in
    let words = c.loop-place.invariant.words in
    omega (arith, below, words)

pub loop-place-preserved : goal.loop-place-preserved
loop-place-preserved g c =
    let step = g.S.Steps.leads c.args.steps.now in
    let n = g.S.Steps.vertices c.args.steps.now in
    let d = c.args.depth in
    let k = c.loop-place.place in
    let old = c.args.rows.now.items in
    let rows = c.loop-place.rows.items in
    let row : VertexId × ℕ = c.index.result.now in
    let i = c.loop-place.invariant in
    let ts = c.deref.result.now in
    let lt : k < length old = omega (arith, c.loop-place-test.true, c.loop-place.auto.place-end, c.len-place-end.ensures) in
    let edges : All (step row.0.0) ts =
    told (step row.0.0) _ _ c.deref.ensures.value c.in_ok-list_next.ensures in
    let in' : All (λ v. v < n) ts = λ j e lt. (c.requires.within row.0.0 (get_or ts j e) (edges j e lt)).1 in
    let each : (b : ℕ) → step row.0.0 b → Contains ts b =
    λ b edge. subst (λ xs. Contains xs b) (sym c.deref.ensures.value) ((c.in_ok-list_next.ensures b).1 edge) in
    rw c.in_ok-visit.ensures.rows (record {
      words = omega (arith, i.words, c.visit.auto.marks);
      marks = rw (← c.in_ok-visit.ensures.rows) c.in_ok-visit.ensures.marks;
      rows = met_rows n (d + 1) ts rows in' i.rows;
      front = front_more (d + 1) ts old rows i.front;
      search = λ s start. step_on step s n d k ts old rows row i.front lt c.index.ensures edges in' each (i.search s start);
    })

pub returns-then-is_found : goal.returns-then-is_found
returns-then-is_found g c =
    let step = g.S.Steps.leads c.args.steps.now in
    let n = g.S.Steps.vertices c.args.steps.now in
    let d = c.args.depth in
    let k = c.loop-place.place in
    let old = c.args.rows.now.items in
    let rows = c.loop-place.rows.items in
    let row : VertexId × ℕ = c.index.result.now in
    let i = c.loop-place.invariant in
    let ts = c.deref.result.now in
    let lt : k < length old = omega (arith, c.loop-place-test.true, c.loop-place.auto.place-end, c.len-place-end.ensures) in
    let edges : All (step row.0.0) ts =
    told (step row.0.0) _ _ c.deref.ensures.value c.in_ok-list_next.ensures in
    let in' : All (λ v. v < n) ts = λ j e lt. (c.requires.within row.0.0 (get_or ts j e) (edges j e lt)).1 in
    let each : (b : ℕ) → step row.0.0 b → Contains ts b =
    λ b edge. subst (λ xs. Contains xs b) (sym c.deref.ensures.value) ((c.in_ok-list_next.ensures b).1 edge) in
    let new : c.visit.new.rows.items ≡ met (d + 1) ts rows = c.in_ok-visit.ensures.rows in
    let front : met (d + 1) ts rows ≡ old ++ drop (length old) (met (d + 1) ts rows) = front_more (d + 1) ts old rows i.front in
    record {
      marks = c.in_ok-visit.ensures.marks;
      rows = subst (AreRows n) (sym new) (met_rows n (d + 1) ts rows in' i.rows);
      more = subst (λ (xs : List (VertexId × ℕ)). length old ≤ length xs) (sym new) (front_long old (met (d + 1) ts rows) front);
      search = λ e. absurd (cc);
      early = λ e. (
        ap (λ (xs : List (VertexId × ℕ)). is_found xs c.args.until) (sym c.deref-in-loop-place.ensures.value)
            ∙ sym c.is_found.ensures ∙ c.if-is_found.true,
        λ s start. subst (λ (xs : List (VertexId × ℕ)). IsCutSearch step s (level_table n xs) d) (sym new) (
          vertices_of (drop (k + 1) old),
          vertices_of (drop (length old) (met (d + 1) ts rows)),
          step_on step s n d k ts old rows row i.front lt c.index.ensures edges in' each (i.search s start),
        ),
      );
    }

pub loop-place-init : goal.loop-place-init
loop-place-init g c =
    let old = c.args.rows.now.items in
    let none : drop (length old) old ≡ [] = drop_all (length old) old (omega arith) in
    record {
      words = c.requires.words;
      marks = c.requires.marks;
      rows = c.requires.rows;
      front = sym (append-nil old) ∙ ap (λ xs. old ++ xs) (sym none);
      search = λ s start. subst (λ xs. IsSearch (g.S.Steps.leads c.args.steps.now) s
          (level_table (g.S.Steps.vertices c.args.steps.now) old) (vertices_of (drop c.args.first old))
          (vertices_of xs) c.args.depth) (sym none) start;
    }

pub index-requires : goal.index-requires
index-requires g c =
    let old = c.args.rows.now.items in
    let rows = c.loop-place.rows.items in
    let all : length rows ≡ length (old ++ drop (length old) rows) = ap length c.loop-place.invariant.front in
    let both = length-append old (drop (length old) rows) in
    let new = c.loop-place.rows.ok.0 in
    let was = c.args.rows.now.ok.0 in
    let end = c.len-place-end.ensures in
    omega arith

pub visit-requires-clause-marks : goal.visit-requires-clause-marks
visit-requires-clause-marks g c = c.loop-place.invariant.marks

pub is_found-requires-clause-within : goal.is_found-requires-clause-within
is_found-requires-clause-within g c =
    let words = c.loop-place.invariant.words in
    let long = c.visit.auto.marks in
    marks_within c.args.until (g.S.Steps.vertices c.args.steps.now) (length c.visit.new.marks) (omega arith) c.requires.until

pub returns : goal.returns
returns g c =
    let old = c.args.rows.now.items in
    let rows = c.loop-place.rows.items in
    let all : length rows ≡ length (old ++ drop (length old) rows) = ap length c.loop-place.invariant.front in
    let both = length-append old (drop (length old) rows) in
    let was = c.args.rows.now.ok.0 in
    let end = c.len-place-end.ensures in
    let none : drop c.loop-place.place old ≡ [] = drop_all c.loop-place.place old (omega arith) in
    record {
      marks = c.loop-place.invariant.marks;
      rows = c.loop-place.invariant.rows;
      more = omega arith;
      early = λ e. absurd (cc);
      search = λ _ s start. subst (λ xs. IsSearch (g.S.Steps.leads c.args.steps.now) s
          (level_table (g.S.Steps.vertices c.args.steps.now) rows) (vertices_of xs)
          (vertices_of (drop (length old) rows)) c.args.depth) none (c.loop-place.invariant.search s start);
    }
