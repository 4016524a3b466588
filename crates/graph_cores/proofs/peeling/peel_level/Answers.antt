use Rattle.std.proofs.Common.{◌≡◌, ◌<◌, ◌≤◌, ◌+◌, ◌++◌, ◌∷◌, [], ℕ, List, arith, length, set, ◌∙◌, sym, ap, subst, false}
use Rattle.std.{proofs.lemmas.List.length-append, specs.Prelude.{All, sum}}
use Rattle.graph_types.specs.Arcs.{at}
use Rattle.graph_types.proofs.Elements.{popped_within, front_low}
use Rattle.graph_cores.{specs.{Rows.neighbor_row, Peel.{lowered, IsPeeling}}, proofs.{RowSteps.row_within, Lowered.lowered_sum}}
use Rattle.graph_cores.proofs.{Lowered.{lowered_all, lowered_at}, PeelSteps.{take_out, skip, still}}
use Rattle.graph_cores.proofs.peeling.peel_level.Goals as goal

pub of-neighbors-requires-clause-within : goal.of-neighbors-requires-clause-within
of-neighbors-requires-clause-within c =
    let lt = popped_within
    (length c.args.cores.now) c.in-Some.vertex c.loop-vertex.stack.items c.pop.new.self.items c.in-Some.ensures.items
    c.loop-vertex.invariant.within in
    omega arith

pub lower-requires-clause-within : goal.lower-requires-clause-within
lower-requires-clause-within c =
    let n = length c.args.cores.now in
    let rows = c.args.rows.now in
    let v = c.in-Some.vertex in
    let all : All (λ w. w < n) (neighbor_row rows v) = row_within n rows.starts.items rows.ends.items v c.requires.rows.within in
    λ k d lt.
    let below = subst (All (λ w. w < n)) (sym c.of-neighbors.ensures) all k d lt in
    omega arith

pub loop-vertex-smaller-in-Continue-1 : goal.loop-vertex-smaller-in-Continue-1
loop-vertex-smaller-in-Continue-1 c =
    let n = length c.args.cores.now in
    let rows = c.args.rows.now in
    let st = c.pop.new.self.items in
    let v = c.in-Some.vertex in
    let ws = c.of-neighbors.result.now in
    let ds = c.loop-vertex.degrees in
    let popped : c.loop-vertex.stack.items ≡ st ++ v ∷ [] = c.in-Some.ensures.items in
    let all : All (λ w. w < n) ws = subst (All (λ w. w < n)) (sym c.of-neighbors.ensures)
    (row_within n rows.starts.items rows.ends.items v c.requires.rows.within) in
    let within : All (λ w. w < length ds) ws = λ k d lt. let below = all k d lt in omega arith in
    let e : (c.lower.new.degrees, c.lower.new.stack.items) ≡ lowered c.args.k ws ds st = c.in_ok-lower.ensures in
    let down : sum c.lower.new.degrees + length c.lower.new.stack.items ≤ sum ds + length st =
    subst (λ (r : List ℕ × List ℕ). sum r.0 + length r.1 ≤ sum ds + length st) (sym e) (lowered_sum c.args.k ws ds st within) in
    let long : length c.loop-vertex.stack.items ≡ length st + 1 = ap length popped ∙ length-append st (v ∷ []) in
    let goal_is : sum c.lower.new.degrees + length c.lower.new.stack.items < sum ds + length c.loop-vertex.stack.items =
    omega arith in
    goal_is

pub loop-vertex-preserved-in-Continue-1 : goal.loop-vertex-preserved-in-Continue-1
loop-vertex-preserved-in-Continue-1 c =
    let n = length c.args.cores.now in
    let rows = c.args.rows.now in
    let st = c.pop.new.self.items in
    let v = c.in-Some.vertex in
    let k = c.args.k in
    let ds = c.loop-vertex.degrees in
    let alive = c.loop-vertex.alive in
    let cores = c.loop-vertex.cores in
    let new = c.lower.new.stack.items in
    let ws = neighbor_row rows v in
    let popped : c.loop-vertex.stack.items ≡ st ++ v ∷ [] = c.in-Some.ensures.items in
    let all : All (λ w. w < n) (st ++ v ∷ []) = subst (All (λ w. w < n)) popped c.loop-vertex.invariant.within in
    let v_lt : v < n = popped_within n v c.loop-vertex.stack.items st popped c.loop-vertex.invariant.within in
    let rows_in : (u : ℕ) → All (λ w. w < n) (neighbor_row rows u) =
    λ u. row_within n rows.starts.items rows.ends.items u c.requires.rows.within in
    let e : (c.lower.new.degrees, new) ≡ lowered k ws ds st = c.in_ok-lower.ensures
    ∙ ap (λ xs. lowered k xs ds st) c.of-neighbors.ensures in
    record {
      within = subst (λ (r : List ℕ × List ℕ). All (λ w. w < n) r.1) (sym e)
          (lowered_all (λ w. w < n) k ws ds st (rows_in v) (front_low st v (λ w. w < n) all));
      shrinks = λ w.
          let before = c.loop-vertex.invariant.shrinks w in
          let within : All (λ x. x < length ds) ws = λ i d l. let below = rows_in v i d l in omega arith in
          let lower_at : at c.lower.new.degrees w ≤ at ds w =
          subst (λ (r : List ℕ × List ℕ). at r.0 w ≤ at ds w) (sym e) (let x = lowered_at k ws ds st w within in omega arith) in
          let down = before.1 in
          ((λ h. before.0 (still alive v w h)), omega arith);
      peeling = λ f g nb start.
          let before = subst (λ xs. IsPeeling f g n (neighbor_row rows) alive ds cores xs k) popped
          (c.loop-vertex.invariant.peeling f g nb start) in
          subst (λ (r : List ℕ × List ℕ). IsPeeling f g n (neighbor_row rows) (set alive v false) r.0 (set cores v k) r.1 k) (sym e)
          (take_out f g n (neighbor_row rows) nb rows_in alive ds cores st k v (omega arith) (omega arith)
          (omega arith) v_lt before c.if-alive-place.true);
    }

pub loop-vertex-preserved : goal.loop-vertex-preserved
loop-vertex-preserved c =
    let n = length c.args.cores.now in
    let rows = c.args.rows.now in
    let st = c.pop.new.self.items in
    let v = c.in-Some.vertex in
    let k = c.args.k in
    let popped : c.loop-vertex.stack.items ≡ st ++ v ∷ [] = c.in-Some.ensures.items in
    record {
      within = front_low st v (λ w. w < n) (subst (All (λ w. w < n)) popped c.loop-vertex.invariant.within);
      shrinks = c.loop-vertex.invariant.shrinks;
      peeling = λ f g nb start.
          skip f g n (neighbor_row rows) nb
          (λ u. row_within n rows.starts.items rows.ends.items u c.requires.rows.within) c.loop-vertex.alive
          c.loop-vertex.degrees c.loop-vertex.cores st k v
          (subst (λ xs. IsPeeling f g n (neighbor_row rows) c.loop-vertex.alive c.loop-vertex.degrees c.loop-vertex.cores xs k) popped
          (c.loop-vertex.invariant.peeling f g nb start)) c.if-alive-place.false;
    }
