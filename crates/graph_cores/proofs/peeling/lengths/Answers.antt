use Rattle.std.proofs.Common.{◌≡◌, ◌++◌, ◌∷◌, [], arith, length, ◌∙◌, sym, ap, inl, inr}
use Rattle.std.proofs.lemmas.{Bool.cases_lt, List.get_or_append_left, List.get_or_at, List.length-append}
use Rattle.graph_types.specs.Arcs.{at}
use Rattle.graph_cores.specs.Rows.{neighbor_row}
use Rattle.graph_cores.proofs.peeling.lengths.Goals as goal

pub loop-vertex-preserved : goal.loop-vertex-preserved
loop-vertex-preserved c =
    let rows = c.args.rows.now in
    let i = c.loop-vertex.vertex in
    let old = c.loop-vertex.degrees.items in
    let x = length c.of.result.now in
    let e : x ≡ length (neighbor_row rows i) = ap length c.of.ensures in
    let new : c.push.new.self.items ≡ old ++ x ∷ [] = c.in_ok-push.ensures.items in
    let long = c.loop-vertex.invariant.long in
    record {
      long = ap length new ∙ length-append old (x ∷ []) ∙ omega arith;
      each = λ v lt. elim (cases_lt v i) [
        | inl below ↦ ap (λ xs. at xs v) new ∙ get_or_append_left old (x ∷ []) 0 v (omega arith)
            ∙ c.loop-vertex.invariant.each v below
        | inr ge ↦
            let here : v ≡ i = omega arith in
            ap (λ xs. at xs v) new ∙ get_or_at old x [] 0 v (omega arith) ∙ e ∙ ap (λ w. length (neighbor_row rows w)) (sym here)
      ];
    }
