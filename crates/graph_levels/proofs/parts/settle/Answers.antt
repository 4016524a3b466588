use Rattle.std.proofs.{Common.{◌≡◌, ◌<◌, arith, length, ◌∙◌, sym, ap, get_or, subst, inl, inr}, lemmas.Bool.cases_lt}
use Rattle.std.specs.Prelude.{All}
use Rattle.graph_types.specs.Analyses.{LeadsTo}
use Rattle.graph_types.proofs.Elements.{told, each_target}
use Rattle.graph_levels.{specs.Forest.{parent, Respects}, proofs.Walks.flat_trees}
use Rattle.graph_levels.proofs.parts.settle.Goals as goal

pub join_all-requires-clause-targets_within : goal.join_all-requires-clause-targets_within
join_all-requires-clause-targets_within g c =
    let f = g.R.ViewEdges.filter c.args.edges.now in
    let gr = g.R.ViewEdges.graph c.args.edges.now in
    let v = c.loop-vertex.vertex in
    let n = length c.loop-vertex.parents in
    let long : n ≡ length gr.names = c.loop-vertex.invariant.long in
    let all : All (LeadsTo f gr v) c.deref.result.now =
    told (LeadsTo f gr v) _ _ c.deref.ensures.value c.in_ok-list_targets.ensures in
    λ k d lt.
    let edge = all k d lt in
    let in' = c.vertex_count-vertex-end.ensures.within v (get_or c.deref.result.now k d) edge in
    subst (λ m. get_or c.deref.result.now k d < m) (sym long) in'.1

pub loop-vertex-preserved : goal.loop-vertex-preserved
loop-vertex-preserved g c =
    let f = g.R.ViewEdges.filter c.args.edges.now in
    let gr = g.R.ViewEdges.graph c.args.edges.now in
    let v = c.loop-vertex.vertex in
    let i = c.loop-vertex.invariant in
    let ts = c.deref.result.now in
    let all : All (LeadsTo f gr v) ts = told (LeadsTo f gr v) _ _ c.deref.ensures.value c.in_ok-list_targets.ensures in
    record {
      long = c.join_all.auto.parents ∙ i.long;
      forest = c.join_all.ensures.forest;
      sound = λ sound. c.join_all.ensures.sound f gr (i.sound sound) (λ k d lt. inl (all k d lt));
      agree = λ label new a b le edge.
          let step = c.join_all.ensures.coarser label new in
          elim (cases_lt a v) [
            | inl lt ↦ i.agree label step.0 a b lt edge
            | inr ge ↦
                let here : a ≡ v = omega arith in
                ap label here ∙ each_target (LeadsTo f gr v)
                (λ x. label v ≡ label x) ts _ c.deref.ensures.value c.in_ok-list_targets.ensures step.1 b
                (subst (λ x. LeadsTo f gr x b) here edge)
          ];
    }

pub returns : goal.returns
returns g c =
    let f = g.R.ViewEdges.filter c.args.edges.now in
    let gr = g.R.ViewEdges.graph c.args.edges.now in
    let i = c.loop-vertex.invariant in
    let ps = c.flatten.new.parents in
    let flat = c.flatten.ensures.flat in
    let own : Respects ps (parent ps) = λ v. sym (flat v) in
    record {
      labels = λ sound. flat_trees f gr (length gr.names) ps (c.flatten.auto.parents ∙ i.long) c.flatten.ensures.forest
          (c.flatten.ensures.sound f gr (i.sound sound)) flat
          (λ a b edge.
          let in' = c.vertex_count-vertex-end.ensures.within a b edge in
          i.agree (parent ps) (c.flatten.ensures.coarser (parent ps) own) a b
          (let lt = in'.0 in let is = c.vertex_count-vertex-end.ensures.is in omega arith) edge);
    }
