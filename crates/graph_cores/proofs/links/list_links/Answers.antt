use Rattle.std.{proofs.Common.{ℕ, List, length, subst, sym, arith}, specs.{Prelude.◌↔◌, List.Contains}}
use Rattle.graph_types.specs.Analyses.{LeadsTo}
use Rattle.graph_cores.{specs.Peel.both_ways, proofs.{Placing.within_one, LinkSteps.{links_more, links_all, links_within}}}
use Rattle.graph_cores.proofs.links.list_links.Goals as goal

pub loop-vertex-preserved : goal.loop-vertex-preserved
loop-vertex-preserved g c =
    let f = g.E.ViewEdges.filter c.args.edges.now in
    let gr = g.E.ViewEdges.graph c.args.edges.now in
    let told : (b : ℕ) → Contains c.deref.result.now b ↔ LeadsTo f gr c.loop-vertex.vertex b =
    subst (λ (xs : List ℕ). (b : ℕ) → Contains xs b ↔ LeadsTo f gr c.loop-vertex.vertex b)
    (sym c.deref.ensures.value) c.in_ok-list_targets.ensures in
    links_more f gr c.loop-vertex.vertex (both_ways c.loop-vertex.links.items) (both_ways c.link.new.links.items)
    c.deref.result.now c.loop-vertex.invariant told c.in_ok-link.ensures

pub returns : goal.returns
returns g c =
    let f = g.E.ViewEdges.filter c.args.edges.now in
    let gr = g.E.ViewEdges.graph c.args.edges.now in
    let links = both_ways c.loop-vertex.links.items in
    let is = c.vertex_count-vertex-end.ensures.is in
    let within = c.vertex_count-vertex-end.ensures.within in
    let exact = links_all f gr (length gr.names) links within c.loop-vertex.vertex
    (omega arith) c.loop-vertex.invariant in
    let ends = links_within f gr (length gr.names) links within exact in
    record { exact = exact; within = within_one (length gr.names) c.loop-vertex.links.items ends; ends = ends }
