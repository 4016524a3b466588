use Rattle.std.proofs.Common.{◌≡◌, ◌∙◌, ◌<◌, List, ℤ, length, ap, sym, arith, pos, subst, w64}
use Rattle.std.proofs.lemmas.{Int.to_z-of_z, List.length-replicate}
use Rattle.graph_types.specs.declared.ids.Edge.{Edge}
use Rattle.graph_version.specs.{Edges.AreEachOnce, LentEdges.edges_to_come, Versions.content}
use Rattle.graph_walks.specs.ByTarget.{edges_of_version}
use Rattle.version_columns.proofs.WeightSums.{none_added, none_more, one_more, has_room, all_added}
use Rattle.version_columns.proofs.weights.add_weights.Goals as goal

pub loop-edge-init : goal.loop-edge-init
loop-edge-init c =
    none_added c.args.view.now (edges_of_version c.args.version.now) (edges_to_come c.into_iter-edge-iterator.result)
    (length (content c.args.version.now).names) c.args.weights.now
    (ap edges_to_come c.into_iter-edge-iterator.ensures.into_iter_gives ∙ c.edges-edge-items.ensures.edges) c.requires.none

pub add_weight-requires-clause-there : goal.add_weight-requires-clause-there
add_weight-requires-clause-there c =
    let n = length (content c.args.version.now).names in
    let long : length c.loop-edge.weights ≡ n = c.loop-edge.auto.weights ∙ ap length c.requires.none ∙ length-replicate n (pos 0) in
    let now = has_room c.args.version.now c.requires.version c.args.view.now (edges_to_come c.loop-edge.edge-iterator)
    (edges_to_come c.next.new.self) c.in-Some.edge c.loop-edge.weights c.in-Some.ensures.steps (sym c.passes.ensures ∙ c.if-passes.true) long
    c.loop-edge.invariant in
    omega (arith, now.there, long)

pub add_weight-requires-clause-room : goal.add_weight-requires-clause-room
add_weight-requires-clause-room c =
    let n = length (content c.args.version.now).names in
    let long : length c.loop-edge.weights ≡ n = c.loop-edge.auto.weights ∙ ap length c.requires.none ∙ length-replicate n (pos 0) in
    let now = has_room c.args.version.now c.requires.version c.args.view.now (edges_to_come c.loop-edge.edge-iterator)
    (edges_to_come c.next.new.self) c.in-Some.edge c.loop-edge.weights c.in-Some.ensures.steps (sym c.passes.ensures ∙ c.if-passes.true) long
    c.loop-edge.invariant in
    rw (to_z-of_z w64 c.in-Some.edge.weight now.word) now.room

pub loop-edge-preserved-then-passes : goal.loop-edge-preserved-then-passes
loop-edge-preserved-then-passes c =
    let n = length (content c.args.version.now).names in
    let f = c.args.view.now in
    let all : List Edge = edges_of_version c.args.version.now in
    let left : List Edge = edges_to_come c.loop-edge.edge-iterator in
    let rest : List Edge = edges_to_come c.next.new.self in
    let old : List ℤ = c.loop-edge.weights in
    let e = c.in-Some.edge in
    let long : length old ≡ n = c.loop-edge.auto.weights ∙ ap length c.requires.none ∙ length-replicate n (pos 0) in
    let shown = sym c.passes.ensures ∙ c.if-passes.true in
    let now = has_room c.args.version.now c.requires.version f left rest e old c.in-Some.ensures.steps shown long c.loop-edge.invariant in
    let there : e.target.0 < length old = omega (arith, now.there, long) in
    let added = (rw (to_z-of_z w64 e.weight now.word) at c.add_weight.ensures) in
    one_more f all left rest e old c.add_weight.new.weights c.in-Some.ensures.steps shown there added c.loop-edge.invariant

pub loop-edge-preserved : goal.loop-edge-preserved
loop-edge-preserved c =
    none_more c.args.view.now (edges_of_version c.args.version.now) (edges_to_come c.loop-edge.edge-iterator)
    (edges_to_come c.next.new.self) c.in-Some.edge c.loop-edge.weights c.in-Some.ensures.steps (sym c.passes.ensures ∙ c.if-passes.false)
    c.loop-edge.invariant

pub returns : goal.returns
returns c =
    let n = length (content c.args.version.now).names in
    let long : length c.loop-edge.weights ≡ n = c.loop-edge.auto.weights ∙ ap length c.requires.none ∙ length-replicate n (pos 0) in
    let once : AreEachOnce (edges_of_version c.args.version.now) (content c.args.version.now) =
    subst (λ (es : List Edge). AreEachOnce es (content c.args.version.now)) c.edges-edge-items.ensures.edges c.edges-edge-items.ensures.each_once in
    all_added c.args.view.now (content c.args.version.now) (edges_of_version c.args.version.now) (edges_to_come c.loop-edge.edge-iterator)
    c.loop-edge.weights once long c.in-None.ensures.steps.0 c.loop-edge.invariant
