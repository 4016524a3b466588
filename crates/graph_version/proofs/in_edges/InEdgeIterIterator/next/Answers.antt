use Rattle.std.proofs.{Common.{◌≡◌, ◌∙◌, ◌∷◌, ℕ, List, ap, sym, arith}, lemmas.Grind.common_steps}
use Rattle.graph_types.specs.declared.ids.Edge.{Edge}
use Rattle.edge_block.specs.{Slots.{BlockView, IsBlock}, Lending.{IsEdgeTo, lent_edge}, declared.blocks.EdgeRef.EdgeRef}
use Rattle.graph_version.specs.{Edges.edges_in_blocks, InEdges.{edges_into, into_left}, LentEdges.{blocks_left, lent_as_edge}}
use Rattle.graph_version.specs.declared.in_edges.InEdgeIter.{InEdgeIter}
use Rattle.graph_version.proofs.Into.{found_into, none_into}
use Rattle.graph_version.proofs.in_edges.InEdgeIterIterator.next.Goals as goal

-- the edge of the next block comes first
first_left : (it : InEdgeIter) (b : BlockView) (left : List BlockView) (lent : EdgeRef) (source : ℕ) (edge : Edge)
    → blocks_left it.blocks ≡ b ∷ left → IsBlock b → IsEdgeTo b it.target.0 lent → source ≡ b.source
    → edge ≡ lent_as_edge source (lent_edge lent) → into_left it ≡ edge ∷ edges_into it.target.0 (edges_in_blocks left)
first_left it b left lent source edge first is there from same =
    found_into (blocks_left it.blocks) b left it.target.0 first is lent there
    ∙ ap (λ e. e ∷ edges_into it.target.0 (edges_in_blocks left))
    (ap (λ n. lent_as_edge n (lent_edge lent)) (sym from) ∙ sym same)

pub returns-in-Some-clause-steps : goal.returns-in-Some-clause-steps
returns-in-Some-clause-steps c =
    sym c.loop-block.invariant
    ∙ first_left c.loop-block.self c.in_ok-block.block.now (blocks_left c.next.new.self) c.in-Some.edge c.source.result.0
    c.sourced.result c.in_ok-block.ensures.steps c.find.ensures.block c.in-Some.ensures.edge c.source.ensures c.sourced.ensures

pub returns-in-Some-clause-goes : goal.returns-in-Some-clause-goes
returns-in-Some-clause-goes c =
    let steps = sym c.loop-block.invariant
    ∙ first_left c.loop-block.self c.in_ok-block.block.now (blocks_left c.next.new.self) c.in-Some.edge c.source.result.0
    c.sourced.result c.in_ok-block.ensures.steps c.find.ensures.block c.in-Some.ensures.edge c.source.ensures c.sourced.ensures in
    grind (arith, common_steps, steps)

pub loop-block-preserved : goal.loop-block-preserved
loop-block-preserved c =
    sym (none_into (blocks_left c.loop-block.self.blocks) c.in_ok-block.block.now (blocks_left c.next.new.self)
    c.loop-block.self.target.0 c.in_ok-block.ensures.steps c.find.ensures.block c.in_default.ensures.edge)
    ∙ c.loop-block.invariant
