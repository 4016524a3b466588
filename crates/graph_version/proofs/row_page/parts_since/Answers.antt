use Rattle.std.proofs.{Common.{ℕ, List, subst, ap, ◌∙◌, arith, All}, lemmas.List.take_all}
use Rattle.std.specs.declared.{sync.Arc.Arc, alloc.Global.Global}
use Rattle.graph_types.proofs.Elements.{bounded_more}
use Rattle.edge_block.specs.Slots.{BlockView}
use Rattle.graph_version.specs.{Ages.AreSince, Parts.in_part, declared.row_page.Part.Part}
use Rattle.graph_version.proofs.Ages.{bounded_pieces, earlier_rows}
use Rattle.graph_version.proofs.row_page.parts_since.Goals as goal

pub loop-part-preserved : goal.loop-part-preserved
loop-part-preserved c =
    let u : ℕ = c.since.result in
    let least = c.min-since.ensures in
    bounded_more (λ (t : ℕ) (p : Arc Part Global). AreSince t (in_part p)) (λ s t p le all. earlier_rows s t (in_part p) le all)
    c.min-since.result c.loop-part.since u c.args.parts.now c.loop-part.part-index c.part-item.result c.loop-part-test.true
    (omega (arith, least)) (omega (arith, least)) c.loop-part.invariant
    (subst (λ (r : List (List BlockView)). AreSince u r) (c.deref.ensures ∙ ap in_part c.part-item.is) c.since.ensures)

pub returns : goal.returns
returns c =
    bounded_pieces in_part c.loop-part.since c.args.parts.now
    (subst (λ (l : List (Arc Part Global)). All (λ p. AreSince c.loop-part.since (in_part p)) l)
    (take_all c.loop-part.part-index c.args.parts.now (omega (arith, c.loop-part-test.false))) c.loop-part.invariant)
