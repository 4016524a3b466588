-- The edges of blocks that lead to a vertex: at most one of each block.
use Rattle.std.proofs.Common.{◌≡◌, ℕ, List, [], ◌∷◌, ◌++◌, map, refl, sym, ap, ap₂, ◌∙◌, inl, inr, Option, None, Some}
use Rattle.std.proofs.lemmas.{Bool.{cases_eq, eq-eqb, ne_eqb}, List.Elements.filter-append}
use Rattle.graph_types.specs.{Graph.Stamp, declared.ids.Edge.Edge}
use Rattle.edge_block.specs.Slots.{Slot, BlockView, IsBlock, AreDistinct, edges_in, edge_stamp, entry_in, stamp_at}
use Rattle.edge_block.specs.{Lending.{IsEdgeTo, lent_edge}, declared.blocks.EdgeRef.EdgeRef}
use Rattle.graph_version.specs.{Edges.{edge_from, edges_in_block, edges_in_blocks}, InEdges.{leads_into, edges_into}}
use Rattle.graph_version.specs.LentEdges.{lent_as_edge}

-- the edge of a block to a target that bears this, if any
abbrev edge_there : BlockView → ℕ → Option Stamp → List Edge
edge_there b target None = []
edge_there b target (Some stamp) = edge_from (record { kind = b.kind; source = b.source; target = target }, stamp) ∷ []

-- of slots with different targets the edge that a search finds leads there, and no other
slots_into : (b : BlockView) (target : ℕ) (slots : List (Option Slot)) → AreDistinct slots
    → edges_into target (map edge_from (map (entry_in b) (edges_in slots))) ≡ edge_there b target (stamp_at slots target)
slots_into b target [] distinct = refl
slots_into b target (None ∷ slots) distinct = slots_into b target slots distinct.1
slots_into b target (Some e ∷ slots) distinct =
    let rest = slots_into b target slots distinct.1 in
    elim (cases_eq target e.target) [
      | inl here ↦
          let none : stamp_at slots target ≡ None = distinct.0 target (rw (eq-eqb target e.target here) refl) in
          rw (eq-eqb target e.target here, eq-eqb e.target target (sym here))
          (ap₂ (λ n es. edge_from (record { kind = b.kind; source = b.source; target = n }, e.stamp) ∷ es) (sym here)
          (rest ∙ ap (edge_there b target) none))
      | inr ne ↦ rw (ne_eqb target e.target ne, ne_eqb e.target target (λ same. ne (sym same))) rest
    ]

-- of the first block comes what it bears there
first_into : (b : BlockView) (bs : List BlockView) (target : ℕ) (stamp : Option Stamp) → IsBlock b
    → stamp_at b.slots target ≡ stamp
    → edges_into target (edges_in_blocks (b ∷ bs)) ≡ edge_there b target stamp ++ edges_into target (edges_in_blocks bs)
first_into b bs target stamp is there =
    filter-append (leads_into target) (edges_in_block b) (edges_in_blocks bs)
    ∙ ap (λ es. es ++ edges_into target (edges_in_blocks bs))
    (slots_into b target b.slots is.distinct ∙ ap (edge_there b target) there)

module _ (blocks : List BlockView) (b : BlockView) (bs : List BlockView) (target : ℕ) (first : blocks ≡ b ∷ bs) (is : IsBlock b) where
  -- the first block's edge to the vertex, and those of the others
  pub found_into : (edge : EdgeRef) → IsEdgeTo b target edge
      → edges_into target (edges_in_blocks blocks)
      ≡ lent_as_edge b.source (lent_edge edge) ∷ edges_into target (edges_in_blocks bs)
  found_into edge there =
      ap (λ l. edges_into target (edges_in_blocks l)) first
      ∙ first_into b bs target (Some (edge_stamp edge.weight.now edge.first.now edge.recent.now)) is there.stands
      ∙ ap₂
      (λ kind to. lent_as_edge b.source (record { kind = kind; target = to; stamp = (lent_edge edge).stamp })
      ∷ edges_into target (edges_in_blocks bs)) (sym there.of_kind) (sym there.to_target)

  -- where it has none, those of the others alone
  pub none_into : stamp_at b.slots target ≡ None
      → edges_into target (edges_in_blocks blocks) ≡ edges_into target (edges_in_blocks bs)
  none_into none = ap (λ l. edges_into target (edges_in_blocks l)) first ∙ first_into b bs target None is none
