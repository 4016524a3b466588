-- A block has no edges exactly if all its slots are free.
use Rattle.std.proofs.Common.{◌≡◌, ◌≤◌, Bool, true, false, ◌↔◌, List, [], ◌∷◌, length, IsTrue, Some, None, Option, true≢false}
use Rattle.std.proofs.{Common.{refl, arith}, lemmas.{Bool.false≢true, Grind.common_steps}}
use Rattle.std.specs.List.{list_all, Contains}
use Rattle.graph_types.proofs.Counts.{Contains-first}
use Rattle.edge_block.specs.{Rows.{has_none, shape_of}, Slots.{Slot, is_free_slot, edges_in, BlockView}}

pub some_edges : (slots : List (Option Slot)) → list_all is_free_slot slots ≡ false → 1 ≤ length (edges_in slots)
some_edges [] is = cc
some_edges (None ∷ slots) is = some_edges slots is
some_edges (Some e ∷ slots) is = omega arith

free_all : (slots : List (Option Slot)) → edges_in slots ≡ [] → list_all is_free_slot slots ≡ true
free_all [] e = refl
free_all (None ∷ slots) e = free_all slots e
free_all (Some s ∷ slots) e = cc

all_free : (slots : List (Option Slot)) → list_all is_free_slot slots ≡ true → edges_in slots ≡ []
all_free [] e = refl
all_free (None ∷ slots) e = all_free slots e
all_free (Some s ∷ slots) e = absurd (false≢true e)

pub bare_is : (r : Bool) (b : BlockView) → (IsTrue r ↔ (edges_in b.slots ≡ [])) → r ≡ has_none (shape_of b)
bare_is r b e = grind (arith, common_steps, free_all, all_free)

-- slots that are not all free have an edge
pub some_edge : (slots : List (Option Slot)) → list_all is_free_slot slots ≡ false → (e : Slot) × Contains (edges_in slots) e
some_edge [] none = absurd (true≢false none)
some_edge (None ∷ slots) some = some_edge slots some
some_edge (Some e ∷ slots) some = (e, Contains-first e (edges_in slots) e refl)
