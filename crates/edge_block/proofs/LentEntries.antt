-- What a filter that takes all lends of a block, and whose edges these are.
use Rattle.std.proofs.Common.{◌≡◌, ◌-◌, ◌^◌, true, List, [], ◌∷◌, map, Some, None, All, Option, refl, sym, ap, arith, ℕ, Bool}
use Rattle.std.proofs.lemmas.{Bool.le-leb, Grind.common_steps, List.Elements.{All-tail, All-head}}
use Rattle.std.specs.{List.Contains, Prelude.filter}
use Rattle.std.specs.{List.list_any, Prelude.nat_le}
use Rattle.std.proofs.{Common.{◌==◌, inl, inr}, lemmas.Bool.{false≢true, and_from, or_cases, or_left, eq-eqb, or_right}}
use Rattle.graph_types.specs.{Graph.{Key, Stamp}, View.in_view, declared.ids.Filter.Filter}
use Rattle.graph_types.specs.declared.ids.Edge.{Edge}
use Rattle.graph_types.proofs.{Arcs.map_contains, Searches.kept}
use Rattle.edge_block.specs.{Lending.lent_of, Slots.{IsStamp, BlockView, Slot, IsSlot, entry_in, edges_in, IsBlock, entries_of}}
use Rattle.edge_block.specs.{Lending.LentEdge, Slots.holds}
use Rattle.edge_block.proofs.SlotLaws.{target_of_edge}

-- the filter names no kind, and its window has all times
pub record TakesAll (f : Filter) : Type 0 where
  pub kind : f.kind ≡ None
  pub from : f.lo ≡ 0
  pub to : f.hi ≡ 2 ^ 64 - 1

passes : (f : Filter) (e : Key × Stamp) → TakesAll f → IsStamp e.1 → in_view f e ≡ true
passes f e takes is = grind (arith, common_steps, le-leb)

all_pass : (b : BlockView) (f : Filter) (slots : List (Option Slot)) → TakesAll f → All IsSlot slots
    → filter (in_view f) (map (entry_in b) (edges_in slots)) ≡ map (entry_in b) (edges_in slots)
all_pass b f [] takes is = refl
all_pass b f (None ∷ slots) takes is = all_pass b f slots takes (All-tail IsSlot None slots is)
all_pass b f (Some e ∷ slots) takes is =
    kept (in_view f) (entry_in b e) (map (entry_in b) (edges_in slots)) _
    (passes f (entry_in b e) takes (All-head IsSlot (Some e) slots is))
    (all_pass b f slots takes (All-tail IsSlot (Some e) slots is))

-- such a filter leaves out no edge of a block
pub all_lent : (b : BlockView) (f : Filter) → TakesAll f → IsBlock b
    → map lent_of (filter (in_view f) (entries_of b)) ≡ map lent_of (entries_of b)
all_lent b f takes is = ap (map lent_of) (all_pass b f b.slots takes is.stamped)

-- the entries of a block are of its source
pub of_source : (b : BlockView) (e : Key × Stamp) → Contains (entries_of b) e → e.0.source ≡ b.source
of_source b e c = let r = map_contains (entry_in b) (edges_in b.slots) e c in ap (λ (x : Key × Stamp). x.0.source) (sym r.2)

-- whether one of these lent edges is one to the target
abbrev pub lends : ℕ → List LentEdge → Bool
lends t edges = list_any (λ l. l.target == t) edges

-- a view of every edge lends an edge to each of the targets
pub lent_target : (b : BlockView) (slots : List (Option Slot)) (t : ℕ) → All IsSlot slots → list_any (holds t) slots ≡ true
    → lends t (map lent_of (filter (in_view (record { kind = None; lo = 0; hi = 2 ^ 64 - 1 }))
    (map (entry_in b) (edges_in slots)))) ≡ true
lent_target b [] t all h = absurd (false≢true h)
lent_target b (None ∷ slots) t all h = lent_target b slots t (All-tail IsSlot None slots all) h
lent_target b (Some e ∷ slots) t all h =
    let every : Filter = record { kind = None; lo = 0; hi = 2 ^ 64 - 1 } in
    let here : IsSlot (Some e) = All-head IsSlot (Some e) slots all in
    let rest : List LentEdge = map lent_of (filter (in_view every) (map (entry_in b) (edges_in slots))) in
    let seen : in_view every (entry_in b e) ≡ true =
    and_from (nat_le 0 e.stamp.recent) (nat_le e.stamp.recent (2 ^ 64 - 1)) (le-leb 0 e.stamp.recent (omega arith))
    (le-leb e.stamp.recent (2 ^ 64 - 1) (omega (arith, here.2))) in
    rw seen (elim (or_cases (holds t (Some e)) (list_any (holds t) slots) h) [
      | inl is ↦ or_left (e.target == t) (lends t rest) (eq-eqb e.target t (sym (target_of_edge e t is)))
      | inr later ↦ or_right (e.target == t) (lends t rest) (lent_target b slots t (All-tail IsSlot (Some e) slots all) later)
    ])

-- a lent edge with its source, and several of one source
abbrev pub edge_lent : ℕ → LentEdge → Edge
edge_lent source l =
    record {
      kind = record { 0 = l.kind };
      source = record { 0 = source };
      target = record { 0 = l.target };
      weight = l.stamp.weight;
      first = l.stamp.first;
      recent = l.stamp.recent;
    }

abbrev pub edges_lent : ℕ → List LentEdge → List Edge
edges_lent source ls = map (edge_lent source) ls
