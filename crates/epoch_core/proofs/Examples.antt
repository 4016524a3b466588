-- Small runs, computed.
use Rattle.std.proofs.Common.{◌≡◌, ℕ, true, false, cond, not, List, [], ◌∷◌, refl, sym, ap, ◌∙◌, arith, pos, negsuc, length}
use Rattle.std.{proofs.lemmas.Grind.common_steps, specs.Ordering.eq_by_cmp, specs.declared.option.Option.TheVariants.{None, Some}}
use Rattle.std.specs.{Prelude.ℤ, FinMap.{FinMap, get, insert, empty, get-empty, get-insert, same_map}}
use Rattle.block_reclamation.specs.{Board.{with_pin, no_pins}, Copies.{pin_at, unsettled}}
use Rattle.graph_types.specs.Limits.{standard_limits, weight_limit, is_weight}
use Rattle.graph_types.specs.{Graph.{Graph, Key, Stamp, key_cmp}, Step.{after_all, set_at, stamp_after}}
use Rattle.graph_types.specs.declared.{batches.NamedOp.NamedOp, changes.EdgeChange.TheVariants.{Insert, Incr}}
use Rattle.graph_types.proofs.Keys.{keys_total, exact_keys, once_none}
use Rattle.graph_types.proofs.EdgeMaps.{once_one}
use Rattle.epoch_core.specs.declared.events.Event.{Event, TheVariants.{Release, Take, Fill, Post, Floor, Pin, Enter, Settle, Ask}}
use Rattle.epoch_core.specs.{declared.events.Event.TheVariants.{Read, Reply}, Posting.{can_post, are_edges_of}, Worlds.World}
use Rattle.epoch_core.specs.{Worlds.{empty_opening, start_world}, Runs.run, Holdings.{Holding, holdings_of, observations}}
use Rattle.epoch_core.specs.Examples.{AreExamples, name_a, name_b, kind_k, one_insertion, add_to_edge, example_edge, ask_edge}
use Rattle.epoch_core.specs.Examples.{short_batches, long_batches, of_short, of_long}
use Rattle.epoch_core.{specs.Posts.posted, specs.Versions.left, proofs.Edges.Decides-edges}
use Rattle.epoch_core.specs.Worlds.{seat_pin, session_of}

-- The graph of one edge, and what batches make of it

abbrev key : Key
key = record { kind = 0; source = 0; target = 1 }

abbrev stamp : ℤ → ℕ → ℕ → Stamp
stamp weight first recent = record { weight = weight; first = first; recent = recent }

abbrev nothing : FinMap key_cmp Stamp
nothing = empty

abbrev one_edge : Stamp → FinMap key_cmp Stamp
one_edge s = insert nothing key s

abbrev with_edges : FinMap key_cmp Stamp → Graph
with_edges edges = record { names = name_a ∷ name_b ∷ []; kinds = kind_k ∷ []; edges = edges; limits = standard_limits }

abbrev graph_of_edge : Stamp → Graph
graph_of_edge s = with_edges (one_edge s)

-- an edge put where there is none
first_graph : (weight : ℤ) (time : ℕ) → is_weight weight ≡ true
    → left empty_opening (one_insertion weight time ∷ []) ≡ graph_of_edge (stamp weight time time)
first_graph weight time fits =
    ap (λ o. with_edges (set_at nothing key (stamp_after (Insert weight time weight_limit) o))) (get-empty key_cmp key)
    ∙ ap (λ b. with_edges (set_at nothing key (cond (not b) None (Some (stamp weight time time))))) fits

stands : (s : Stamp) → get (one_edge s) key ≡ Some s
stands s = get-insert keys_total nothing key s key

put_twice : (s t : Stamp) (q : Key) → get (insert (one_edge s) key t) q ≡ get (one_edge t) q
put_twice s t q =
    get-insert keys_total (one_edge s) key t q ∙ ap (cond (eq_by_cmp key_cmp q key) (Some t))
    (get-insert keys_total nothing key s q)
    ∙ elim (eq_by_cmp key_cmp q key) as (λ b. cond b (Some t) (cond b (Some s) (get nothing q))
    ≡ cond b (Some t) (get nothing q)) [ true ↦ refl | false ↦ refl ] ∙ sym (get-insert keys_total empty key t q)

put_again : (s t : Stamp) → insert (one_edge s) key t ≡ one_edge t
put_again s t = same_map keys_total exact_keys _ _ (put_twice s t)

-- an increment adds to the weight
add_over : after_all (add_to_edge (negsuc 5) 1) (graph_of_edge (stamp (pos 7) 1 1)) ≡ graph_of_edge (stamp (pos 1) 1 1)
add_over =
    ap (λ o. with_edges (set_at (one_edge (stamp (pos 7) 1 1)) key (stamp_after (Incr (negsuc 5) 1 weight_limit) o)))
    (stands (stamp (pos 7) 1 1)) ∙ ap with_edges (put_again (stamp (pos 7) 1 1) (stamp (pos 1) 1 1))

long_graph : left empty_opening long_batches ≡ graph_of_edge (stamp (pos 1) 1 1)
long_graph = ap (after_all (add_to_edge (negsuc 5) 1)) (first_graph (pos 7) 1 refl) ∙ add_over

-- Posts that are done

shows_one : (g : Graph) (weight : ℤ) (time : ℕ) → g ≡ graph_of_edge (stamp weight time time)
    → are_edges_of g (example_edge weight time) ≡ true
shows_one g weight time is = (Decides-edges g (example_edge weight time)).1
    (record { once = once_one _; same = ap (λ h. h.edges) (sym is) })

-- no edges are once each the edges of the graph without edges
pub shows_none : are_edges_of (left empty_opening []) [] ≡ true
shows_none = (Decides-edges (left empty_opening []) []).1 (record { once = once_none; same = refl })

sees : (s : ℕ) (w : World) (batch : List NamedOp) (blocks : List ℕ) (rest : List Event)
    → can_post w.opening w.heap w.status w.versions batch blocks ≡ true → observations s w (Post batch blocks ∷ rest)
    ≡ observations s (posted w batch blocks) rest
sees s w batch blocks rest can = grind (arith, common_steps)

-- The short run

abbrev short_fill : World
short_fill = run (Take 0 ∷ Fill 0 (example_edge (pos 1) 1) ∷ []) (start_world 1 1)

abbrev short_rest : List Event
short_rest = Pin 0 ∷ Enter 0 ∷ Ask 0 ask_edge ∷ Read 0 ∷ Reply 0 ∷ []

short_holdings : of_short ≡ record { graph = left empty_opening short_batches; answered = ask_edge ∷ [] } ∷ []
short_holdings = ap holdings_of (sees 0 short_fill (one_insertion (pos 1) 1) (0 ∷ []) short_rest
    (shows_one _ (pos 1) 1 (first_graph (pos 1) 1 refl)))

-- The long run

abbrev long_fill : World
long_fill = run (Take 1 ∷ Fill 1 (example_edge (pos 7) 1) ∷ []) (posted (start_world 2 3) [] [])

abbrev long_more : World
long_more = run (Pin 1 ∷ Take 2 ∷ Fill 2 (example_edge (pos 1) 1) ∷ []) (posted long_fill (one_insertion (pos 7) 1) (1 ∷ []))

abbrev long_rest : List Event
long_rest = Enter 1 ∷ Pin 0 ∷ Enter 0 ∷ Settle 0 ∷ Floor ∷ Ask 0 ask_edge ∷ Read 0 ∷ Reply 0 ∷ Release 0 ∷ []

abbrev long_after : List Event
long_after = Pin 1 ∷ Take 2 ∷ Fill 2 (example_edge (pos 1) 1) ∷ Post (add_to_edge (negsuc 5) 1) (2 ∷ []) ∷ long_rest

long_holdings : of_long ≡ record { graph = left empty_opening long_batches; answered = ask_edge ∷ [] } ∷ []
long_holdings =
    ap holdings_of (sees 0 (start_world 2 3) [] [] (Take 1 ∷ Fill 1 (example_edge (pos 7) 1) ∷ Post (one_insertion (pos 7) 1) (1 ∷ [])
    ∷ long_after) shows_none)
    ∙ ap holdings_of (sees 0 long_fill (one_insertion (pos 7) 1) (1 ∷ []) long_after (shows_one _ (pos 7) 1 (first_graph (pos 7) 1 refl)))
    ∙ ap holdings_of (sees 0 long_more (add_to_edge (negsuc 5) 1) (2 ∷ []) long_rest (shows_one _ (pos 1) 1 long_graph))

abbrev held_with : Graph → List Holding
held_with g = record { graph = g; answered = ask_edge ∷ [] } ∷ []

two_worlds_agree : of_short ≡ of_long
two_worlds_agree = short_holdings ∙ ap held_with (first_graph (pos 1) 1 refl ∙ sym long_graph) ∙ sym long_holdings

-- the names in the graph of the first holding
abbrev names_held : List Holding → List (List ℕ)
names_held [] = []
names_held (h ∷ held) = h.graph.names

other_names : held_with (left empty_opening short_batches) ≡ record { graph = left empty_opening []; answered = [] } ∷ [] → ⊥
other_names agree = let no : name_a ∷ name_b ∷ [] ≡ [] = ap names_held agree in cc

pub are_examples : AreExamples
are_examples = record {
  short = short_holdings;
  long = long_holdings;
  twice = refl;
  agree = two_worlds_agree;
  other_count = λ agree. let no : 2 ≡ 1 = ap length agree in omega (arith, no);
  other_graph = λ agree. other_names (sym short_holdings ∙ agree);
  blocks = refl;
}

pub pin_shown : (s : ℕ) → seat_pin (session_of (run (Pin 0 ∷ []) (start_world 1 3)) s)
    ≡ pin_at (with_pin no_pins 0 (Some (unsettled 0))).pins s
pin_shown s = grind (arith, common_steps)
