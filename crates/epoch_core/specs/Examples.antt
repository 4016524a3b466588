-- Small runs, written out by the rules of the events: what a session holds in them, when two agree, and what a Post
-- makes of blocks.
use Rattle.std.specs.Prelude.{◌≡◌, ◌≢◌, ℤ, pos, negsuc, ℕ, List, [], ◌∷◌}
use Rattle.graph_types.specs.declared.{ids.Edge.Edge, requests.Request.Request, requests.Request.TheVariants.OneEdge}
use Rattle.graph_types.specs.declared.batches.NamedOp.{NamedOp, TheVariants.Insert, TheVariants.Incr}
use Rattle.block_reclamation.specs.declared.status.BlockStatus.TheVariants.{Free, Granted, Used, Retired}
use Rattle.epoch_core.specs.{declared.events.Event.Event, Blocks.status_after, Holdings.Holding, Holdings.holdings}
use Rattle.epoch_core.specs.declared.events.Event.TheVariants.{Take, Fill, Post, Floor, Pin, Enter, Settle, Ask, Read, Reply}
use Rattle.epoch_core.specs.{declared.events.Event.TheVariants.Release, Worlds.empty_opening, Worlds.start_world, Versions.left}

-- one edge from a to b of kind k

abbrev pub name_a : List ℕ
name_a = 97 ∷ []

abbrev pub name_b : List ℕ
name_b = 98 ∷ []

abbrev pub kind_k : List ℕ
kind_k = 107 ∷ []

abbrev pub one_insertion : ℤ → ℕ → List NamedOp
one_insertion weight time = Insert kind_k name_a name_b weight time ∷ []

abbrev pub add_to_edge : ℤ → ℕ → List NamedOp
add_to_edge amount time = Incr kind_k name_a name_b amount time ∷ []

abbrev pub example_edge : ℤ → ℕ → List Edge
example_edge weight time =
    record {
      kind = record { 0 = 0 };
      source = record { 0 = 0 };
      target = record { 0 = 1 };
      weight = weight;
      first = time;
      recent = time;
    } ∷ []

abbrev pub ask_edge : Request
ask_edge = OneEdge kind_k name_a name_b

-- a machine with one session and one block: the edge by one batch
abbrev pub short_batches : List (List NamedOp)
short_batches = one_insertion (pos 1) 1 ∷ []

abbrev pub short_run : List Event
short_run =
    Take 0 ∷ Fill 0 (example_edge (pos 1) 1) ∷ Post (one_insertion (pos 1) 1) (0 ∷ [])
    ∷ Pin 0 ∷ Enter 0 ∷ Ask 0 ask_edge ∷ Read 0 ∷ Reply 0 ∷ []

-- a machine with two sessions and three blocks: the same edge by three batches, as version 3
abbrev pub long_batches : List (List NamedOp)
long_batches = [] ∷ one_insertion (pos 7) 1 ∷ add_to_edge (negsuc 5) 1 ∷ []

abbrev pub long_run : List Event
long_run =
    Post [] [] ∷ Take 1 ∷ Fill 1 (example_edge (pos 7) 1) ∷ Post (one_insertion (pos 7) 1) (1 ∷ [])
    ∷ Pin 1 ∷ Take 2 ∷ Fill 2 (example_edge (pos 1) 1) ∷ Post (add_to_edge (negsuc 5) 1) (2 ∷ [])
    ∷ Enter 1 ∷ Pin 0 ∷ Enter 0 ∷ Settle 0 ∷ Floor ∷ Ask 0 ask_edge ∷ Read 0 ∷ Reply 0 ∷ Release 0 ∷ []

abbrev pub of_short : List Holding
of_short = holdings 0 (start_world 1 1) short_run

abbrev pub of_long : List Holding
of_long = holdings 0 (start_world 2 3) long_run

-- session 0 holds the empty graph, is answered nothing, and holds it anew
abbrev pub of_twice : List Holding
of_twice = holdings 0 (start_world 1 1) (Pin 0 ∷ Enter 0 ∷ Enter 0 ∷ Release 0 ∷ Enter 0 ∷ Pin 0 ∷ Enter 0 ∷ [])

abbrev pub of_once : List Holding
of_once = holdings 0 (start_world 2 1) (Pin 1 ∷ Enter 1 ∷ Pin 0 ∷ Enter 0 ∷ [])

pub record AreExamples : Type 0 where
  -- what is held, and what was answered
  pub short : of_short ≡ record { graph = left empty_opening short_batches; answered = ask_edge ∷ [] } ∷ []
  pub long : of_long ≡ record { graph = left empty_opening long_batches; answered = ask_edge ∷ [] } ∷ []
  pub twice :
      of_twice ≡ record { graph = left empty_opening []; answered = [] }
      ∷ record { graph = left empty_opening []; answered = [] } ∷ []
  -- different batches leave equal graphs, and so these runs agree
  pub agree : of_short ≡ of_long
  -- these don't: in the number of holdings, and in the graph that is held
  pub other_count : of_twice ≢ of_once
  pub other_graph : of_short ≢ of_once
  -- a Post keeps the birth of a block that it lists, and lets a granted block that it doesn't list be granted
  pub blocks :
      status_after 3 (0 ∷ 1 ∷ []) (Used 1 ∷ Granted ∷ Used 2 ∷ Granted ∷ Free ∷ Retired 1 2 ∷ [])
      ≡ Used 1 ∷ Used 3 ∷ Retired 2 3 ∷ Granted ∷ Free ∷ Retired 1 2 ∷ []
