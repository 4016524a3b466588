-- Take and Fill of several blocks.
use Rattle.std.proofs.Common.{◌≡◌, ◌≢◌, ℕ, ◌<◌, ◌==◌, true, false, List, [], ◌∷◌, ◌++◌, length, set, refl, sym, ap, ◌∙◌, arith}
use Rattle.std.proofs.lemmas.{Bool.{eq-eqb, or_parts, true≢false}, List.length-set}
use Rattle.std.proofs.lemmas.List.Elements.{All-head, All-tail, All-cons}
use Rattle.std.{proofs.Common.get_or-set_same, proofs.Common.get_or-set_other, specs.declared.option.Option.TheVariants.Some}
use Rattle.std.specs.{Prelude.{slice_get, All}, Option.option_and_then, List.flat_map}
use Rattle.graph_types.specs.declared.ids.Edge.{Edge}
use Rattle.edge_block.specs.Slots.{BlockView}
use Rattle.graph_version.specs.{Rows.numbers_of, Edges.edges_in_block, Edges.edges_in_blocks}
use Rattle.block_reclamation.specs.{Status.is_among, declared.status.BlockStatus.{BlockStatus, TheVariants.{Free, Granted}}}
use Rattle.graph_types.proofs.ListPlaces.{set_else, set_same}
use Rattle.block_pool.specs.Pools.{marked}
use Rattle.epoch_core.specs.{declared.events.Event.{Event, TheVariants.{Take, Fill}}, Blocks.all_differ}
use Rattle.epoch_core.specs.{Machine.{step, with_status, with_heap}, Versions.{edges_at, edges_of}, Worlds.World}
use Rattle.epoch_core.proofs.BlockSteps.{take_done, fill_done, differ_head, differ_tail}
use Rattle.store_steps.specs.Steps.{all_done, filling}

-- the heap with the edges of these blocks at their numbers
abbrev pub heap_with : List BlockView → List (List Edge) → List (List Edge)
heap_with [] heap = heap
heap_with (b ∷ bs) heap = heap_with bs (set heap b.number (edges_in_block b))

-- the world in which these blocks are granted and filled
abbrev pub filled_world : World → List BlockView → World
filled_world w bs = record w { status = marked (numbers_of bs) Granted w.status; heap = heap_with bs w.heap }

pub step_then : (e : Event) (es : List Event) (w next : World) → step w e ≡ Some next → all_done (e ∷ es) w ≡ all_done es next
step_then e es w next is = ap (option_and_then (all_done es)) is

-- the blocks of these numbers are all in this state
abbrev pub AllAre : BlockStatus → List BlockStatus → List BlockView → Type 0
AllAre s status bs = All (λ b. slice_get status b.number ≡ Some s) bs

still : (status : List BlockStatus) (s x : BlockStatus) (b : BlockView) (bs : List BlockView) → is_among b.number (numbers_of bs) ≡ false
    → AllAre s status bs → AllAre s (set status b.number x) bs
still status s x b [] apart all = λ k d h. absurd (omega arith)
still status s x b (c ∷ cs) apart all =
    let parts : ((c.number == b.number) ≡ false) × (is_among b.number (numbers_of cs) ≡ false) =
    or_parts (c.number == b.number) (is_among b.number (numbers_of cs)) apart in
    All-cons (λ y. slice_get (set status b.number x) y.number ≡ Some s) c cs
    (set_else status b.number c.number x (λ e. absurd (true≢false (sym (eq-eqb c.number b.number e) ∙ parts.0)))
    ∙ All-head (λ y. slice_get status y.number ≡ Some s) c cs all)
    (still status s x b cs parts.1 (All-tail (λ y. slice_get status y.number ≡ Some s) c cs all))

-- all Takes and Fills are done
pub fills_done : (bs : List BlockView) (rest : List Event) (w : World) → AllAre Free w.status bs
    → all_differ (numbers_of bs) ≡ true → all_done (flat_map filling bs ++ rest) w ≡ all_done rest (filled_world w bs)
fills_done [] rest w free apart = refl
fills_done (b ∷ bs) rest w free apart =
    let here : slice_get w.status b.number ≡ Some Free = All-head (λ y. slice_get w.status y.number ≡ Some Free) b bs free in
    let w1 : World = with_status w (set w.status b.number Granted) in
    let w2 : World = with_heap w1 (set w.heap b.number (edges_in_block b)) in
    step_then (Take b.number) (Fill b.number (edges_in_block b) ∷ (flat_map filling bs ++ rest)) w w1 (take_done w b.number here)
    ∙ step_then (Fill b.number (edges_in_block b)) (flat_map filling bs ++ rest) w1 w2
    (fill_done w1 b.number (edges_in_block b) (set_same w.status b.number Free Granted here)) ∙ fills_done bs rest w2
    (still w.status Free Granted b bs (differ_head b.number (numbers_of bs) apart) (All-tail (λ y. slice_get w.status y.number
    ≡ Some Free) b bs free))
    (differ_tail b.number (numbers_of bs) apart)

pub length-heap_with : (bs : List BlockView) (heap : List (List Edge)) → length (heap_with bs heap) ≡ length heap
length-heap_with [] heap = refl
length-heap_with (b ∷ bs) heap = length-heap_with bs (set heap b.number (edges_in_block b))
    ∙ length-set heap b.number (edges_in_block b)

-- other blocks keep their edges
pub heap_else : (bs : List BlockView) (heap : List (List Edge)) (n : ℕ) → is_among n (numbers_of bs) ≡ false
    → edges_at (heap_with bs heap) n ≡ edges_at heap n
heap_else [] heap n apart = refl
heap_else (b ∷ bs) heap n apart =
    let parts : ((b.number == n) ≡ false) × (is_among n (numbers_of bs) ≡ false) =
    or_parts (b.number == n) (is_among n (numbers_of bs)) apart in
    let ne : n ≢ b.number = λ e. absurd (true≢false (sym (eq-eqb b.number n (sym e)) ∙ parts.0)) in
    heap_else bs (set heap b.number (edges_in_block b)) n parts.1 ∙ rw get_or-set_other refl

-- these blocks have theirs
pub heap_here : (bs : List BlockView) (heap : List (List Edge)) → All (λ b. b.number < length heap) bs
    → all_differ (numbers_of bs) ≡ true → All (λ b. edges_at (heap_with bs heap) b.number ≡ edges_in_block b) bs
heap_here [] heap within apart = λ k d h. absurd (omega arith)
heap_here (b ∷ bs) heap within apart =
    let lt : b.number < length heap = All-head (λ y. y.number < length heap) b bs within in
    let heap1 : List (List Edge) = set heap b.number (edges_in_block b) in
    let len : length heap1 ≡ length heap = length-set heap b.number (edges_in_block b) in
    All-cons (λ y. edges_at (heap_with (b ∷ bs) heap) y.number ≡ edges_in_block y) b bs
    (heap_else bs heap1 b.number (differ_head b.number (numbers_of bs) apart) ∙ rw get_or-set_same refl)
    (heap_here bs heap1 (λ k d h. omega (arith, All-tail (λ y. y.number < length heap) b bs within k d h))
    (differ_tail b.number (numbers_of bs) apart))

-- a heap with the edges of blocks at their numbers has the edges of them all
pub edges_from : (heap : List (List Edge)) (bs : List BlockView) → All (λ b. edges_at heap b.number ≡ edges_in_block b) bs
    → edges_of heap (numbers_of bs) ≡ edges_in_blocks bs
edges_from heap [] all = refl
edges_from heap (b ∷ bs) all =
    let here : edges_at heap b.number ≡ edges_in_block b = All-head (λ y. edges_at heap y.number ≡ edges_in_block y) b bs all in
    let rest : edges_of heap (numbers_of bs) ≡ edges_in_blocks bs =
    edges_from heap bs (All-tail (λ y. edges_at heap y.number ≡ edges_in_block y) b bs all) in
    ap (λ es. es ++ edges_of heap (numbers_of bs)) here ∙ ap (λ es. edges_in_block b ++ es) rest
