-- The opening.
use Rattle.std.proofs.Common.{◌≡◌, ◌≢◌, ℕ, ◌<◌, true, false, List, [], ◌∷◌, ◌++◌, length, replicate}
use Rattle.std.proofs.{Common.{refl, sym, ap, subst, ◌∙◌, arith, All, AllPairs}, lemmas.List.length-replicate}
use Rattle.std.proofs.lemmas.{List.Elements.{All-head, All-tail, All-cons}, Grind.common_steps}
use Rattle.std.specs.{Option.option_map, Prelude.{map, slice_get, slice_set, if◌then◌else◌}, List.flat_map}
use Rattle.std.specs.declared.option.Option.TheVariants.{Some}
use Rattle.block_pool.{proofs.Grants.length-marked, specs.Pools.marked, specs.Pools.is_used_at}
use Rattle.graph_types.specs.{Graph.{Graph, graph_in, content_of, IsContentIn, map_of}, Step.left_by, Limits.{LimitsView, AreLimits}}
use Rattle.graph_types.specs.declared.contents.Content.{Content}
use Rattle.graph_types.specs.declared.ids.Edge.{Edge}
use Rattle.edge_block.specs.Slots.{BlockView}
use Rattle.graph_version.specs.{Rows.{blocks_of, numbers_of}, Edges.{AreEachOnce, edges_in_block, edges_in_blocks}, Versions.VersionView}
use Rattle.graph_version.{specs.Versions.{content, empty_version_in}, proofs.{Empty.is_empty_version_in, Shown.rows_each_once}}
use Rattle.block_reclamation.specs.Status.{is_among, is_used, is_at}
use Rattle.block_reclamation.specs.declared.status.BlockStatus.{BlockStatus, TheVariants.Free, TheVariants.Used}
use Rattle.block_reclamation.proofs.{ListedNumbers.listed_below, OneStatus.{free_at, none_born, used_or_free}, SeatPins.no_pin}
use Rattle.graph_version.proofs.{ListedNumbers.within_blocks, Empty.content_alone}
use Rattle.epoch_core.specs.{Versions.{AreEdgesOf, edges_at, edges_of}, Worlds.{seat_pin, IsStart}}
use Rattle.epoch_core.specs.{declared.session_states.SessionState.TheVariants.Idle, Opened.{BlockLists, numbers_in, heap_with}}
use Rattle.epoch_core.{specs.Opened.{status_with, IsOpeningIn}, proofs.Steps.all_idle}
use Rattle.block_pool.proofs.Marked.{length-opened}
use Rattle.store_steps.{specs.Desks.IsDesk, specs.Shown.ShowsWorld, proofs.NumberLists.differ_from, proofs.ChangedLists.marked_at}
use Rattle.store_steps.specs.Opening.{opened_desk, opened_start, lists_of, IsVersionZero, OpensAsMachine, OpensBlank}
use Rattle.store_steps.proofs.Filling as filling

-- The pool

-- the numbers that are marked are those that are born
born_listed : (blocks : ℕ) (ns : List ℕ) → All (λ n. n < blocks) ns → (m : ℕ)
    → is_used_at (marked ns (Used 0) (replicate blocks Free)) m ≡ is_among m ns
born_listed blocks ns within m =
    ap (is_at is_used) (marked_at ns (Used 0) (replicate blocks Free) m)
    ∙ (elim (is_among m ns) as (λ t. is_among m ns ≡ t → is_at is_used (if t then option_map (λ _. Used 0)
    (slice_get (replicate blocks Free) m) else slice_get (replicate blocks Free) m) ≡ t) [
      | true ↦ λ is. ap (λ p. is_at is_used (option_map (λ _. Used 0) p))
          (free_at blocks m (listed_below blocks ns m within is))
      | false ↦ λ is. none_born blocks m
    ] refl)

pub opened_is_desk : (blocks : ℕ) (v : VersionView) → IsVersionZero blocks v → IsDesk (opened_desk blocks v)
opened_is_desk blocks v zero_is = grind (arith, common_steps, length-opened, born_listed)

-- The blocks, in the machine

abbrev pairs : List BlockView → BlockLists
pairs bs = map (λ b. (b.number, edges_in_block b)) bs

numbers_paired : (bs : List BlockView) → numbers_in (pairs bs) ≡ numbers_of bs
numbers_paired [] = refl
numbers_paired (b ∷ bs) = ap (λ ns. b.number ∷ ns) (numbers_paired bs)

edges_paired : (bs : List BlockView) → flat_map (λ l. l.1) (pairs bs) ≡ edges_in_blocks bs
edges_paired [] = refl
edges_paired (b ∷ bs) = ap (λ es. edges_in_block b ++ es) (edges_paired bs)

within_paired : (blocks : ℕ) (bs : List BlockView) → All (λ n. n < blocks) (numbers_of bs) → All (λ l. l.0 < blocks) (pairs bs)
within_paired blocks [] within = λ k d h. absurd (omega arith)
within_paired blocks (b ∷ bs) within =
    let In : ℕ × List Edge → Type 0 = λ l. l.0 < blocks in
    All-cons In (b.number, edges_in_block b) (pairs bs) (All-head (λ n. n < blocks) b.number (numbers_of bs) within)
    (within_paired blocks bs (All-tail (λ n. n < blocks) b.number (numbers_of bs) within))

-- the machine's heap and status after these lists
heap_paired : (bs : List BlockView) (heap : List (List Edge)) → heap_with (pairs bs) heap ≡ filling.heap_with bs heap
heap_paired [] heap = refl
heap_paired (b ∷ bs) heap = heap_paired bs (slice_set heap b.number (edges_in_block b))

status_paired : (bs : List BlockView) (status : List BlockStatus)
    → status_with (pairs bs) status ≡ marked (numbers_of bs) (Used 0) status
status_paired [] status = refl
status_paired (b ∷ bs) status = status_paired bs (slice_set status b.number (Used 0))

edges_opened : (blocks : ℕ) (bs : List BlockView) → All (λ n. n < blocks) (numbers_of bs) → AllPairs ◌≢◌ (numbers_of bs)
    → All (λ b. edges_at (heap_with (pairs bs) (replicate blocks [])) b.number ≡ edges_in_block b) bs
edges_opened blocks bs within apart =
    let blank : List (List Edge) = replicate blocks [] in
    let low : All (λ (b : BlockView). b.number < length blank) bs =
    subst (λ n. All (λ (b : BlockView). b.number < n) bs) (sym (length-replicate {A = List Edge} blocks []))
    (within_blocks blocks bs within) in
    subst (λ heap. All (λ (b : BlockView). edges_at heap b.number ≡ edges_in_block b) bs) (sym (heap_paired bs blank))
    (filling.heap_here bs blank low (differ_from (numbers_of bs) apart))

sizes_opened : (blocks : ℕ) (bs : List BlockView)
    → length (heap_with (pairs bs) (replicate blocks [])) ≡ length (status_with (pairs bs) (replicate blocks Free))
sizes_opened blocks bs =
    ap length (heap_paired bs (replicate blocks [])) ∙ filling.length-heap_with bs (replicate blocks [])
    ∙ length-replicate blocks [] ∙ sym (length-replicate blocks Free)
    ∙ sym (length-marked (numbers_of bs) (Used 0) (replicate blocks Free))
    ∙ sym (ap length (status_paired bs (replicate blocks Free)))

module _ (sessions blocks : ℕ) (v : VersionView) (c : Content) (zero_is : IsVersionZero blocks v)
    (same : graph_in v.opening.limits c ≡ v.opening) where
  abbrev bs : List BlockView
  bs = blocks_of v.rows

  abbrev heap : List (List Edge)
  heap = heap_with (pairs bs) (replicate blocks [])

  abbrev status : List BlockStatus
  status = status_with (pairs bs) (replicate blocks Free)

  apart : AllPairs ◌≢◌ (numbers_of bs)
  apart = zero_is.version.rows.numbers

  shown_edges : AreEdgesOf (edges_in_blocks bs) (graph_in v.opening.limits c)
  shown_edges = grind (arith, common_steps, rows_each_once, content_alone)

  is_opening : IsContentIn v.opening.limits c → IsOpeningIn v.opening.limits blocks c (lists_of v)
  is_opening is = record {
    content_is = is;
    within = within_paired blocks bs zero_is.within;
    different = subst (λ ns. AllPairs ◌≢◌ ns) (sym (numbers_paired bs)) apart;
    shown = subst (λ edges. AreEdgesOf edges (graph_in v.opening.limits c)) (sym (edges_paired bs)) shown_edges;
  }

  status_start : (b : ℕ) → b < blocks → slice_get status b ≡ Some (if is_among b (numbers_in (pairs bs)) then Used 0 else Free)
  status_start b low =
      ap (λ (xs : List BlockStatus). slice_get xs b) (status_paired bs (replicate blocks Free))
      ∙ marked_at (numbers_of bs) (Used 0) (replicate blocks Free) b
      ∙ ap (λ o. if is_among b (numbers_of bs) then option_map (λ _. Used 0) o else o) (free_at blocks b low)
      ∙ used_or_free (is_among b (numbers_of bs))
      ∙ ap (λ ns. Some (if is_among b ns then Used 0 else Free)) (sym (numbers_paired bs))

  long : length status ≡ blocks
  long = ap length (status_paired bs (replicate blocks Free)) ∙ length-marked (numbers_of bs) (Used 0) (replicate blocks Free)
      ∙ length-replicate blocks Free

  is_start : IsStart (opened_start sessions blocks c v)
  is_start = record {
    alone = refl;
    within = subst (λ n. All (λ b. b < n) (numbers_in (pairs bs))) (sym long)
        (subst (λ ns. All (λ b. b < blocks) ns) (sym (numbers_paired bs)) zero_is.within);
    different = subst (λ ns. AllPairs ◌≢◌ ns) (sym (numbers_paired bs)) apart;
    shown = subst (λ edges. AreEdgesOf edges (graph_in v.opening.limits c))
        (sym (ap (edges_of heap) (numbers_paired bs) ∙ filling.edges_from heap bs (edges_opened blocks bs zero_is.within apart)))
        shown_edges;
    status = λ b low. status_start b (omega (arith, low, long));
    heap = sizes_opened blocks bs;
    floor = refl;
    copy = refl;
    idle = ap (λ n. replicate n Idle) (sym (length-replicate sessions Idle));
    replies = ap (λ n. replicate n []) (sym (length-replicate sessions Idle));
  }

  is_shown : ShowsWorld (opened_desk blocks v) (opened_start sessions blocks c v).world
  is_shown = record {
    opening = same;
    opened = numbers_paired bs;
    batches = sym zero_is.alone;
    blocks = numbers_paired bs;
    edges = edges_opened blocks bs zero_is.within apart;
    status = status_paired bs (replicate blocks Free);
    sizes = sizes_opened blocks bs;
  }

  pub opens_as_machine : OpensAsMachine sessions blocks v c
  opens_as_machine = record {
    desk = opened_is_desk blocks v zero_is;
    shown = is_shown;
    board = record { floor = refl; pins = λ s. ap seat_pin (all_idle sessions s) ∙ sym (no_pin 16 s) };
    start = is_start;
    opening = is_opening;
  }

-- The content

-- what a version that has just opened begins with, over the edges in its blocks
abbrev pub content_in : VersionView → Content
content_in v = content_of v.opening.names v.opening.kinds (edges_in_blocks (blocks_of v.rows))

pub content_opens : (blocks : ℕ) (v : VersionView) → IsVersionZero blocks v → graph_in v.opening.limits (content_in v) ≡ v.opening
content_opens blocks v zero_is =
    let alone : content v ≡ v.opening = ap (λ bs. left_by bs v.opening) zero_is.alone in
    let once : AreEachOnce (edges_in_blocks (blocks_of v.rows)) (content v) = rows_each_once (content v) v.rows zero_is.version.rows in
    let edges : map_of (edges_in_blocks (blocks_of v.rows)) ≡ v.opening.edges = once.same ∙ ap (λ (g : Graph). g.edges) alone in
    λ i. record { names = v.opening.names; kinds = v.opening.kinds; edges = edges i; limits = v.opening.limits }

-- Over no blocks

empty_is_zero : (limits : LimitsView) → AreLimits limits → (blocks : ℕ) → IsVersionZero blocks (empty_version_in limits)
empty_is_zero limits are blocks = record { version = is_empty_version_in limits are; alone = refl; within = λ k d h. absurd (omega arith) }

pub blank_is_desk : (limits : LimitsView) → AreLimits limits → (blocks : ℕ) → IsDesk (opened_desk blocks (empty_version_in limits))
blank_is_desk limits are blocks = opened_is_desk blocks (empty_version_in limits) (empty_is_zero limits are blocks)

pub opens_blank : (limits : LimitsView) → AreLimits limits → (sessions blocks : ℕ) → OpensBlank limits sessions blocks
opens_blank limits are sessions blocks =
    let opens = opens_as_machine sessions blocks (empty_version_in limits) (content_of [] [] [])
    (empty_is_zero limits are blocks) refl in
    record { desk = blank_is_desk limits are blocks; shown = opens.shown; board = opens.board }
