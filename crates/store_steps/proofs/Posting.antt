-- An accepted batch is Take and Fill of each taken block and then one Post, all done.
use Rattle.std.proofs.Common.{◌≡◌, ℕ, zero, suc, ◌+◌, ◌<◌, Bool, true, false, ◌&&◌, List, [], ◌∷◌, ◌++◌, length, get_or, refl}
use Rattle.std.proofs.{Common.{sym, ap, subst, ◌∙◌, arith, length-append}, lemmas.{Grind.common_steps, List.map-append}}
use Rattle.std.proofs.lemmas.{List.{length-map, get_or_default}, Option.slice_get_within, Bool.{and_from, or_right, lt-ltb}}
use Rattle.std.{proofs.lemmas.Bool.{le-leb, or_left}, specs.Prelude.{slice_get, if◌then◌else◌, All, Contains}}
use Rattle.std.specs.{Option.option_map, List.list_all, declared.option.Option.TheVariants.{None, Some}}
use Rattle.block_pool.{proofs.Grants.length-marked, specs.Pools.is_free_at, specs.Pools.is_used_at}
use Rattle.graph_types.specs.{Step.is_within_limits, declared.batches.NamedOp.NamedOp}
use Rattle.graph_types.specs.{Graph.Graph, Limits.LimitsView}
use Rattle.graph_types.proofs.{More.left_more, LimitsKept.{limits_after_all, limits_left_by}}
use Rattle.edge_block.specs.Slots.{BlockView}
use Rattle.graph_version.specs.{Rows.blocks_of, Rows.numbers_of, Edges.edges_in_block, Edges.edges_in_blocks, Edges.AreEachOnce}
use Rattle.graph_version.{specs.Versions.content, proofs.Shown.rows_each_once}
use Rattle.block_reclamation.specs.Status.{is_among, is_used, is_at, is_granted}
use Rattle.block_reclamation.specs.declared.status.BlockStatus.{BlockStatus, TheVariants.Free, TheVariants.Granted}
use Rattle.block_reclamation.proofs.OneStatus.{free_is}
use Rattle.graph_types.proofs.{Cases.same_bool, Joined.length_enumerated, ListPlaces.same_list}
use Rattle.graph_version.proofs.ListedNumbers.{numbers_all}
use Rattle.epoch_core.specs.{declared.{states.Version.Version, events.Event.TheVariants.Post}, Blocks.{all_differ, after_post}}
use Rattle.epoch_core.specs.{Posts.posted, Worlds.{World, last_blocks}, Versions.{AreEdgesOf, edges_at, edges_of}}
use Rattle.epoch_core.specs.Versions.{batches_at, graph_at, graph_of_opening}
use Rattle.epoch_core.{specs.Posting.{is_listable, version_by, can_post, graph_after, are_edges_of}, proofs.Lists.all_listed}
use Rattle.epoch_core.proofs.{Edges.Decides-edges, Changes.{version_next, batches_all}, Posted.status_at}
use Rattle.epoch_core.proofs.BlockSteps.{status_by}
use Rattle.block_pool.proofs.OneNumber.{number_after, born_mark}
use Rattle.store_steps.specs.{Journal.{Applied, Ledger, is_legal, after_entry}, Shown.ShowsWorld, Desks.{IsDesk, last_numbers, ledger_of}}
use Rattle.store_steps.specs.{Steps.{fresh_in, posting, Simulates}, Acceptances.{Acceptance, KeepsUntaken, applied_entry}}
use Rattle.store_steps.proofs.NumberLists.{differ_from, number_in, picked, in_picked, picked_in}
use Rattle.store_steps.proofs.{NumberLists.{picked_apart, picked_all}, Filling.edges_from}
use Rattle.store_steps.proofs.{ChangedLists.marked_at, Applications.exchanged_at}
use Rattle.store_steps.proofs.OneStatus.{same_after}
use Rattle.store_steps.proofs.Filling.{filled_world, fills_done, step_then, AllAre, length-heap_with, heap_else, heap_here}

-- what a legal batch asks of the pool
pub record IsLegalBatch (pool : List BlockStatus) (taken dropped : List ℕ) : Type 0 where
  pub free : list_all (is_free_at pool) taken ≡ true
  pub apart : all_differ taken ≡ true
  pub born : list_all (is_used_at pool) dropped ≡ true
  pub dropped_apart : all_differ dropped ≡ true

pub legal_batch : (l : Ledger) (ops : List NamedOp) (taken dropped : List ℕ) → is_legal l (Applied ops taken dropped) ≡ true
    → IsLegalBatch l.pool taken dropped
legal_batch l ops taken dropped is = grind (arith, common_steps)

five : (a b c d e : Bool) → a ≡ true → b ≡ true → c ≡ true → d ≡ true → e ≡ true → (a && b && c && d && e) ≡ true
five a b c d e p q r s t = rw (p, q, r, s, t) refl

-- One batch whose entry is legal and entered

pub record EnteredBatch : Type 0 where
  pub made : Acceptance
  pub before : IsDesk made.old
  pub after : IsDesk made.new
  pub opened : made.new.opened ≡ made.old.opened
  pub opening : made.new.last.opening ≡ made.old.last.opening
  pub legal : is_legal (ledger_of made.old) (applied_entry made) ≡ true
  pub ledger : ledger_of made.new ≡ after_entry (ledger_of made.old) (applied_entry made)
  pub kept : KeepsUntaken made

abbrev number_in_desk : EnteredBatch → ℕ
number_in_desk a = length a.made.old.last.batches + 1

abbrev fresh_blocks : EnteredBatch → List BlockView
fresh_blocks a = fresh_in a.made.new.last a.made.taken

abbrev new_blocks : EnteredBatch → List BlockView
new_blocks a = blocks_of a.made.new.last.rows

legal_in : (a : EnteredBatch) → IsLegalBatch a.made.old.pool a.made.taken a.made.dropped
legal_in a = legal_batch (ledger_of a.made.old) a.made.batch a.made.taken a.made.dropped a.legal

new_pool : (a : EnteredBatch) (n : ℕ) → slice_get a.made.new.pool n ≡ number_after (number_in_desk a) (slice_get a.made.old.pool n)
    (is_among n a.made.taken) (is_among n a.made.dropped)
new_pool a n = ap (λ l. slice_get l.pool n) a.ledger
    ∙ exchanged_at (number_in_desk a) a.made.taken a.made.dropped a.made.old.pool n (legal_in a).dropped_apart

taken_free : (a : EnteredBatch) (n : ℕ) → is_among n a.made.taken ≡ true → is_free_at a.made.old.pool n ≡ true
taken_free a n is = all_listed (is_free_at a.made.old.pool) a.made.taken n (legal_in a).free is

dropped_born : (a : EnteredBatch) (n : ℕ) → is_among n a.made.dropped ≡ true → is_used_at a.made.old.pool n ≡ true
dropped_born a n is = all_listed (is_used_at a.made.old.pool) a.made.dropped n (legal_in a).born is

-- a taken number is one of the new version's
taken_listed : (a : EnteredBatch) (n : ℕ) → is_among n a.made.taken ≡ true → is_among n (last_numbers a.made.new) ≡ true
taken_listed a n is = grind (arith, common_steps, new_pool, born_mark, taken_free, dropped_born)

-- the numbers of the new blocks are those taken
fresh_taken : (a : EnteredBatch) (n : ℕ) → is_among n (numbers_of (fresh_blocks a)) ≡ is_among n a.made.taken
fresh_taken a n =
    same_bool _ _ (in_picked (λ m. is_among m a.made.taken) (new_blocks a) n)
    (λ is. picked_in (λ m. is_among m a.made.taken) (new_blocks a) n is (taken_listed a n is))

fresh_apart : (a : EnteredBatch) → all_differ (numbers_of (fresh_blocks a)) ≡ true
fresh_apart a = picked_apart (λ m. is_among m a.made.taken) (new_blocks a)
    (differ_from (numbers_of (new_blocks a)) a.after.version.rows.numbers)

-- The machine beside it

abbrev ready : EnteredBatch → World → World
ready a w = filled_world w (fresh_blocks a)

fresh_free : (a : EnteredBatch) (w : World) → ShowsWorld a.made.old w → AllAre Free w.status (fresh_blocks a)
fresh_free a w shows k d h =
    let n : ℕ = (get_or (fresh_blocks a) k d).number in
    ap (λ (pool : List BlockStatus). slice_get pool n) shows.status ∙ free_is (slice_get a.made.old.pool n)
    (taken_free a n (picked_all (λ m. is_among m a.made.taken) (new_blocks a) k d h))

fresh_within : (a : EnteredBatch) (w : World) → ShowsWorld a.made.old w → All (λ b. b.number < length w.heap) (fresh_blocks a)
fresh_within a w shows k d h =
    let lt = slice_get_within w.status (get_or (fresh_blocks a) k d).number Free (fresh_free a w shows k d h) in let same =
    shows.sizes in omega arith

ready_status : (a : EnteredBatch) (w : World) (n : ℕ) → slice_get (ready a w).status n
    ≡ (if is_among n a.made.taken then option_map (λ _. Granted) (slice_get w.status n) else slice_get w.status n)
ready_status a w n =
    marked_at (numbers_of (fresh_blocks a)) Granted w.status n
    ∙ ap (λ t. if t then option_map (λ _. Granted) (slice_get w.status n) else slice_get w.status n) (fresh_taken a n)

-- a block of the new version has its edges in the machine, and may be listed
pub record IsPlaced (a : EnteredBatch) (w : World) (b : BlockView) : Type 0 where
  pub edges : edges_at (ready a w).heap b.number ≡ edges_in_block b
  pub listable : is_listable (ready a w).status (last_blocks w) b.number ≡ true

taken_placed : (a : EnteredBatch) (w : World) → ShowsWorld a.made.old w → (b : BlockView) → Contains (fresh_blocks a) b
    → is_among b.number a.made.taken ≡ true → IsPlaced a w b
taken_placed a w shows b (k, h, at) is = record {
  edges = subst (λ x. edges_at (ready a w).heap x.number ≡ edges_in_block x) at
      (heap_here (fresh_blocks a) w.heap (fresh_within a w shows) (fresh_apart a) k b h);
  listable =
      let free : slice_get w.status b.number ≡ Some Free =
      ap (λ (pool : List BlockStatus). slice_get pool b.number) shows.status ∙ free_is (slice_get a.made.old.pool b.number)
      (taken_free a b.number is) in
      let fresh : slice_get (ready a w).status b.number ≡ Some Granted = ready_status a w b.number ∙ rw (is, free) refl in
      or_left (is_at is_granted (slice_get (ready a w).status b.number)) (is_among b.number (last_blocks w))
      (ap (is_at is_granted) fresh);
}

contains_picked : (p : ℕ → Bool) (bs : List BlockView) (b : BlockView) (k : ℕ) → k < length bs → get_or bs k b ≡ b
    → p b.number ≡ true → Contains (picked p bs) b
contains_picked p [] b k h at is = absurd (omega arith)
contains_picked p (c ∷ cs) b zero h at is =
    let same : p c.number ≡ true = ap (λ x. p x.number) at ∙ is in
    rw same (0, omega arith, at)
contains_picked p (c ∷ cs) b (suc k) h at is =
    let rest : Contains (picked p cs) b = contains_picked p cs b k (omega arith) at is in
    elim (p c.number) as (λ t. Contains (if t then c ∷ picked p cs else picked p cs) b) [
      | true ↦ (suc rest.0, omega (arith, rest.1), rest.2)
      | false ↦ rest
    ]

kept_placed : (a : EnteredBatch) (w : World) → ShowsWorld a.made.old w → (b : BlockView) → Contains (blocks_of a.made.old.last.rows) b
    → is_among b.number a.made.taken ≡ false → IsPlaced a w b
kept_placed a w shows b h is = grind (arith, common_steps, heap_else, fresh_taken, or_right, number_in)

placed : (a : EnteredBatch) (w : World) → ShowsWorld a.made.old w → All (IsPlaced a w) (new_blocks a)
placed a w shows k d h =
    let b : BlockView = get_or (new_blocks a) k d in
    let at : get_or (new_blocks a) k b ≡ b = get_or_default (new_blocks a) k b d h in
    elim (is_among b.number a.made.taken) as (λ t. is_among b.number a.made.taken ≡ t → IsPlaced a w b) [
      | true ↦ λ is. taken_placed a w shows b (contains_picked (λ m. is_among m a.made.taken) (new_blocks a) b k h at is) is
      | false ↦ λ is. kept_placed a w shows b (a.kept k d h is) is
    ] refl

same_count : (a : EnteredBatch) (w : World) → ShowsWorld a.made.old w → length w.versions ≡ length a.made.old.last.batches
same_count a w shows = sym (length-map w.versions (λ v. v.batch)) ∙ ap length shows.batches

new_batches : (a : EnteredBatch) → a.made.new.last.batches ≡ a.made.old.last.batches ++ a.made.batch ∷ []
new_batches a = ap (λ l. l.batches) a.ledger

-- the graph that the batch leaves
graph_left : (a : EnteredBatch) (w : World) → ShowsWorld a.made.old w → graph_after w.opening w.versions a.made.batch ≡ content a.made.new.last
graph_left a w shows = grind (arith, common_steps, batches_all, left_more, new_batches)

posts : (a : EnteredBatch) (w : World) → ShowsWorld a.made.old w → can_post w.opening (ready a w).heap (ready a w).status w.versions a.made.batch
    (last_numbers a.made.new) ≡ true
posts a w shows =
    let all = placed a w shows in
    let same = same_count a w shows in
    let longer : length a.made.new.last.batches ≡ length a.made.old.last.batches + 1 = ap length (new_batches a)
    ∙ length-append a.made.old.last.batches (a.made.batch ∷ []) in
    let few = a.after.version.small.count in
    let graph = graph_left a w shows in
    let each : AreEachOnce (edges_in_blocks (new_blocks a)) (content a.made.new.last) =
    rows_each_once (content a.made.new.last) a.made.new.last.rows a.after.version.rows in
    let there : edges_of (ready a w).heap (last_numbers a.made.new) ≡ edges_in_blocks (new_blocks a) =
    edges_from (ready a w).heap (new_blocks a) (λ k d h. (all k d h).edges) in
    let shown : AreEdgesOf (edges_in_blocks (new_blocks a)) (content a.made.new.last) =
    record { once = each.once; same = each.same } in
    let limits : (content a.made.new.last).limits ≡ w.opening.limits =
    sym (ap (λ (g : Graph). g.limits) graph) ∙ limits_after_all a.made.batch (graph_at w.opening w.versions (length w.versions))
    ∙ limits_left_by (batches_at w.versions (length w.versions)) (graph_of_opening w.opening) in
    let most = ap (λ (l : LimitsView). l.batches) limits in
    five _ _ _ _ _ (lt-ltb (length w.versions) w.opening.limits.batches (omega arith))
    (numbers_all (is_listable (ready a w).status (last_blocks w)) (new_blocks a) (λ k d h. (all k d h).listable))
    (differ_from (last_numbers a.made.new) a.after.version.rows.numbers)
    (ap is_within_limits graph ∙ and_from _ _ (le-leb _ _ a.after.version.small.names) (le-leb _ _ a.after.version.small.kinds))
    (ap (λ x. are_edges_of x (edges_of (ready a w).heap (last_numbers a.made.new))) graph
    ∙ ap (are_edges_of (content a.made.new.last)) there
    ∙ (Decides-edges (content a.made.new.last) (edges_in_blocks (new_blocks a))).1 shown)

abbrev posted_world : EnteredBatch → World → World
posted_world a w = posted (ready a w) a.made.batch (last_numbers a.made.new)

status_posted : (a : EnteredBatch) (w : World) → ShowsWorld a.made.old w → (n : ℕ)
    → slice_get (posted_world a w).status n ≡ slice_get a.made.new.pool n
status_posted a w shows n =
    let listed : is_among n (last_numbers a.made.new) ≡ is_at is_used
    (number_after (number_in_desk a) (slice_get a.made.old.pool n) (is_among n a.made.taken) (is_among n a.made.dropped)) =
    sym (a.after.listed n) ∙ ap (is_at is_used) (new_pool a n) in
    status_at (length w.versions + 1) (last_numbers a.made.new) (ready a w).status n
    ∙ ap (option_map (after_post (length w.versions + 1) (is_among n (last_numbers a.made.new)))) (ready_status a w n)
    ∙ ap (λ m. status_by (m + 1) (is_among n (last_numbers a.made.new)) (slice_get w.status n) (is_among n a.made.taken)) (same_count a w shows)
    ∙ ap (λ t. status_by (number_in_desk a) t (slice_get w.status n) (is_among n a.made.taken)) listed
    ∙ ap (λ (pool : List BlockStatus). status_by (number_in_desk a) (is_at is_used (number_after (number_in_desk a)
    (slice_get a.made.old.pool n) (is_among n a.made.taken) (is_among n a.made.dropped))) (slice_get pool n) (is_among n a.made.taken)) shows.status
    ∙ same_after (number_in_desk a) (slice_get a.made.old.pool n) (is_among n a.made.taken) (is_among n a.made.dropped) (taken_free a n)
    (dropped_born a n) ∙ sym (new_pool a n)

shows_posted : (a : EnteredBatch) (w : World) → ShowsWorld a.made.old w → ShowsWorld a.made.new (posted_world a w)
shows_posted a w shows =
    let v : Version = version_by w.opening w.versions a.made.batch (last_numbers a.made.new) in
    let all = placed a w shows in
    record {
      opening = shows.opening ∙ sym a.opening;
      opened = shows.opened ∙ sym a.opened;
      batches = map-append (λ u. u.batch) w.versions (v ∷ []) ∙ ap (λ bs. bs ++ a.made.batch ∷ []) shows.batches ∙ sym (new_batches a);
      blocks = ap (λ u. u.blocks) (version_next w.opening w.versions v);
      edges = λ k d h. (all k d h).edges;
      status = same_list (posted_world a w).status a.made.new.pool (status_posted a w shows);
      sizes =
          length-heap_with (fresh_blocks a) w.heap ∙ shows.sizes
          ∙ sym (length-marked (numbers_of (fresh_blocks a)) Granted w.status)
          ∙ sym (length_enumerated (λ p. after_post (length w.versions + 1) (is_among p.0 (last_numbers a.made.new)) p.1) 0
          (ready a w).status);
    }

-- it is Take and Fill of each taken block, and then one Post of it over kept and taken blocks, all done
pub entered_simulates : (a : EnteredBatch) → Simulates a.made.old (posting a.made.new.last a.made.batch a.made.taken) a.made.new
entered_simulates a w shows = record {
  after = posted_world a w;
  done =
      fills_done (fresh_blocks a) (Post a.made.batch (last_numbers a.made.new) ∷ []) w (fresh_free a w shows) (fresh_apart a)
      ∙ step_then (Post a.made.batch (last_numbers a.made.new)) [] (ready a w) (posted_world a w)
      (ap (λ t. if t then Some (posted_world a w) else None) (posts a w shows));
  shown = shows_posted a w shows;
  floor = refl;
  copy = refl;
  sessions = refl;
}
