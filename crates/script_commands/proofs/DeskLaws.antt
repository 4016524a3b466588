-- A desk that shows a state: what batches, collections and counts come to.
use Rattle.std.proofs.Common.{◌≡◌, ◌≢◌, ℕ, zero, suc, ◌+◌, Bool, true, false, cond, ◌&&◌, List, [], ◌∷◌, ◌++◌, subst, length, map}
use Rattle.std.proofs.{Common.{not, count_by, replicate, refl, sym, ap, ◌∙◌, arith}, lemmas.List.length-append}
use Rattle.std.specs.{Prelude.{Ok, Err}, FinMap.len}
use Rattle.batch_shards.specs.Births.{births_after, dropped_births}
use Rattle.edge_block.specs.Batches.{layout_after, taken_by}
use Rattle.block_reclamation.specs.declared.status.BlockStatus.{BlockStatus, TheVariants.Free}
use Rattle.block_reclamation.specs.{declared.copies.PinCopy.PinCopy, Status.{is_free, is_reclaimable, is_retired, is_in_use}}
use Rattle.block_reclamation.specs.Copies.{needs}
use Rattle.block_reclamation.specs.Copies as copies
use Rattle.block_reclamation.proofs.StatusCounts.{parts_one, length_free}
use Rattle.feed_csv.specs.declared.command.Command.TheVariants.{Collect, Commit, Stat}
use Rattle.graph_types.specs.{Step.{after_all, left_by, outcomes}, declared.batches.{NamedOp.NamedOp, Outcome.Outcome}}
use Rattle.graph_version.specs.{Kept.edge_total, Versions.content, Versions.layout_of, Versions.empty_version_in}
use Rattle.store_steps.specs.{Desks.{DeskView, IsCollected, CollectedCounts, births_in, is_retired_by}, Acceptances.Accepts}
use Rattle.store_steps.{specs.Opening.opened_desk, proofs.StatusCounts.collected_counts}
use Rattle.stream_store.specs.Configs.{ConfigView}
use Rattle.graph_types.specs.declared.refusals.ApplyError.{ApplyError}
use Rattle.stream_store.specs.Refusals.{Attempt, BatchRefusal, IsAdmissible, IsWithin, Refuses, attempt_on, block_count}
use Rattle.graph_types.specs.declared.refusals.ApplyError.TheVariants as refused
use Rattle.graph_types.proofs.Sums.{count_more, count_by-append, count_filtered}
use Rattle.store_steps.proofs.AcceptedDesk.{retired_any, batches_after, reclaimable_any}
use Rattle.script_lines.specs.Lines.{collect_line, commit_line, stat_line}
use Rattle.script_commands.specs.{Servers.ShowsDesk, States.{dates, blocks_dropped, floor_in, Dates, IsCommandResult, ServerState}}
use Rattle.script_commands.specs.States.{after_collect, after_commit, attempt, batch_word, beginning, copy_in, last_version}
use Rattle.script_commands.specs.States.{left_by_pending, recycled_blocks, set_up, blocks_taken, used}

-- Counts

pub same_counts : (p q : BlockStatus → Bool) → ((s : BlockStatus) → p s ≡ q s) → (pool : List BlockStatus) → count_by p pool ≡ count_by q pool
same_counts p q same [] = refl
same_counts p q same (s ∷ pool) =
    let a = count_more p s pool in
    let b = count_more q s pool in
    let one : (let n : ℕ = cond (p s) 1 0 in n) ≡ cond (q s) 1 0 = ap (λ t. cond t 1 0) (same s) in
    let rest = same_counts p q same pool in
    omega arith

pub parts : (pool : List BlockStatus) → count_by is_free pool + count_by is_retired pool + count_by is_in_use pool ≡ length pool
parts [] = refl
parts (s ∷ pool) =
    let a = count_more is_free s pool in
    let b = count_more is_retired s pool in
    let c = count_more is_in_use s pool in
    let one = parts_one s in
    let rest = parts pool in
    omega arith

pub all_counted_in : (xs : List Dates) → count_by (λ _. true) xs ≡ length xs
all_counted_in [] = refl
all_counted_in (x ∷ xs) = let one = count_more (λ (y : Dates). true) x xs in let rest = all_counted_in xs in omega arith

-- how many are retired is how many dates there are
all_retired : (d : DeskView) (s : ServerState) → ShowsDesk d s → count_by is_retired d.pool ≡ length s.retired
all_retired d s shows =
    same_counts is_retired (is_retired_by (λ birth retirement. true)) retired_any d.pool
    ∙ (shows.retired (λ birth retirement. true) ∙ all_counted_in s.retired)

-- how many are used is how many are neither free nor retired
all_used : (d : DeskView) (s : ServerState) → ShowsDesk d s → count_by is_in_use d.pool ≡ used s
all_used d s shows =
    let whole = parts d.pool in
    let gone = all_retired d s shows in
    omega (arith, whole, gone, shows.free, shows.blocks)

-- The opening

pub none_counted : (p : BlockStatus → Bool) → p Free ≡ false → (n : ℕ) → count_by p (replicate n Free) ≡ 0
none_counted p none zero = refl
none_counted p none (suc n) =
    let more = count_more p Free (replicate n Free) in
    let here : (let k : ℕ = cond (p Free) 1 0 in k) ≡ 0 = ap (λ t. cond t 1 0) none in
    let rest = none_counted p none n in
    omega arith

all_counted : (n : ℕ) → count_by is_free (replicate n Free) ≡ n
all_counted zero = refl
all_counted (suc n) =
    let more = count_more is_free Free (replicate n Free) in let rest = all_counted n in omega arith

pub shows_opened : (d : DeskView) (config : ConfigView) → d ≡ opened_desk config.blocks (empty_version_in config.limits)
    → ShowsDesk d (beginning (set_up config)).state
shows_opened d config opened = rw opened (record {
  opening = refl;
  batches = refl;
  layout = refl;
  births = λ source. refl;
  blocks = length_free config.blocks;
  free = all_counted config.blocks;
  retired = λ q. none_counted (is_retired_by q) refl config.blocks;
})

-- A batch

content_is : (d : DeskView) (s : ServerState) → ShowsDesk d s → content d.last ≡ last_version s
content_is d s shows = λ i. left_by (shows.batches i) (shows.opening i)

left_is : (d : DeskView) (s : ServerState) (ops : List NamedOp) → ShowsDesk d s → ops ≡ s.pending
    → after_all ops (content d.last) ≡ left_by_pending s
left_is d s ops shows pending = λ i. after_all (pending i) (content_is d s shows i)

-- the desk is asked what the state is: its last version's blocks are the used ones
attempt_is : (d : DeskView) (s : ServerState) (ops : List NamedOp) → ShowsDesk d s → ops ≡ s.pending
    → count_by is_in_use d.pool ≡ block_count d.last → attempt_on d.last (count_by is_free d.pool) ops ≡ attempt s
attempt_is d s ops shows pending many = λ i. record {
  ops = pending i;
  batches = length (shows.batches i);
  graph = content_is d s shows i;
  used = (sym many ∙ all_used d s shows) i;
  free = shows.free i;
}

-- births with one retirement
dated : (q : ℕ → ℕ → Bool) (births : List ℕ) (n : ℕ)
    → count_by (λ (x : Dates). q x.birth x.retirement) (map (λ birth. dates birth n) births)
    ≡ count_by (λ birth. q birth n) births
dated q [] n = refl
dated q (birth ∷ births) n =
    let more : List Dates = map (λ birth. dates birth n) births in
    let a = count_more (λ (x : Dates). q x.birth x.retirement) (dates birth n) more in
    let b = count_more (λ k. q k n) birth births in
    let rest = dated q births n in
    omega arith

dated_counts : (q : ℕ → ℕ → Bool) (retired : List Dates) (births : List ℕ) (n : ℕ)
    → count_by (λ (x : Dates). q x.birth x.retirement) (retired ++ map (λ birth. dates birth n) births)
    ≡ count_by (λ (x : Dates). q x.birth x.retirement) retired + count_by (λ birth. q birth n) births
dated_counts q retired births n =
    count_by-append (λ (x : Dates). q x.birth x.retirement) retired (map (λ birth. dates birth n) births)
    ∙ ap (λ k. count_by (λ (x : Dates). q x.birth x.retirement) retired + k) (dated q births n)

pub commit_done : (s : ServerState) (d e : DeskView) (ops : List NamedOp) (number : ℕ) (results : List Outcome) (lines : List ℕ)
    → ShowsDesk d s → ops ≡ s.pending → count_by is_in_use d.pool ≡ block_count d.last
    → IsWithin d.last (count_by is_free d.pool) ops → Accepts d ops e
    → number ≡ length e.last.batches → results ≡ outcomes ops (content d.last) → lines ≡ commit_line number results
    → IsCommandResult Commit s (Ok lines)
commit_done s d e ops number results lines shows pending many within accepts number_is results_are lines_are =
    let count : number ≡ length s.batches + 1 =
    number_is ∙ (ap length (batches_after d e ops accepts) ∙ (length-append d.last.batches (ops ∷ [])
    ∙ ap (λ b. length b + 1) shows.batches)) in
    let outcomes_are : results ≡ outcomes s.pending (last_version s) =
    results_are ∙ (λ i. outcomes (pending i) (content_is d s shows i)) in
    (subst IsAdmissible (attempt_is d s ops shows pending many) within, rw (lines_are, count, outcomes_are) refl)

pub shows_committed : (s : ServerState) (d e : DeskView) (ops : List NamedOp) → ShowsDesk d s → ops ≡ s.pending → Accepts d ops e
    → ShowsDesk e (after_commit s)
shows_committed s d e ops shows pending accepts =
    let accepted = accepts.accepted in
    let same = content_is d s shows in
    let left = left_is d s ops shows pending in
    let counts = accepted.counts in
    let takes : length accepts.taken ≡ blocks_taken s =
    accepted.taken_are ∙ (λ i. taken_by (pending i) (same i) (shows.layout i) (length (left i).names)) in
    let number : length d.last.batches ≡ length s.batches = ap length shows.batches in
    let births : births_in d ≡ s.births = λ i source. shows.births source i in
    record {
      opening = accepted.opening ∙ shows.opening;
      batches = batches_after d e ops accepts ∙ (λ i. shows.batches i ++ pending i ∷ []);
      layout = (λ i source. accepted.layout source i) ∙ (λ i. layout_after (pending i) (same i) (shows.layout i));
      births = λ source. accepted.births source
          ∙ (λ i. births_after (number i + 1) (pending i) (same i) (shows.layout i) (births i) source);
      blocks = counts.blocks ∙ shows.blocks;
      free = omega (arith, counts.free, takes, shows.free);
      retired = λ q. counts.retired_by q
          ∙ ((λ i. shows.retired q i + accepted.dropped_births (λ birth. q birth (length d.last.batches + 1)) i)
          ∙ ((λ i. count_by (λ (x : Dates). q x.birth x.retirement) s.retired + count_by (λ birth. q birth (number i + 1))
          (dropped_births (pending i) (same i) (shows.layout i) (births i) (length (left i).names)))
          ∙ sym (dated_counts q s.retired (blocks_dropped s) (length s.batches + 1))));
    }

pub commit_refused : (s : ServerState) (d : DeskView) (ops : List NamedOp) (error : ApplyError) → ShowsDesk d s → ops ≡ s.pending
    → count_by is_in_use d.pool ≡ block_count d.last → error ≢ refused.OutOfMemory
    → Refuses d.last (count_by is_free d.pool) ops error → IsCommandResult Commit s (Err (batch_word error))
commit_refused s d ops error shows pending many known is =
    (error, subst (λ (a : Attempt). BatchRefusal a error) (attempt_is d s ops shows pending many) is, known, refl)

-- a refused batch is given up, and nothing else changes
pub shows_given_up : (s : ServerState) (d : DeskView) → ShowsDesk d s → ShowsDesk d (record s { pending = [] })
shows_given_up s d shows = record {
  opening = shows.opening;
  batches = shows.batches;
  layout = shows.layout;
  births = shows.births;
  blocks = shows.blocks;
  free = shows.free;
  retired = shows.retired;
}

-- A collection

pub reclaimable_is : (s : ServerState) (d : DeskView) (copy : PinCopy) → ShowsDesk d s → copy ≡ copy_in s
    → count_by (is_reclaimable copy) d.pool ≡ recycled_blocks s
reclaimable_is s d copy shows same =
    same_counts (is_reclaimable copy) (is_retired_by (λ birth retirement. not (needs copy birth retirement))) (reclaimable_any copy) d.pool
    ∙ (shows.retired (λ birth retirement. not (needs copy birth retirement))
    ∙ ap (λ k. count_by (λ (x : Dates). not (needs k x.birth x.retirement)) s.retired) same)

pub shows_collected : (s : ServerState) (d e : DeskView) (copy : PinCopy) → ShowsDesk d s → IsCollected d copy e
    → ((source : ℕ) → births_in e source ≡ births_in d source) → copy ≡ copy_in s → ShowsDesk e (after_collect s)
shows_collected s d e copy shows collected births same =
    let counts : CollectedCounts d copy e = collected_counts d e copy collected in
    record {
      opening = ap (λ v. v.opening) collected.last ∙ shows.opening;
      batches = ap (λ v. v.batches) collected.last ∙ shows.batches;
      layout = ap (λ v. layout_of v.rows) collected.last ∙ shows.layout;
      births = λ source. births source ∙ shows.births source;
      blocks = counts.blocks ∙ shows.blocks;
      free = omega (arith, counts.free, reclaimable_is s d copy shows same, shows.free);
      retired = λ q. counts.retired_by q
          ∙ (shows.retired (λ birth retirement. needs copy birth retirement && q birth retirement)
          ∙ (ap (λ k. count_by (λ (x : Dates). needs k x.birth x.retirement && q x.birth x.retirement) s.retired) same
          ∙ count_filtered (λ (x : Dates). needs (copy_in s) x.birth x.retirement) (λ (x : Dates). q x.birth x.retirement)
          s.retired));
    }

pub collect_done : (s : ServerState) (d e : DeskView) (copy : PinCopy) (floor count left : ℕ) (lines : List ℕ) → ShowsDesk d s
    → IsCollected d copy e → ((source : ℕ) → births_in e source ≡ births_in d source) → copy ≡ copy_in s → floor ≡ copies.floor_of copy
    → count ≡ count_by (is_reclaimable copy) d.pool → left ≡ count_by is_retired e.pool
    → lines ≡ collect_line floor count left → IsCommandResult Collect s (Ok lines)
collect_done s d e copy floor count left lines shows collected births same floor_are count_is left_is lines_are =
    let low : floor ≡ floor_in s = floor_are ∙ ap copies.floor_of same in
    let gone : count ≡ recycled_blocks s = count_is ∙ reclaimable_is s d copy shows same in
    let stay : left ≡ length (after_collect s).retired =
    left_is ∙ all_retired e (after_collect s) (shows_collected s d e copy shows collected births same) in
    rw (lines_are, low, gone, stay) refl

-- The counts

pub stat_done : (s : ServerState) (d : DeskView) (number names edges free retired many : ℕ) (lines : List ℕ) → ShowsDesk d s
    → number ≡ length d.last.batches → names ≡ length (content d.last).names → edges ≡ edge_total d.last
    → free ≡ count_by is_free d.pool → retired ≡ count_by is_retired d.pool → many ≡ count_by is_in_use d.pool
    → lines ≡ stat_line number names edges free retired many → IsCommandResult Stat s (Ok lines)
stat_done s d number names edges free retired many lines shows number_is names_are edges_are free_are retired_are used_are
    lines_are =
    let same = content_is d s shows in
    let a : number ≡ length s.batches = number_is ∙ ap length shows.batches in
    let b : names ≡ length (last_version s).names = names_are ∙ ap (λ g. length g.names) same in
    let c : edges ≡ len (last_version s).edges = edges_are ∙ ap (λ g. len g.edges) same in
    let f : free ≡ s.free = free_are ∙ shows.free in
    let r : retired ≡ length s.retired = retired_are ∙ all_retired d s shows in
    let u : many ≡ used s = used_are ∙ all_used d s shows in
    rw (lines_are, a, b, c, f, r, u) refl
