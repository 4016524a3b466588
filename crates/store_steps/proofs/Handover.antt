-- Blocks that are handed over or back, the last of them first.
use Rattle.std.proofs.Common.{◌≡◌, ℕ, ◌+◌, true, false, List, [], ◌∷◌, ◌++◌, length, set, sym, ap, ◌∙◌, arith}
use Rattle.std.proofs.lemmas.Grind.{common_steps}
use Rattle.std.specs.{Option.option_map, Prelude.{All, if◌then◌else◌, slice_get}}
use Rattle.block_reclamation.specs.{Status.is_among, declared.status.BlockStatus.{BlockStatus, TheVariants.{Granted, Free, Used}}}
use Rattle.graph_types.proofs.{ListPlaces.same_list, Times.turned_times}
use Rattle.graph_types.proofs.Times.{is_some_times}
use Rattle.graph_version.specs.Versions.{VersionView}
use Rattle.epoch_core.specs.Blocks.{all_differ}
use Rattle.block_pool.specs.Pools.{AreFree, marked, retired, changed_numbers}
use Rattle.block_pool.proofs.{Grants.length-marked, Marked.length-changed}
use Rattle.store_steps.specs.Desks.{DeskView, IsDesk}
use Rattle.store_steps.proofs.{Applications.{DeskApplication, next_desk}, ChangedLists.{marked_at, changed_at}}
use Rattle.store_steps.proofs.{Counting.in_times, GrantedBlocks.given_back}
use Rattle.graph_version.specs.Rows as rows

pub back_same : (pool new end : List BlockStatus) (numbers : List ℕ) → AreFree pool numbers → new ≡ marked numbers Granted pool
    → end ≡ marked numbers Free new → end ≡ pool
back_same pool new end numbers free is after = after ∙ ap (marked numbers Free) is ∙ given_back pool numbers free

pub unlisted : (d : DeskView) (numbers handed : List ℕ) (v : VersionView) → IsDesk d → AreFree d.pool numbers → handed ≡ numbers
    → v ≡ d.last → All (λ n. is_among n (rows.numbers_of (rows.blocks_of v.rows)) ≡ false) handed
unlisted d numbers handed v desk free same at k e h = grind (arith, common_steps)

-- it has as many blocks
pub next_long : (a : DeskApplication) → length (next_desk a).pool ≡ length a.old.pool
next_long a =
    length-changed (retired (length a.old.last.batches + 1)) (rows.numbers_of a.made.dropped)
    (marked a.made.taken (Used (length a.old.last.batches + 1)) a.old.pool)
    ∙ length-marked a.made.taken (Used (length a.old.last.batches + 1)) a.old.pool

pub turned_in : (m n : ℕ) (ns : List ℕ) → is_among m (ns ++ n ∷ []) ≡ is_among m (n ∷ ns)
turned_in m n ns = in_times m (ns ++ n ∷ []) ∙ ap is_some_times (turned_times m n ns) ∙ sym (in_times m (n ∷ ns))

pub turned_marks : (n : ℕ) (ns : List ℕ) (s : BlockStatus) (pool : List BlockStatus)
    → marked ns s (set pool n s) ≡ marked (ns ++ n ∷ []) s pool
turned_marks n ns s pool = same_list _ _ (λ m.
    marked_at (n ∷ ns) s pool m
    ∙ ap (λ t. if t then option_map (λ _. s) (slice_get pool m) else slice_get pool m) (sym (turned_in m n ns))
    ∙ sym (marked_at (ns ++ n ∷ []) s pool m))

pub turned_changes : (f : BlockStatus → BlockStatus) (n : ℕ) (ns : List ℕ) (pool : List BlockStatus)
    → all_differ (ns ++ n ∷ []) ≡ true
    → all_differ (n ∷ ns) ≡ true → changed_numbers f (n ∷ ns) pool ≡ changed_numbers f (ns ++ n ∷ []) pool
turned_changes f n ns pool apart first = same_list _ _ (λ m.
    changed_at f (n ∷ ns) pool m first
    ∙ ap (λ t. if t then option_map f (slice_get pool m) else slice_get pool m) (sym (turned_in m n ns))
    ∙ sym (changed_at f (ns ++ n ∷ []) pool m apart))
