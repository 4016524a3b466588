-- Blocks' steps: Take, Fill and Recycle of numbers that differ.
use Rattle.std.proofs.{Common.{◌≡◌, ℕ, true, false, List, ◌∷◌, set, ap, arith}, lemmas.Grind.common_steps}
use Rattle.std.specs.{Option.{option_map, option_and_then}, Prelude.slice_get, declared.option.Option.TheVariants.Some}
use Rattle.std.specs.{List.list_all, Option.is_some, Prelude.if◌then◌else◌, declared.option.Option.{Option, TheVariants.None}}
use Rattle.std.proofs.Common.{Bool}
use Rattle.block_reclamation.specs.{Status.is_among, declared.status.BlockStatus.TheVariants.{Free, Granted}}
use Rattle.block_reclamation.specs.{Status.{is_at, is_reclaimable}, declared.copies.PinCopy.PinCopy}
use Rattle.block_reclamation.specs.declared.status.BlockStatus.{BlockStatus}
use Rattle.graph_types.specs.declared.ids.Edge.{Edge}
use Rattle.epoch_core.specs.{Blocks.{put_if_some, status_taken, all_differ}, Machine.{step, with_status, with_heap}, Worlds.World}
use Rattle.epoch_core.specs.declared.events.Event.TheVariants.{Take, Fill, Recycle}
use Rattle.epoch_core.specs.Blocks.{reclaimed, after_post}

pub take_done : (w : World) (n : ℕ) → slice_get w.status n ≡ Some Free
    → step w (Take n) ≡ Some (with_status w (set w.status n Granted))
take_done w n is = ap (λ o. option_map (with_status w) (put_if_some w.status n (option_and_then status_taken o))) is

pub fill_done : (w : World) (n : ℕ) (edges : List Edge) → slice_get w.status n ≡ Some Granted
    → step w (Fill n edges) ≡ Some (with_heap w (set w.heap n edges))
fill_done w n edges is = grind (arith, common_steps)

-- the first of different numbers is none of the rest
pub differ_head : (n : ℕ) (ns : List ℕ) → all_differ (n ∷ ns) ≡ true → is_among n ns ≡ false
differ_head n ns is = grind (arith, common_steps)

pub differ_tail : (n : ℕ) (ns : List ℕ) → all_differ (n ∷ ns) ≡ true → all_differ ns ≡ true
differ_tail n ns is = grind (arith, common_steps)

-- numbers whose statuses pass a test, and that are each there once: they may be moved one after another
pub record AreMovable (test : BlockStatus → Bool) (ns : List ℕ) (pool : List BlockStatus) : Type 0 where
  pub pass : list_all (λ n. is_at test (slice_get pool n)) ns ≡ true
  pub apart : all_differ ns ≡ true

-- whether the machine recycles a block by the copy
abbrev pub goes : PinCopy → Option BlockStatus → Bool
goes copy o = is_some (option_and_then (reclaimed copy) o)

-- what goes is free then
goes_free : (copy : PinCopy) (o : Option BlockStatus) → goes copy o ≡ true → option_and_then (reclaimed copy) o ≡ Some Free
goes_free copy o is = grind (arith, common_steps)

pub recycle_done : (w : World) (n : ℕ) → goes w.copy (slice_get w.status n) ≡ true
    → step w (Recycle n) ≡ Some (with_status w (set w.status n Free))
recycle_done w n is = ap (λ o. option_map (with_status w) (put_if_some w.status n o)) (goes_free w.copy (slice_get w.status n) is)

-- what doesn't go isn't recycled
pub recycle_skipped : (w : World) (n : ℕ) → goes w.copy (slice_get w.status n) ≡ false → step w (Recycle n) ≡ None
recycle_skipped w n is = grind (arith, common_steps)

-- exactly what the copy frees goes
pub goes_is : (copy : PinCopy) (o : Option BlockStatus) → goes copy o ≡ is_at (is_reclaimable copy) o
goes_is copy o = grind (arith, common_steps)

-- nothing goes any more
pub none_goes : (copy : PinCopy) (o : Option BlockStatus)
    → goes copy (if is_at (is_reclaimable copy) o then option_map (λ _. Free) o else o) ≡ false
none_goes copy o = grind (arith, common_steps)

-- what Take, and the Post of version n, make of a status
abbrev pub status_by : ℕ → Bool → Option BlockStatus → Bool → Option BlockStatus
status_by n listed s t = option_map (after_post n listed) (if t then option_map (λ _. Granted) s else s)
