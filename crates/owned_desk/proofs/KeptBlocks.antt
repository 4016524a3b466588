-- The blocks of versions that are held: the one of each number, and that none is reused.
use Rattle.std.proofs.Common.{◌≡◌, ◌≢◌, ℕ, zero, suc, ◌+◌, ◌<◌, ◌≤◌, ◌==◌, Bool, true, false, List, [], ◌∷◌, length, get_or, refl, sym, ap, subst, ◌∙◌, arith}
use Rattle.std.proofs.lemmas.{Grind.common_steps, Bool.{eq-eqb, true≢false}, List.{get_or-map, length-map}, Option.slice_get-map}
use Rattle.std.specs.{Prelude.{AllPairs, Contains, if◌then◌else◌, slice_get}, Option.option_map}
use Rattle.std.specs.declared.option.Option.{Option, TheVariants.{None, Some}}
use Rattle.block_reclamation.specs.declared.{copies.PinCopy.PinCopy, status.BlockStatus.{BlockStatus, TheVariants.{Free, Granted, Used, Retired}}}
use Rattle.block_reclamation.specs.{Copies.needs, Status.{is_among, is_at, is_free, is_used, recycled}}
use Rattle.block_reclamation.proofs.Least.{settled_needed}
use Rattle.block_pool.specs.Pools.{is_free_at}
use Rattle.block_pool.proofs.OneNumber.{number_after}
use Rattle.edge_block.specs.Slots.{BlockView, empty_block}
use Rattle.epoch_core.specs.Sound.{IsKeptAt}
use Rattle.epoch_core.proofs.Lists.{all_listed}
use Rattle.graph_types.proofs.{Counts.apart_tail, Numbers.apart_test}
use Rattle.graph_types.specs.declared.batches.NamedOp.{NamedOp}
use Rattle.graph_version.specs.{Rows.{blocks_of, numbers_of}, Versions.{VersionView, IsVersion}}
use Rattle.store_steps.specs.{Acceptances.Accepts, Dates.IsDatedBlock, Desks.{DeskView, IsCollected, IsDesk, ledger_of}, Journal.{Ledger}}
use Rattle.store_steps.proofs.{Applications.exchanged_at, Dated.desk_dated, NumberLists.number_in, Posting.{IsLegalBatch, legal_batch}}
use Rattle.owned_desk.specs.Kept.{HasBlocksOf, HasKeptBlocks}

-- Numbers

-- the block of a number among these, where there is one
abbrev pub block_in : List BlockView → ℕ → BlockView
block_in [] n = empty_block n 0 0
block_in (b ∷ bs) n = if b.number == n then b else block_in bs n

each_is_in : (bs : List BlockView) → AllPairs ◌≢◌ (numbers_of bs) → (b : BlockView) → Contains bs b → b ≡ block_in bs b.number
each_is_in [] distinct b there = absurd (let low = there.1 in omega (arith, low))
each_is_in (c ∷ cs) distinct b (zero, low, at) =
    let same : (c.number == b.number) ≡ true = eq-eqb c.number b.number (ap (λ (x : BlockView). x.number) at) in
    rw same (sym at)
each_is_in (c ∷ cs) distinct b (suc k, low, at) =
    let number : get_or (numbers_of cs) k b.number ≡ b.number =
    get_or-map (λ (x : BlockView). x.number) cs k b b.number (omega (arith, low)) ∙ ap (λ (x : BlockView). x.number) at in
    let many : length (numbers_of cs) ≡ length cs = length-map cs (λ (x : BlockView). x.number) in
    let apart : c.number ≢ b.number = λ e. distinct 0 (suc k) b.number (omega arith) (omega (arith, low, many)) (e ∙ sym number) in
    let other : (c.number == b.number) ≡ false = apart_test c.number b.number apart in
    rw other (each_is_in cs (apart_tail c.number (numbers_of cs) distinct) b (k, omega (arith, low), at))

pub version_blocks : (v : VersionView) → IsVersion v → HasBlocksOf (block_in (blocks_of v.rows)) v
version_blocks v is = each_is_in (blocks_of v.rows) is.rows.numbers

-- The last version

used_kept : (opened : Bool) (last : ℕ) (p : Option BlockStatus) → is_at is_used p ≡ true → IsDatedBlock opened last p → IsKeptAt last p
used_kept opened last p used dated = grind (arith, common_steps)

pub last_kept : (d : DeskView) → IsDesk d → HasKeptBlocks d.pool d.last
last_kept d is b there =
    used_kept (is_among b.number d.opened) (length d.last.batches) (slice_get d.pool b.number)
    (is.listed b.number ∙ number_in (blocks_of d.last.rows) b there.0 there.1 there.2) (desk_dated d is b.number)

-- A batch

kept_not_free : (n : ℕ) (p : Option BlockStatus) → IsKeptAt n p → is_at is_free p ≡ false
kept_not_free n p kept = grind (arith, common_steps)

kept_after : (n number : ℕ) (p : Option BlockStatus) (dropped : Bool) → IsKeptAt n p → n < number
    → IsKeptAt n (number_after number p false dropped)
kept_after n number p dropped kept below = grind (arith, common_steps)

module _ (old new : DeskView) (ops : List NamedOp) (accepts : Accepts old ops new) where
  -- takes blocks that were free, and so none that is kept
  legal : IsLegalBatch old.pool accepts.taken accepts.dropped
  legal = legal_batch (ledger_of old) ops accepts.taken accepts.dropped accepts.accepted.legal

  not_taken : (n m : ℕ) → IsKeptAt n (slice_get old.pool m) → is_among m accepts.taken ≡ false
  not_taken n m kept = elim (is_among m accepts.taken) as (λ t. is_among m accepts.taken ≡ t → t ≡ false) [
    | true ↦ λ e.
        absurd (true≢false (sym (all_listed (is_free_at old.pool) accepts.taken m legal.free e)
        ∙ kept_not_free n (slice_get old.pool m) kept))
    | false ↦ λ e. refl
  ] refl

  pub blocks_stay : (v : VersionView) → length v.batches ≤ length old.last.batches → HasKeptBlocks old.pool v → HasKeptBlocks new.pool v
  blocks_stay v low keeps b there =
      let n : ℕ = length v.batches in
      let number : ℕ = length old.last.batches + 1 in
      let kept = keeps b there in
      let dropped : Bool = is_among b.number accepts.dropped in
      let after : slice_get new.pool b.number ≡ number_after number (slice_get old.pool b.number) false dropped =
      ap (λ (l : Ledger). slice_get l.pool b.number) accepts.accepted.ledger
      ∙ exchanged_at number accepts.taken accepts.dropped old.pool b.number legal.dropped_apart
      ∙ ap (λ t. number_after number (slice_get old.pool b.number) t dropped) (not_taken n b.number kept) in
      subst (IsKeptAt n) (sym after)
      (kept_after n number (slice_get old.pool b.number) dropped kept (omega (arith, low)))

  -- the block of a number afterwards
  abbrev pub next_block : (ℕ → BlockView) → ℕ → BlockView
  next_block block_of n = if is_among n accepts.taken then block_in (blocks_of new.last.rows) n else block_of n

  pub same_blocks : (block_of : ℕ → BlockView) (v : VersionView) → HasBlocksOf block_of v → HasKeptBlocks old.pool v
      → HasBlocksOf (next_block block_of) v
  same_blocks block_of v has keeps b there =
      let none : is_among b.number accepts.taken ≡ false = not_taken (length v.batches) b.number (keeps b there) in
      rw none (has b there)

  before : (b : BlockView) → Contains (blocks_of new.last.rows) b → is_among b.number accepts.taken ≡ false
      → Contains (blocks_of old.last.rows) b
  before b there none =
      subst (Contains (blocks_of old.last.rows)) there.2 (accepts.accepted.kept there.0 b there.1
      (subst (λ (x : BlockView). is_among x.number accepts.taken ≡ false) (sym there.2) none))

  pub next_blocks : (block_of : ℕ → BlockView) → HasBlocksOf block_of old.last → IsVersion new.last
      → HasBlocksOf (next_block block_of) new.last
  next_blocks block_of has is b there = elim (is_among b.number accepts.taken) as (λ t. is_among b.number accepts.taken ≡ t
      → b ≡ (if t then block_in (blocks_of new.last.rows) b.number else block_of b.number)) [
        | true ↦ λ e. version_blocks new.last is b there
        | false ↦ λ e. has b (before b there e)
      ] refl

-- A collection

kept_recycled : (copy : PinCopy) (seat n : ℕ) (p : Option BlockStatus) → get_or copy.settled seat None ≡ Some n → IsKeptAt n p
    → IsKeptAt n (option_map (recycled copy) p)
kept_recycled copy seat n None at kept = kept
kept_recycled copy seat n (Some Free) at kept = kept
kept_recycled copy seat n (Some Granted) at kept = kept
kept_recycled copy seat n (Some (Used birth)) at kept = kept
kept_recycled copy seat n (Some (Retired birth retirement)) at kept =
    let needed : needs copy birth retirement ≡ true = settled_needed copy birth retirement seat n at kept.0 kept.1 in rw needed kept

pub collected_kept : (old new : DeskView) (copy : PinCopy) (seat : ℕ) (v : VersionView) → IsCollected old copy new
    → get_or copy.settled seat None ≡ Some (length v.batches) → HasKeptBlocks old.pool v → HasKeptBlocks new.pool v
collected_kept old new copy seat v collected at keeps b there =
    subst (IsKeptAt (length v.batches)) (sym (ap (λ (pool : List BlockStatus). slice_get pool b.number) collected.pool
    ∙ slice_get-map (recycled copy) old.pool b.number))
    (kept_recycled copy seat (length v.batches) (slice_get old.pool b.number) at (keeps b there))
