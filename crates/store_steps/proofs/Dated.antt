-- A journal that replays leaves blocks whose births and retirements are numbers of its versions.
use Rattle.std.proofs.Common.{◌≡◌, ℕ, zero, suc, ◌+◌, Bool, true, false, List, [], ◌∷◌, ◌++◌, length, refl, sym, subst, arith}
use Rattle.std.proofs.{Common.{length-append, replicate}, lemmas.{Grind.common_steps, Option.slice_get-map}}
use Rattle.std.specs.{Option.{option_map, option_and_then}, Prelude.{slice_get, if◌then◌else◌}, declared.option.Option.Option}
use Rattle.std.specs.declared.option.Option.TheVariants.{None, Some}
use Rattle.graph_types.specs.declared.batches.NamedOp.{NamedOp}
use Rattle.block_reclamation.specs.{Status.{is_among, is_free, is_used, is_at, recycled}, declared.copies.PinCopy.PinCopy}
use Rattle.block_reclamation.specs.declared.status.BlockStatus.{BlockStatus, TheVariants.{Free, Used}}
use Rattle.block_pool.specs.Pools.{is_free_at, is_used_at}
use Rattle.epoch_core.proofs.Lists.{all_listed}
use Rattle.block_pool.proofs.OneNumber.{number_after}
use Rattle.store_steps.specs.Journal.{Entry, Applied, Collected, Ledger, opened_ledger, is_legal, after_entry, exchanged, replay}
use Rattle.store_steps.{specs.{Desks.{DeskView, IsDesk, ledger_of}, Dates.{IsDatedBlock, AreDated}}, proofs.ChangedLists.marked_at}
use Rattle.store_steps.proofs.{Applications.exchanged_at, Posting.{IsLegalBatch, legal_batch}}

-- One number

number_dated : (o : Bool) (last : ℕ) (p : Option BlockStatus) (t d : Bool) → IsDatedBlock o last p
    → (t ≡ true → is_at is_free p ≡ true) → (d ≡ true → is_at is_used p ≡ true)
    → IsDatedBlock o (last + 1) (number_after (last + 1) p t d)
number_dated o last p t d is f g = grind (arith, common_steps)

recycled_dated : (o : Bool) (last : ℕ) (copy : PinCopy) (p : Option BlockStatus) → IsDatedBlock o last p
    → IsDatedBlock o last (option_map (recycled copy) p)
recycled_dated o last copy p is = grind (arith, common_steps)

-- Entries

batch_dated : (opened : List ℕ) (l : Ledger) (ops : List NamedOp) (taken dropped : List ℕ)
    → is_legal l (Applied ops taken dropped) ≡ true → AreDated opened (length l.batches) l.pool
    → AreDated opened (length l.batches + 1) (exchanged (length l.batches + 1) taken dropped l.pool)
batch_dated opened l ops taken dropped is dated m =
    let legal : IsLegalBatch l.pool taken dropped = legal_batch l ops taken dropped is in
    subst (IsDatedBlock (is_among m opened) (length l.batches + 1))
    (sym (exchanged_at (length l.batches + 1) taken dropped l.pool m legal.dropped_apart))
    (number_dated (is_among m opened) (length l.batches) (slice_get l.pool m) (is_among m taken) (is_among m dropped) (dated m)
    (λ t. all_listed (is_free_at l.pool) taken m legal.free t) (λ t. all_listed (is_used_at l.pool) dropped m legal.born t))

entry_dated : (opened : List ℕ) (l : Ledger) (e : Entry) → is_legal l e ≡ true → AreDated opened (length l.batches) l.pool
    → AreDated opened (length (after_entry l e).batches) (after_entry l e).pool
entry_dated opened l (Applied ops taken dropped) is dated =
    let long : length (l.batches ++ ops ∷ []) ≡ length l.batches + 1 = omega (arith, length-append l.batches (ops ∷ [])) in
    subst (λ k. AreDated opened k (exchanged (length l.batches + 1) taken dropped l.pool)) (sym long)
    (batch_dated opened l ops taken dropped is dated)
entry_dated opened l (Collected copy count) is dated = λ m.
    subst (IsDatedBlock (is_among m opened) (length l.batches)) (sym (slice_get-map (recycled copy) l.pool m))
    (recycled_dated (is_among m opened) (length l.batches) copy (slice_get l.pool m) (dated m))

replay_dated : (opened : List ℕ) (es : List Entry) (l m : Ledger) → AreDated opened (length l.batches) l.pool
    → replay es l ≡ Some m → AreDated opened (length m.batches) m.pool
replay_dated opened [] l m dated is =
    let same : l ≡ m = cc in subst (λ (x : Ledger). AreDated opened (length x.batches) x.pool) same dated
replay_dated opened (e ∷ es) l m dated is =
    elim (is_legal l e) as (λ t. is_legal l e ≡ t → option_and_then (replay es) (if t then Some (after_entry l e) else None)
    ≡ Some m → AreDated opened (length m.batches) m.pool) [
      | true ↦ λ legal rest. replay_dated opened es (after_entry l e) m (entry_dated opened l e legal dated) rest
      | false ↦ λ legal rest. cc
    ] refl is

-- at the opening

free_dated : (o : Bool) (blocks m : ℕ) → IsDatedBlock o 0 (slice_get (replicate blocks Free) m)
free_dated o zero m = tt
free_dated o (suc blocks) zero = tt
free_dated o (suc blocks) (suc m) = free_dated o blocks m

one_dated : (o : Bool) (p : Option BlockStatus) → IsDatedBlock o 0 p → IsDatedBlock o 0 (if o then option_map (λ _. Used 0) p else p)
one_dated o p is = grind (arith, common_steps)

opened_dated : (blocks : ℕ) (opened : List ℕ) → AreDated opened 0 (opened_ledger blocks opened).pool
opened_dated blocks opened m =
    subst (IsDatedBlock (is_among m opened) 0) (sym (marked_at opened (Used 0) (replicate blocks Free) m))
    (one_dated (is_among m opened) (slice_get (replicate blocks Free) m) (free_dated (is_among m opened) blocks m))

pub desk_dated : (d : DeskView) → IsDesk d → AreDated d.opened (length d.last.batches) d.pool
desk_dated d desk =
    replay_dated d.opened d.journal (opened_ledger (length d.pool) d.opened) (ledger_of d)
    (opened_dated (length d.pool) d.opened) desk.replays
