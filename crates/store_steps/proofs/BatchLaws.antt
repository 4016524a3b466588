-- The laws in the words of their clauses.
use Rattle.std.proofs.{Common.{◌≡◌, ℕ, ◌+◌, Bool, true, false, List, length, refl, ap, ◌∙◌, arith}, lemmas.Grind.common_steps}
use Rattle.std.{proofs.lemmas.List.length-map, specs.{Prelude.if◌then◌else◌, declared.option.Option.TheVariants.{None, Some}}}
use Rattle.graph_types.specs.declared.batches.NamedOp.{NamedOp}
use Rattle.graph_version.specs.Rows.{numbers_of}
use Rattle.block_reclamation.specs.{Status.is_among, declared.status.BlockStatus.TheVariants.{Free, Granted, Used}}
use Rattle.block_pool.specs.Pools.{retired, is_free_at, marked, changed_numbers, is_used_at, AreFree}
use Rattle.epoch_core.proofs.Lists.{all_listed}
use Rattle.store_steps.specs.Journal.{Entry, Applied, Ledger, is_legal, after_entry, entered}
use Rattle.store_steps.specs.{Desks.{DeskView, IsDesk, ledger_of}, Steps.{Simulates, posting}}
use Rattle.store_steps.specs.Acceptances.{Application, IsAppliedTo, Acceptance, IsAccepted, Accepts, KeepsUntaken}
use Rattle.store_steps.specs.Acceptances.{acceptance_of, desk_after, applied_entry}
use Rattle.store_steps.proofs.Applications.{DeskApplication, acceptance, dropped_numbers, next_desk, moves_left}
use Rattle.store_steps.proofs.Accepting.{made_legal, made_kept, made_births, made_dropped_births, made_ledger, made_desk}
use Rattle.store_steps.proofs.{Posting.{legal_batch, entered_simulates}, StatusCounts.accepted_counts}

-- an entry that isn't legal isn't entered
pub not_entered : (l : Ledger) (e : Entry) → is_legal l e ≡ false → entered l e ≡ None
not_entered l e is = ap (λ t. if t then Some (after_entry l e) else None) is

not_if : (b : Bool) → (b ≡ true → false ≡ true) → b ≡ false
not_if b h = grind (arith, common_steps)

-- a batch that takes what isn't free, or drops what isn't the last version's, isn't entered
pub taken_is_free : (l : Ledger) (batch : List NamedOp) (taken dropped : List ℕ) (n : ℕ) → is_among n taken ≡ true
    → is_free_at l.pool n ≡ false → entered l (Applied batch taken dropped) ≡ None
taken_is_free l batch taken dropped n is none = grind (arith, common_steps, not_entered, not_if, all_listed, legal_batch)

pub dropped_is_born : (l : Ledger) (batch : List NamedOp) (taken dropped : List ℕ) (n : ℕ) → is_among n dropped ≡ true
    → is_used_at l.pool n ≡ false → entered l (Applied batch taken dropped) ≡ None
dropped_is_born l batch taken dropped n is none = grind (arith, common_steps, not_entered, not_if, all_listed, legal_batch)

-- whatever the desks: the machine simulates a batch whose entry is legal and entered
pub accepted_steps : (a : Acceptance) → IsDesk a.old → IsDesk a.new → a.new.opened ≡ a.old.opened
    → a.new.last.opening ≡ a.old.last.opening → is_legal (ledger_of a.old) (applied_entry a) ≡ true
    → ledger_of a.new ≡ after_entry (ledger_of a.old) (applied_entry a) → KeepsUntaken a
    → Simulates a.old (posting a.new.last a.batch a.taken) a.new
accepted_steps a before after opened opening legal ledger kept =
    entered_simulates (record {
      made = a;
      before = before;
      after = after;
      opened = opened;
      opening = opening;
      legal = legal;
      ledger = ledger;
      kept = kept;
    })

-- A batch that was applied with granted blocks is accepted

pub made_accepted : (a : DeskApplication) → IsAccepted (acceptance a)
made_accepted a =
    let legal : is_legal (ledger_of a.old) (applied_entry (acceptance a)) ≡ true = made_legal a in
    let ledger : ledger_of (next_desk a) ≡ after_entry (ledger_of a.old) (applied_entry (acceptance a)) = made_ledger a in
    let many : length (dropped_numbers a) ≡ length a.made.dropped = length-map a.made.dropped (λ b. b.number) in
    record {
      opened = refl;
      opening = a.applied.opening;
      journal = refl;
      legal = legal;
      ledger = ledger;
      kept = made_kept a;
      layout = a.applied.layout;
      taken_are = a.applied.taken_are;
      dropped_are = many ∙ a.applied.dropped_are;
      births = made_births a;
      dropped_births = made_dropped_births a;
      counts = accepted_counts (acceptance a) legal ledger;
      steps = accepted_steps (acceptance a) a.before (made_desk a) refl a.applied.opening legal ledger (made_kept a);
    }

pub made_accepts : (a : DeskApplication) → Accepts a.old a.made.batch (next_desk a)
made_accepts a = record { taken = a.made.taken; dropped = dropped_numbers a; accepted = made_accepted a }

module _ (d : DeskView) (a : Application) (desk : IsDesk d) (free : AreFree d.pool a.granted) (is : IsAppliedTo d.last a) where
  abbrev on_desk : DeskApplication
  on_desk = record { old = d; made = a; before = desk; free = free; applied = is }

  pub applied_accepted : IsAccepted (acceptance_of d a)
  applied_accepted = made_accepted on_desk

  pub applied_desk : IsDesk (desk_after d a)
  applied_desk = made_desk on_desk

  pub applied_moves :
      marked a.unused Free (changed_numbers (retired (length d.last.batches + 1)) (numbers_of a.dropped)
      (marked a.taken (Used (length d.last.batches + 1)) (marked a.granted Granted d.pool)))
      ≡ (desk_after d a).pool
  applied_moves = moves_left on_desk
