-- A batch that is ready, as one handed over.
use Rattle.std.proofs.Common.{◌≡◌, ℕ, ◌+◌, ◌≤◌, List, length, refl, sym, ap, subst, ◌∙◌, count_by, vec_len}
use Rattle.graph_types.specs.declared.batches.NamedOp.{NamedOp}
use Rattle.graph_version.specs.{Versions.VersionView}
use Rattle.batch_apply.specs.{Planned.workers_for, declared.plans.Plan.Plan}
use Rattle.block_reclamation.specs.{Status.is_retired, declared.status.BlockStatus.{BlockStatus, TheVariants.{Free, Granted}}}
use Rattle.block_pool.specs.Pools.{marked, AreFree}
use Rattle.store_steps.{specs.Desks.DeskView, proofs.GrantedBlocks.given_back}
use Rattle.desk.specs.{Applying.IsPrepared, Kept.{IsKeptDesk, desk_in}, Journals.JournalView, declared.{applying.Prepared.Prepared, desks.Parts.Parts}}
use Rattle.desk.specs.{Ready.{IsGranted, IsReady, old_of, ops_of}, Refusals.{IsAdmitted, IsPlanned}}
use Rattle.desk.proofs.{Handing.Handing, Collections.kept_same}

abbrev pub handing_of : (parts : Parts) (numbers : List ℕ) (p : Prepared) → IsReady parts numbers p → Handing
handing_of parts numbers p r = record {
  old = old_of parts numbers;
  ops = ops_of p;
  numbers = numbers;
  handed = numbers;
  prepared = p;
  pool = parts.pool;
  before = r.granted.before.desk;
  free = r.granted.free;
  same = refl;
  is_prepared = r.prepared;
  granted = r.granted.granted;
}

-- parts that differ in room alone
module _ (p q : Parts) (numbers : List ℕ) (opened : q.opened ≡ p.opened) (last : q.last ≡ p.last) (pool : q.pool ≡ p.pool)
    (entries : q.journal.entries ≡ p.journal.entries) where
  pub same_old : old_of q numbers ≡ old_of p numbers
  same_old = λ i. record {
    opened = opened i;
    last = last i;
    journal = entries i;
    pool = marked numbers Free (pool i);
  }

  pub granted_same : IsGranted p numbers → q.journal.keeps ≡ p.journal.keeps → p.journal.room ≤ q.journal.room
      → IsGranted q numbers
  granted_same is alike grows = record {
    before = kept_same (old_of p numbers) (old_of q numbers) _ _ _ _ is.before same_old alike grows;
    free = subst (λ (d : DeskView). AreFree d.pool numbers) (sym same_old) is.free;
    granted = pool ∙ is.granted ∙ ap (λ (d : DeskView). marked numbers Granted d.pool) (sym same_old);
  }

  pub ready_from : (ops : List NamedOp) (made : Prepared) → IsGranted p numbers → q.journal.keeps ≡ p.journal.keeps
      → p.journal.room ≤ q.journal.room → IsPrepared (old_of p numbers).last ops numbers made
      → count_by is_retired q.pool + vec_len made.dropped + 1 ≤ q.journal.room
      → IsReady q numbers made
  ready_from ops made is alike grows prepared room = record {
    granted = granted_same is alike grows;
    prepared = subst (λ (d : DeskView). IsPrepared d.last (ops_of made) numbers made) (sym same_old)
        (subst (λ xs. IsPrepared (old_of p numbers).last xs numbers made) (sym prepared.batch_is) prepared);
    room = room;
  }

-- parts after a grant: the desk of before is that of the parts of before
module _ (p q : Parts) (numbers : List ℕ) (free : AreFree p.pool numbers) (granted : q.pool ≡ marked numbers Granted p.pool)
    (opened : q.opened ≡ p.opened) (last : q.last ≡ p.last) (journal : q.journal ≡ p.journal) where
  back : marked numbers Free q.pool ≡ p.pool
  back = ap (marked numbers Free) granted ∙ given_back p.pool numbers free

  pub old_same : old_of q numbers ≡ desk_in p
  old_same = λ i. record {
    opened = opened i;
    last = last i;
    journal = (journal i).entries;
    pool = back i;
  }

  pub granted_from : IsKeptDesk (desk_in p) p.journal.keeps p.journal.room → IsGranted q numbers
  granted_from is = record {
    before = subst (λ (d : DeskView). IsKeptDesk d q.journal.keeps q.journal.room) (sym old_same)
        (subst (λ (j : JournalView). IsKeptDesk (desk_in p) j.keeps j.room) (sym journal) is);
    free = subst (λ (xs : List BlockStatus). AreFree xs numbers) (sym back) free;
    granted = granted ∙ ap (marked numbers Granted) (sym back);
  }

-- a plan for as many of these workers as share the batch
pub planned : (v : VersionView) (workers : ℕ) (ops : List NamedOp) (plan : Plan) (a : IsAdmitted v workers ops plan)
    → IsPlanned v (workers_for workers (length ops + length a.shared.old)) ops plan
planned v workers ops plan a = record { few = a.few; limits = a.limits; some = a.shared.some; planned = a.shared.planned }
