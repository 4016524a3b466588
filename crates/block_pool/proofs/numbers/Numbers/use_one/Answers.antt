use Rattle.std.proofs.Common.{◌≡◌, ◌∙◌, ◌+◌, ◌<◌, ℕ, length, get_or, set, count_by, cond, ◌-◌, sym, ap, refl, subst, take, arith}
use Rattle.std.proofs.{Math.ListN.length-set, lemmas.List.take_more}
use Rattle.block_pool.specs.{Kept.{statuses, status_of}, Paging.{Paged, HasRoom}}
use Rattle.block_reclamation.specs.{declared.status.BlockStatus.TheVariants.Granted, Status.{is_free, is_retired}}
use Rattle.block_reclamation.proofs.OneStatus.{free_not_retired}
use Rattle.graph_types.proofs.Sums.{count_last}
use Rattle.block_pool.proofs.{Grants.free_read, Tallies.{lists_less, count_kept}}
use Rattle.block_pool.proofs.{Stacking.sorted_set, Rooms.roomy_granted}
use Rattle.block_pool.proofs.numbers.Numbers.use_one.Goals as goal

pub get-number-requires : goal.get-number-requires
get-number-requires c = omega (arith, c.requires.some, c.requires.kept.free_in, c.requires.kept.free_room)

pub set-requires : goal.set-requires
set-requires c =
    let n = c.args.self.now in
    let (same, within, _) = free_read n c.requires.kept (n.free_len - 1) c.get-number.result (omega (arith, c.requires.some))
    c.get-number.ensures in
    let z : n.free_len - 1 - 0 ≡ n.free_len - 1 = omega arith in
    record {
      within = within;
      room = subst (HasRoom n.statuses.rooms) (ap (λ i. get_or n.free.items i 0) z ∙ sym same) c.requires.ready.status;
    }

pub returns-clause-kept : goal.returns-clause-kept
returns-clause-kept c =
    let n = c.args.self.now in
    let k = c.requires.kept in
    let num : ℕ = c.get-number.result in
    let m : ℕ = n.free_len - 1 in
    let more : m + 1 ≡ n.free_len = omega (arith, c.requires.some) in
    let ml : m < length n.free.items = omega (arith, c.requires.some, k.free_in, k.free_room) in
    let (same, within, st) = free_read n k m num (omega (arith, c.requires.some)) c.get-number.ensures in
    let long_after = length-set n.statuses.items num Granted in
    let z : n.free_len - 1 - 0 ≡ n.free_len - 1 = omega arith in
    let here = ap (λ i. get_or n.free.items i 0) z ∙ sym same in
    rw c.set.ensures (record {
      few = omega (arith, k.few);
      free_room = omega (arith, k.free_room);
      bound = omega (arith, k.bound);
      seats = k.seats;
      free_in = omega (arith, k.free_in);
      free_are = lists_less is_free (statuses n) (take n.free_len n.free.items) k.free_are num Granted within (take m n.free.items)
          (λ q. ap (λ j. count_by q (take j n.free.items)) (sym more) ∙ ap (count_by q) (take_more n.free.items m 0 ml)
          ∙ count_last q (take m n.free.items) (get_or n.free.items m 0)
          ∙ ap (λ b. count_by q (take m n.free.items) + cond (q b) 1 0) (sym same))
          st refl;
      retired_in = k.retired_in
          ∙ sym (count_kept is_retired (statuses n) num Granted within (free_not_retired (status_of (statuses n) num) st));
      sorted = sorted_set k.sorted num Granted within (free_not_retired (status_of (statuses n) num) st) refl (λ _. refl);
      roomy = roomy_granted k.roomy num c.requires.some k.free_in (subst (HasRoom n.statuses.rooms) here c.requires.ready.status)
          (subst (HasRoom n.retired.rooms) here c.requires.ready.link) (subst (HasRoom n.free.rooms) z c.requires.ready.last);
    })

pub returns-clause-statuses : goal.returns-clause-statuses
returns-clause-statuses c =
    let n = c.args.self.now in
    ap (λ (st : Paged _). st.items) c.set.ensures
    ∙ ap (λ j. set (statuses n) j Granted)
    (free_read n c.requires.kept (n.free_len - 1) c.get-number.result (omega (arith, c.requires.some)) c.get-number.ensures).0

pub returns-clause-rooms : goal.returns-clause-rooms
returns-clause-rooms c = record { status = ap (λ (st : Paged _). st.rooms) c.set.ensures; link = refl; free = refl }
