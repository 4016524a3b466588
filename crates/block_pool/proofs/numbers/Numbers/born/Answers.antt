use Rattle.std.proofs.{Common.{◌∙◌, ap, sym, refl, take, arith}, Math.ListN.length-set}
use Rattle.block_reclamation.specs.{declared.status.BlockStatus.TheVariants.Used, Status.{is_free, is_retired}}
use Rattle.block_pool.specs.{Kept.statuses, Paging.Paged}
use Rattle.block_pool.proofs.{Tallies.{lists_same, used_at, count_kept}, Stacking.sorted_set, Rooms.roomy_set}
use Rattle.block_pool.proofs.numbers.Numbers.born.Goals as goal

pub set-requires : goal.set-requires
set-requires c =
    let at = used_at (statuses c.args.self.now) c.args.number c.requires.in_use in
    record { within = at.within; room = c.requires.kept.roomy.status c.args.number at.within at.not_free }

pub returns-clause-kept : goal.returns-clause-kept
returns-clause-kept c =
    let n = c.args.self.now in
    let k = c.requires.kept in
    let at = used_at (statuses n) c.args.number c.requires.in_use in
    let long_after = length-set n.statuses.items c.args.number (Used c.args.version) in
    rw c.set.ensures (record {
      few = omega (arith, k.few);
      free_room = omega (arith, k.free_room);
      bound = omega (arith, k.bound);
      seats = k.seats;
      free_in = omega (arith, k.free_in);
      free_are = lists_same is_free (statuses n) (take n.free_len n.free.items) k.free_are c.args.number (Used c.args.version) at.within
          at.not_free;
      retired_in = k.retired_in
          ∙ sym (count_kept is_retired (statuses n) c.args.number (Used c.args.version) at.within at.not_retired);
      sorted = sorted_set k.sorted c.args.number (Used c.args.version) at.within
          at.not_retired refl (λ _. refl);
      roomy = roomy_set k.roomy c.args.number (Used c.args.version) _ at.within (omega arith) (λ _. at.not_free);
    })

pub returns-clause-statuses : goal.returns-clause-statuses
returns-clause-statuses c = ap (λ (st : Paged _). st.items) c.set.ensures
