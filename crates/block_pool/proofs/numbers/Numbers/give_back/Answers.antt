use Rattle.std.proofs.Common.{◌∙◌, ap, set, sym, subst, refl, take, arith}
use Rattle.std.proofs.{Math.ListN.length-set, lemmas.{List.take_more_set, Bool.true≢false}}
use Rattle.block_reclamation.specs.{declared.status.BlockStatus.TheVariants.Free, Status.{is_free, is_retired}}
use Rattle.block_pool.specs.{Kept.{statuses, Lists}, Paging.Paged}
use Rattle.block_pool.proofs.{Tallies.lists_more, Tallies.used_at, Tallies.count_kept, Grants.free_places, Stacking.sorted_set, Rooms.roomy_set}
use Rattle.block_pool.proofs.numbers.Numbers.give_back.Goals as goal

pub set-requires : goal.set-requires
set-requires c =
    let n = c.args.self.now in
    let at = used_at (statuses n) c.args.number c.requires.in_use in
    record { within = at.within; room = c.requires.kept.roomy.status c.args.number at.within at.not_free }

pub set-requires-2 : goal.set-requires-2
set-requires-2 c =
    let n = c.args.self.now in
    let at = used_at (statuses n) c.args.number c.requires.in_use in
    let lt = free_places n c.requires.kept c.args.number at.within at.not_free in
    record { within = lt; room = c.requires.kept.roomy.last n.free_len (omega arith) (omega (arith, lt, c.requires.kept.free_room)) }

pub returns-clause-kept : goal.returns-clause-kept
returns-clause-kept c =
    let n = c.args.self.now in
    let k = c.requires.kept in
    let at = used_at (statuses n) c.args.number c.requires.in_use in
    let lt = free_places n k c.args.number at.within at.not_free in
    let long_after = length-set n.statuses.items c.args.number Free in
    let free = length-set n.free.items n.free_len c.args.number in
    rw (c.set.ensures, c.set-2.ensures) (record {
      few = omega (arith, k.few);
      free_room = omega (arith, k.free_room);
      bound = omega (arith, k.bound);
      seats = k.seats;
      free_in = omega (arith, k.free_room);
      free_are = subst (Lists is_free (set (statuses n) c.args.number Free))
          (sym (take_more_set n.free.items n.free_len c.args.number lt))
          (lists_more is_free (statuses n) (take n.free_len n.free.items) k.free_are c.args.number Free at.within
          at.not_free refl);
      retired_in = k.retired_in
          ∙ sym (count_kept is_retired (statuses n) c.args.number Free at.within at.not_retired);
      sorted = sorted_set k.sorted c.args.number Free at.within at.not_retired refl
          (λ _. refl);
      roomy = roomy_set k.roomy c.args.number Free _ at.within (omega arith) (λ e. absurd (true≢false e));
    })

pub returns-clause-statuses : goal.returns-clause-statuses
returns-clause-statuses c = ap (λ (st : Paged _). st.items) c.set.ensures
