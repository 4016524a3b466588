use Rattle.std.proofs.Common.{◌≡◌, ◌∙◌, set, sym, ap, refl, take, arith, false}
use Rattle.std.proofs.Math.ListN.{length-set}
use Rattle.block_pool.specs.{declared.numbers.TheConstants.LOOSE, Pools.retired, Kept.{statuses, status_of}, Paging.Paged}
use Rattle.block_reclamation.specs.{declared.status.BlockStatus.{BlockStatus, TheVariants.{Granted, Retired}}, Status.is_free}
use Rattle.block_reclamation.specs.Status.{is_retired}
use Rattle.graph_types.proofs.Sums.{count_here}
use Rattle.block_pool.proofs.Tallies.{lists_same, born_at}
use Rattle.block_pool.proofs.{Stacking.{absent, room, sorted_retired}, StatusReads.status_read, Rooms.roomy_set}
use Rattle.block_pool.proofs.numbers.Numbers.retire.Goals as goal

pub get-status-requires : goal.get-status-requires
get-status-requires c = omega (arith, (born_at (statuses c.args.self.now) c.args.number c.requires.born).0)

pub set-requires : goal.set-requires
set-requires c =
    let at = born_at (statuses c.args.self.now) c.args.number c.requires.born in
    record { within = at.0; room = c.requires.kept.roomy.status c.args.number at.0 (ap is_free at.1.1) }

pub push-requires : goal.push-requires
push-requires c =
    let n = c.args.self.now in
    let k = c.requires.kept in
    let at = born_at (statuses n) c.args.number c.requires.born in
    let not : is_retired (status_of (statuses n) c.args.number) ≡ false = ap is_retired at.1.1 in
    let here = room k.sorted c.args.number LOOSE at.0 not in
    record {
      stack = omega (arith, k.sorted.many);
      number = omega (arith, k.bound, at.0);
      absent = absent k.sorted c.args.number not;
      room = omega (arith, k.bound, here);
      link = k.roomy.link c.args.number at.0 (ap is_free at.1.1);
    }

pub returns-clause-kept : goal.returns-clause-kept
returns-clause-kept c =
    let n = c.args.self.now in
    let k = c.requires.kept in
    let at = born_at (statuses n) c.args.number c.requires.born in
    let dated : BlockStatus = Retired at.1.0 c.args.version in
    let read = status_read n c.args.number c.get-status.result at.0 c.get-status.ensures in
    let is : c.after_retiring.result ≡ dated =
    c.after_retiring.ensures ∙ ap (retired c.args.version) (sym read ∙ at.1.1) in
    let long_after = length-set n.statuses.items c.args.number dated in
    let not : is_retired (status_of (statuses n) c.args.number) ≡ false = ap is_retired at.1.1 in
    let count = rw not at (count_here is_retired (statuses n) c.args.number dated Granted at.0) in
    rw (c.set.ensures, is, c.push.ensures) (record {
      few = omega (arith, k.few);
      free_room = omega (arith, k.free_room);
      bound = omega (arith, k.bound);
      seats = k.seats;
      free_in = omega (arith, k.free_in);
      retired_in = omega (arith, k.retired_in, count);
      sorted = sorted_retired k.sorted c.args.number dated at.0 not refl;
      free_are = lists_same is_free (statuses n) (take n.free_len n.free.items) k.free_are c.args.number dated at.0
          (ap is_free at.1.1);
      roomy = roomy_set k.roomy c.args.number dated _ at.0 (omega arith) (λ _. ap is_free at.1.1);
    })

pub returns-clause-statuses : goal.returns-clause-statuses
returns-clause-statuses c =
    let n = c.args.self.now in
    let at = born_at (statuses n) c.args.number c.requires.born in
    let read = status_read n c.args.number c.get-status.result at.0 c.get-status.ensures in
    ap (λ (st : Paged _). st.items) c.set.ensures
    ∙ ap (set (statuses n) c.args.number) (c.after_retiring.ensures ∙ ap (retired c.args.version) (sym read))
