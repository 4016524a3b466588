use Rattle.std.proofs.Common.{◌≡◌, ◌∙◌, ◌<◌, ℕ, length, set, sym, ap, refl, take, arith}
use Rattle.std.proofs.{Common.{true, subst}, Math.ListN.length-set, lemmas.{List.take_more_set, Bool.true≢false}}
use Rattle.block_pool.specs.{Chains.{Stacks, stack_of}, declared.numbers.{Numbers.Numbers, TheConstants.LOOSE}, Kept.statuses}
use Rattle.block_pool.specs.{Kept.{status_of, Lists, IsNumbers, top_of}, Paging.{Paged, HasRoom}}
use Rattle.block_reclamation.specs.{declared.status.BlockStatus.TheVariants.{Free, Granted}, Status.{is_free, is_retired}}
use Rattle.block_reclamation.proofs.OneStatus.{retired_not_free}
use Rattle.graph_types.proofs.Sums.{count_at, count_here}
use Rattle.block_pool.proofs.Tallies.{lists_more}
use Rattle.block_pool.proofs.{Grants.free_places, Stacking.top_listed, Stacking.sorted_freed, Rooms.roomy_set}
use Rattle.block_pool.proofs.numbers.Numbers.release_top.Goals as goal

pub top-number-requires : goal.top-number-requires
top-number-requires c = record { stack = omega (arith, c.requires.kept.sorted.many); some = c.requires.some }

pub pop-requires : goal.pop-requires
pop-requires c = record { stack = omega (arith, c.requires.kept.sorted.many); some = c.requires.some }

pub overflow_sub-self : goal.overflow_sub-self
overflow_sub-self c =
    let n = c.args.self.now in
    let k = c.requires.kept in
    let is = top_listed k.sorted LOOSE (omega arith) c.requires.some in
    let one = count_at is_retired (statuses n) (top_of (stack_of n.retired.lists LOOSE)) Granted is.0 is.1 in
    omega (arith, one, k.retired_in)

pub set-requires : goal.set-requires
set-requires c =
    let n = c.args.self.now in
    let k = c.requires.kept in
    let is = top_listed k.sorted LOOSE (omega arith) c.requires.some in
    let num : c.top-number.result ≡ top_of (stack_of n.retired.lists LOOSE) = sym (ap top_of c.top-number.ensures) in
    record {
      within = omega (arith, is.0, num);
      room = subst (HasRoom n.statuses.rooms) (sym num) (k.roomy.status _ is.0 (retired_not_free _ is.1));
    }

-- there is room for one more free number
room_left : (n : Numbers) → IsNumbers n → 0 < length (stack_of n.retired.lists LOOSE) → n.free_len < length n.free.items
room_left n k some =
    let is = top_listed k.sorted LOOSE (omega arith) some in free_places n k _ is.0 (retired_not_free _ is.1)

pub set-requires-2 : goal.set-requires-2
set-requires-2 c =
    let n = c.args.self.now in
    let k = c.requires.kept in
    let left = room_left n k c.requires.some in
    record { within = left; room = k.roomy.last n.free_len (omega arith) (omega (arith, left, k.free_room)) }

pub returns-clause-kept : goal.returns-clause-kept
returns-clause-kept c =
    let n = c.args.self.now in
    let k = c.requires.kept in
    let r : ℕ = top_of (stack_of n.retired.lists LOOSE) in
    let num : ℕ = c.top-number.result in
    let same : num ≡ r = sym (ap top_of c.top-number.ensures) in
    let is = top_listed k.sorted LOOSE (omega arith) c.requires.some in
    let within : num < length (statuses n) = omega (arith, is.0, same) in
    let st : is_retired (status_of (statuses n) num) ≡ true = ap (λ j. is_retired (status_of (statuses n) j)) same ∙ is.1 in
    let lt : n.free_len < length n.free.items = room_left n k c.requires.some in
    let long_after = length-set n.statuses.items num Free in
    let free = length-set n.free.items n.free_len num in
    let count = rw st at (count_here is_retired (statuses n) num Free Granted within) in
    rw (c.set.ensures, c.set-2.ensures, c.pop.ensures) (record {
      few = omega (arith, k.few);
      free_room = omega (arith, k.free_room);
      bound = k.bound ∙ sym long_after;
      seats = k.seats;
      free_in = omega (arith, k.free_room);
      free_are = subst (Lists is_free (set (statuses n) num Free)) (sym (take_more_set n.free.items n.free_len num lt))
          (lists_more is_free (statuses n) (take n.free_len n.free.items) k.free_are num Free within
          (retired_not_free (status_of (statuses n) num) st) refl);
      retired_in = omega (arith, k.retired_in);
      sorted = rw same (sorted_freed k.sorted c.requires.some);
      roomy = roomy_set k.roomy num Free _ within (omega arith) (λ e. absurd (true≢false e));
    })

pub returns-clause-lists : goal.returns-clause-lists
returns-clause-lists c = ap (λ (s : Stacks). s.lists) c.pop.ensures

pub returns-clause-statuses : goal.returns-clause-statuses
returns-clause-statuses c =
    let n = c.args.self.now in
    ap (λ (st : Paged _). st.items) c.set.ensures
    ∙ ap (λ (j : ℕ). set (statuses n) j Free) (sym (ap top_of c.top-number.ensures))
