use Rattle.std.proofs.Common.{List, Option, None, true, ◌≡◌, ◌∙◌, ℕ, length, take, replicate, count_by, sym, ap, subst, arith}
use Rattle.std.proofs.lemmas.List.{length-replicate, take_all}
use Rattle.block_pool.specs.Kept.{Lists, IsSorted, HasRoomFor}
use Rattle.block_reclamation.specs.{declared.status.BlockStatus.TheVariants.Free, Status.{is_free, is_retired}}
use Rattle.graph_types.proofs.Joined.{all_blank}
use Rattle.block_pool.proofs.{Tallies.{none_retired, tally_true}, Stacking.sorted_first, Paging.length-by_place}
use Rattle.block_pool.proofs.Rooms.{listed_first, room_first}
use Rattle.block_pool.proofs.numbers.Numbers.all_free.Goals as goal

pub returns-clause-kept : goal.returns-clause-kept
returns-clause-kept c =
    let count : ℕ = c.args.count in
    let are = c.in_ok-new.ensures ∙ all_blank Free 0 count in
    let long : length c.in_ok-new.field-0.items ≡ count = ap length are ∙ length-replicate count Free in
    let room : List ℕ = c.in_ok-new-2.field-0.items in
    let free : length room ≡ count = ap length c.in_ok-new-2.ensures ∙ length-by_place (λ n. n) count in
    let pins : List (Option ℕ) = replicate 16 None in
    let least : ℕ = 18446744073709551615 in
    record {
      few = omega (arith, c.requires);
      free_room = omega arith;
      bound = c.in_ok-new-3.ensures.0 ∙ sym long;
      seats = omega arith;
      free_in = omega arith;
      free_are = subst (λ ps. Lists is_free ps (take count room)) (sym are)
          (subst (Lists is_free (replicate count Free))
          (sym (take_all count room (omega arith) ∙ c.in_ok-new-2.ensures)) (listed_first count));
      retired_in = sym (ap (count_by is_retired) are ∙ sym (tally_true is_retired 0 (replicate count Free))
          ∙ none_retired (λ _. true) 0 count);
      sorted = subst (λ ps. IsSorted ps pins least c.in_ok-new-3.field-0.lists) (sym are)
          (subst (IsSorted (replicate count Free) pins least) (sym c.in_ok-new-3.ensures.1)
          (sorted_first count least pins));
      roomy = record {
        status = subst (λ ps. HasRoomFor ps c.in_ok-new.field-0.rooms) (sym are) (room_first count c.in_ok-new.field-0.rooms);
        link = subst (λ ps. HasRoomFor ps c.in_ok-new-3.field-0.rooms) (sym are) (room_first count c.in_ok-new-3.field-0.rooms);
        last = λ place le lt. absurd (omega (arith, le, lt, long));
      };
    }

pub returns-clause-statuses : goal.returns-clause-statuses
returns-clause-statuses c = c.in_ok-new.ensures ∙ all_blank Free 0 c.args.count
