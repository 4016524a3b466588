-- Memory for what may be written.
use Rattle.std.proofs.Common.{◌≡◌, inl, inr, ℕ, zero, suc, ◌+◌, ◌-◌, ◌<◌, ◌≤◌, List, [], ◌∷◌, length, get_or, set, replicate}
use Rattle.std.proofs.Common.{true, false, refl, sym, ap, subst, ◌∙◌, arith}
use Rattle.std.proofs.lemmas.{Bool.cases_eq, Bool.true≢false, List.{get_or-set_same, get_or-set_other, get_or-replicate}}
use Rattle.std.proofs.{Math.ListN.length-set, lemmas.List.FromFn.{map-range_with_len_more}}
use Rattle.block_reclamation.specs.declared.status.BlockStatus.{BlockStatus, TheVariants.{Free, Granted}}
use Rattle.block_reclamation.specs.Status.{is_free}
use Rattle.std.specs.{Prelude.{None, IfSome}, Arc.arc_value}
use Rattle.edge_block.specs.declared.blocks.Block.{Block}
use Rattle.block_pool.specs.{declared.numbers.Numbers.Numbers, Chains.Stacks, Paging.{Paged, HasRoom, by_place}, Pools.{marked, AreBodies}}
use Rattle.block_pool.specs.Kept.{IsNumbers, AreRoomy, IsReadyNumber, IsRoomier, HasRooms, HasRoomFor, status_of, Lists}
use Rattle.block_pool.proofs.{Tallies.free_more, Paging.{length-by_place, at_place}}

-- a status changed, of a number that has memory where it isn't free now
pub room_for_set : (pool : List BlockStatus) (rooms : List ℕ) → HasRoomFor pool rooms → (k : ℕ) (s : BlockStatus)
    → (is_free s ≡ false → HasRoom rooms k) → HasRoomFor (set pool k s) rooms
room_for_set pool rooms are k s here j lt out =
    let long = length-set pool k s in
    elim (cases_eq j k) [
      | inl e ↦
          let within : k < length pool = omega arith in
          let now : status_of (set pool k s) j ≡ s = ap (status_of (set pool k s)) e ∙ get_or-set_same pool k s Granted within in
          subst (HasRoom rooms) (sym e) (here (sym (ap is_free now) ∙ out))
      | inr ne ↦ are j (omega arith) (sym (ap is_free (get_or-set_other pool k j s Granted ne)) ∙ out)
    ]

-- numbers that are granted
pub room_for_marked : (ns : List ℕ) (pool : List BlockStatus) (rooms : List ℕ) → HasRoomFor pool rooms
    → ((i : ℕ) → i < length ns → HasRoom rooms (get_or ns i 0)) → HasRoomFor (marked ns Granted pool) rooms
room_for_marked [] pool rooms are each = are
room_for_marked (n ∷ ns) pool rooms are each =
    room_for_marked ns (set pool n Granted) rooms (room_for_set pool rooms are n Granted (λ _. each 0 (omega arith)))
    (λ i lt. each (suc i) (omega arith))

-- where a number was not free before, or is free now
module _ {pool : List BlockStatus} {len : ℕ} {xs ys zs : List ℕ} (are : AreRoomy pool len xs ys zs) (k : ℕ) where
  pub roomy_set : (s : BlockStatus) (more : ℕ) → k < length pool → len ≤ more → (is_free s ≡ false → is_free (status_of pool k) ≡ false)
      → AreRoomy (set pool k s) more xs ys zs
  roomy_set s more lt le out =
      let long = length-set pool k s in
      record {
        status = room_for_set pool xs are.status k s (λ e. are.status k lt (out e));
        link = room_for_set pool ys are.link k s (λ e. are.link k lt (out e));
        last = λ place past within. are.last place (omega arith) (omega arith);
      }

  -- one that is granted
  pub roomy_granted : 0 < len → len ≤ length pool → HasRoom xs k → HasRoom ys k → HasRoom zs (len - 1)
      → AreRoomy (set pool k Granted) (len - 1) xs ys zs
  roomy_granted some few here link last =
      let long = length-set pool k Granted in
      record {
        status = room_for_set pool xs are.status k Granted (λ _. here);
        link = room_for_set pool ys are.link k Granted (λ _. link);
        last = λ place past within. elim (cases_eq place (len - 1)) [
          | inl e ↦ subst (HasRoom zs) (sym e) last
          | inr ne ↦ are.last place (omega arith) (omega arith)
        ];
      }

-- there is memory for each that had some
abbrev pub AreMore : List ℕ → List ℕ → Type 0
AreMore old new = (k : ℕ) → HasRoom old k → HasRoom new k

-- the same numbers with memory for more
module _ (n : Numbers) (kept : IsNumbers n) (status : Paged BlockStatus) (retired : Stacks) (free : Paged ℕ)
    (same_status : status.items ≡ n.statuses.items) (same_bound : retired.bound ≡ n.retired.bound)
    (same_lists : retired.lists ≡ n.retired.lists) (same_free : free.items ≡ n.free.items)
    (more_status : AreMore n.statuses.rooms status.rooms) (more_link : AreMore n.retired.rooms retired.rooms)
    (more_free : AreMore n.free.rooms free.rooms) where
  pub roomier_kept : IsNumbers (record n { statuses = status; retired = retired; free = free })
  roomier_kept =
      let roomy = kept.roomy in
      rw (same_status, same_bound, same_lists, same_free) (record {
        few = kept.few;
        free_room = kept.free_room;
        bound = kept.bound;
        seats = kept.seats;
        free_in = kept.free_in;
        free_are = kept.free_are;
        retired_in = kept.retired_in;
        sorted = kept.sorted;
        roomy = record {
          status = λ k lt out. more_status k (roomy.status k lt out);
          link = λ k lt out. more_link k (roomy.link k lt out);
          last = λ k le lt. more_free k (roomy.last k le lt);
        };
      })

  pub roomier : IsRoomier n (record n { statuses = status; retired = retired; free = free })
  roomier = record {
    same = same_status;
    free = same_free;
    free_len = refl;
    ready = λ before is. rw (same_status, same_free) (record {
      status = more_status _ is.status;
      link = more_link _ is.link;
      last = more_free _ is.last;
    });
  }

pub listed_first : (count : ℕ) → Lists is_free (replicate count Free) (by_place (λ k. k) count)
listed_first zero = λ q. refl
listed_first (suc count) =
    let one : count + 1 ≡ suc count = omega arith in
    subst (λ n. Lists is_free (replicate n Free) (by_place (λ k. k) n)) one
    (subst (Lists is_free (replicate (count + 1) Free)) (sym (map-range_with_len_more (λ k. k) 0 count count (omega arith)))
    (free_more count (by_place (λ k. k) count) (listed_first count)))

-- no body
pub no_bodies : (count : ℕ) → AreBodies count (by_place (λ _. None) count)
no_bodies count = record {
  same_length = length-by_place (λ _. None) count;
  numbers = λ n lt. subst (λ b. IfSome b (λ b. (arc_value {X = Block} b).number ≡ n)) (sym (at_place (λ _. None) count n None lt)) tt;
}

pub room_first : (count : ℕ) (rooms : List ℕ) → HasRoomFor (replicate count Free) rooms
room_first count rooms k lt out =
    let long = Rattle.std.proofs.lemmas.List.length-replicate count Free in
    let now : is_free (status_of (replicate count Free) k) ≡ true = ap is_free (get_or-replicate count k Free Granted (omega arith)) in
    absurd (true≢false (sym now ∙ out))

-- after a grant, the next number is ready where it was
pub ready_next : (old new : Numbers) → new.free.items ≡ old.free.items → new.free_len ≡ old.free_len - 1 → 0 < old.free_len
    → old.free_len ≤ length old.statuses.items → length new.statuses.items ≡ length old.statuses.items → HasRooms old new
    → (before : ℕ) → IsReadyNumber old (before + 1) → IsReadyNumber new before
ready_next old new items less some few long rooms before is =
    let place : new.free_len - 1 - before ≡ old.free_len - 1 - (before + 1) = omega arith in
    let number : get_or new.free.items (new.free_len - 1 - before) 0 ≡ get_or old.free.items (old.free_len - 1 - (before + 1)) 0 =
    ap (λ (ns : List ℕ). get_or ns (new.free_len - 1 - before) 0) items ∙ ap (λ i. get_or old.free.items i 0) place in
    record {
      status = rw (rooms.status, number) is.status;
      link = rw (rooms.link, number) is.link;
      last = rw (rooms.free, place) is.last;
    }

pub roomier_same : (n : Numbers) → IsRoomier n n
roomier_same n = record { same = refl; free = refl; free_len = refl; ready = λ before is. is }

pub roomier_again : (a b c : Numbers) → IsRoomier a b → IsRoomier b c → IsRoomier a c
roomier_again a b c first then = record {
  same = then.same ∙ first.same;
  free = then.free ∙ first.free;
  free_len = then.free_len ∙ first.free_len;
  ready = λ before is. then.ready before (first.ready before is);
}
