use Rattle.std.proofs.Common.{◌≡◌, ◌∙◌, ◌-◌, ◌<◌, ◌≤◌, ◌++◌, ◌∷◌, [], inl, inr, ℕ, List, None, Option, get_or, set, length, map, sym, ap, subst, arith}
use Rattle.std.{proofs.lemmas.{Bool.cases_eq, List.map-append}, specs.{Arc.arc_value, declared.sync.Arc.Arc, declared.alloc.Global.Global}}
use Rattle.std.proofs.lemmas.Grind.{common_steps}
use Rattle.edge_block.specs.declared.blocks.Block.{Block}
use Rattle.block_reclamation.specs.Status.{is_free}
use Rattle.block_pool.specs.{declared.numbers.Numbers.Numbers, Kept.{IsNumbers, IsRoomier, IsReadyNumber, statuses, popped}, Pools.AreBodies, Paging.HasRoom}
use Rattle.block_pool.proofs.{Grants.popped_last, Tallies.listed_at, Rooms.{roomier_same, roomier_again}}
use Rattle.block_pool.proofs.pool.gather.Goals as goal

abbrev number_of : Arc Block Global → ℕ
number_of b = (arc_value {X = Block} b).number

-- the bodies without that of a number
taken_out : (count : ℕ) (bodies : List (Option (Arc Block Global))) → AreBodies count bodies → (number : ℕ) → number < count
    → AreBodies count (set bodies number None)
taken_out count bodies are number lt = grind (arith, common_steps)

-- the number that is granted after so many others
module _ (n now : Numbers) (kept : IsNumbers n) (same : IsRoomier n now) (i number : ℕ) (lt : i < n.free_len)
    (is : number ≡ get_or now.free.items (now.free_len - 1 - i) 0) where
  next : number ≡ get_or n.free.items (n.free_len - 1 - i) 0
  next = is ∙ ap (λ (ns : List ℕ). get_or ns (now.free_len - 1 - i) 0) same.free
      ∙ ap (λ (len : ℕ). get_or n.free.items (len - 1 - i) 0) same.free_len

  next_within : number < length n.statuses.items
  next_within =
      let in_room : n.free_len ≤ length n.free.items = omega (arith, kept.free_in, kept.free_room) in
      let here = listed_at is_free (statuses n) n.free_len n.free.items kept.free_are in_room (n.free_len - 1 - i) (omega arith) in
      omega (arith, here.0, next)

pub loop-i-init : goal.loop-i-init
loop-i-init c = record {
  kept = c.requires.kept;
  same = roomier_same c.args.numbers.now;
  bodies = c.requires.bodies;
  rooms = c.requires.rooms;
  granted = c.in_ok-granted.ensures.items;
  blocks = ap (map number_of) c.in_ok-blocks.ensures.items ∙ sym c.in_ok-granted.ensures.items;
  ready = λ before lt. absurd (omega (arith, lt));
  taken = λ before lt. absurd (omega (arith, lt));
}

pub make-requires : goal.make-requires
make-requires c =
    let inv = c.loop-i.invariant in
    omega (
      arith,
      next_within c.args.numbers.now c.loop-i.numbers c.requires.kept inv.same c.loop-i.i c.in_ok-number.number
          (omega (arith, c.loop-i-test.true, c.requires.enough)) c.in_ok-number.ensures.number,
      inv.bodies.same_length,
    )

pub body_of-requires-clause-within : goal.body_of-requires-clause-within
body_of-requires-clause-within c =
    let inv = c.loop-i.invariant in
    omega (
      arith,
      next_within c.args.numbers.now c.loop-i.numbers c.requires.kept inv.same c.loop-i.i c.in_ok-number.number
          (omega (arith, c.loop-i-test.true, c.requires.enough)) c.in_ok-number.ensures.number,
      inv.bodies.same_length,
      ap length c.make.ensures.items,
    )

pub body_of-requires-clause-own : goal.body_of-requires-clause-own
body_of-requires-clause-own c =
    let inv = c.loop-i.invariant in
    rw c.make.ensures.items
    (inv.bodies.numbers c.in_ok-number.number
    (next_within c.args.numbers.now c.loop-i.numbers c.requires.kept inv.same c.loop-i.i c.in_ok-number.number
    (omega (arith, c.loop-i-test.true, c.requires.enough)) c.in_ok-number.ensures.number))

pub loop-i-preserved : goal.loop-i-preserved
loop-i-preserved c =
    let n = c.args.numbers.now in
    let inv = c.loop-i.invariant in
    let number : ℕ = c.in_ok-number.number in
    let lt : c.loop-i.i < n.free_len = omega (arith, c.loop-i-test.true, c.requires.enough) in
    let is = next n c.loop-i.numbers c.requires.kept inv.same c.loop-i.i number lt c.in_ok-number.ensures.number in
    let within = next_within n c.loop-i.numbers c.requires.kept inv.same c.loop-i.i number lt c.in_ok-number.ensures.number in
    record {
      kept = c.in_ok-number.ensures.kept;
      same = roomier_again n c.loop-i.numbers _ inv.same c.in_ok-number.ensures.same;
      bodies = rw (c.in_ok-body.ensures.bodies, c.make.ensures.items)
          (taken_out (length n.statuses.items) c.loop-i.bodies.items inv.bodies number within);
      rooms = rw c.in_ok-body.ensures.rooms (λ k low out. c.make.ensures.kept k (inv.rooms k low out));
      granted = c.in_ok-push-2.ensures.items ∙ ap (λ ns. ns ++ number ∷ []) inv.granted
          ∙ ap (λ j. popped n.free.items n.free_len c.loop-i.i ++ j ∷ []) is
          ∙ sym (popped_last n.free.items n.free_len c.loop-i.i lt);
      blocks = ap (map number_of) c.in_ok-push.ensures.items
          ∙ map-append number_of c.loop-i.blocks.items (c.in_ok-body.body ∷ [])
          ∙ ap (λ ns. ns ++ number_of c.in_ok-body.body ∷ []) inv.blocks
          ∙ ap (λ j. c.loop-i.granted.items ++ j ∷ []) c.in_ok-body.ensures.number
          ∙ sym c.in_ok-push-2.ensures.items;
      ready = λ before low. elim (cases_eq before c.loop-i.i) [
        | inl e ↦ subst (IsReadyNumber c.make_ready.new.self) (sym e) c.in_ok-number.ensures.ready
        | inr ne ↦ c.in_ok-number.ensures.same.ready before (inv.ready before (omega arith))
      ];
      taken = λ before low. rw c.in_ok-body.ensures.rooms (elim (cases_eq before c.loop-i.i) [
        | inl e ↦ subst (HasRoom c.make.new.self.rooms)
            (is ∙ ap (λ j. get_or n.free.items (n.free_len - 1 - j) 0) (sym e)) c.in_ok-make.ensures.room
        | inr ne ↦ c.make.ensures.kept _ (inv.taken before (omega arith))
      ]);
    }

pub returns-in_err-make-clause-same : goal.returns-in_err-make-clause-same
returns-in_err-make-clause-same c =
    roomier_again c.args.numbers.now c.loop-i.numbers _ c.loop-i.invariant.same c.in_ok-number.ensures.same

pub returns-in_err-body-clause-same : goal.returns-in_err-body-clause-same
returns-in_err-body-clause-same c =
    roomier_again c.args.numbers.now c.loop-i.numbers _ c.loop-i.invariant.same c.in_ok-number.ensures.same

pub returns-in_err-push-clause-same : goal.returns-in_err-push-clause-same
returns-in_err-push-clause-same c =
    roomier_again c.args.numbers.now c.loop-i.numbers _ c.loop-i.invariant.same c.in_ok-number.ensures.same

pub returns-in_err-push-2-clause-same : goal.returns-in_err-push-2-clause-same
returns-in_err-push-2-clause-same c =
    roomier_again c.args.numbers.now c.loop-i.numbers _ c.loop-i.invariant.same c.in_ok-number.ensures.same

pub returns-clause-numbers : goal.returns-clause-numbers
returns-clause-numbers c =
    let all : c.loop-i.i ≡ c.args.count = omega (arith, c.loop-i-test.false, c.loop-i.auto.i-end) in
    c.loop-i.invariant.granted ∙ ap (popped c.args.numbers.now.free.items c.args.numbers.now.free_len) all
