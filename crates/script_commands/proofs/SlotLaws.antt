-- Slots that stay slots: as sessions are acquired and released, batches come, and the floor rises.
use Rattle.std.proofs.Common.{◌≡◌, ℕ, zero, suc, ◌+◌, ◌<◌, ◌≤◌, max, true, List, [], ◌∷◌, ◌++◌, length, map}
use Rattle.std.proofs.Common.{take, get_or, set, replicate, append-nil, refl, sym, ap, ap₂, subst, ◌∙◌, arith, inl, inr, ◌-◌}
use Rattle.std.proofs.lemmas.List.{get_or-set_same, get_or-set_other, set-set, set-get_or, length-map, map-set}
use Rattle.std.proofs.lemmas.List.{take-append-le, length-append, nil_from_length, get_or-map}
use Rattle.std.proofs.{lemmas.Option.{get_or_from_slice_get, slice_get_within}, Math.ListN.length-set}
use Rattle.std.{proofs.Math.{Seq.take-length, Nat.max-eq_right}, specs.Prelude.{Option, None, Some, IfSome, slice_get}}
use Rattle.std.specs.{Iterator.Yields, List.range_with_len, Option.option_map, declared.vec.IntoIter.IntoIter}
use Rattle.std.specs.Vec.Iter.{into_iter_items, into_iter_len, into_iter_steps}
use Rattle.graph_types.specs.declared.batches.NamedOp.{NamedOp}
use Rattle.graph_version.specs.Versions.{IsVersion, VersionView}
use Rattle.block_reclamation.specs.{Board.{BoardState, no_pins, with_pin}, Copies.{copy_of, pin_at}, declared.copies.Pin.Pin}
use Rattle.block_reclamation.specs.declared.copies.TheConstants.{SEATS}
use Rattle.graph_types.proofs.Numbers.{same_or_not}
use Rattle.stream_store.specs.Seats.{SeatView, SessionView, held_version, session_lent, seat_of}
use Rattle.stream_store.proofs.SeatNumbers.{some_seat, numbered}
use Rattle.script_commands.specs.{Slots.{AreSlots, IsEarlier, IsPinnedBySlots, IsScriptSlot, held_by, held_of}, States.{holding, pins_of}}

-- At first

free_slot : (last : VersionView) (slot : ℕ) (seat : Option SeatView) (session : Option SessionView) (s : SeatView) → seat ≡ Some s
    → session ≡ None → s.number ≡ slot → IsScriptSlot last slot seat session
free_slot last slot (Some seat) None s is none number = ap (λ (o : Option SeatView). number_or slot o) is ∙ number where
  number_or : ℕ → Option SeatView → ℕ
  number_or d None = d
  number_or d (Some s) = s.number
free_slot last slot (Some seat) (Some session) s is none number = cc
free_slot last slot None session s is none number = cc

pub slots_first : (last : VersionView) (board : BoardState) (seats : List SeatView) (free : List (Option SeatView))
    (sessions : List (Option SessionView))
    → board ≡ no_pins → length seats ≤ 16 → map (λ (s : SeatView). s.number) seats ≡ range_with_len 0 (length seats)
    → free ≡ map (λ s. Some s) seats → sessions ≡ replicate (length seats) None → AreSlots last board free sessions
slots_first last board seats free sessions new few numbers are_free are_none = record {
  same_length = omega (arith, free_length, none_length);
  few = omega (arith, none_length);
  each = λ slot below. one slot (omega (arith, none_length));
  pinned = record {
    seats = ap (λ b. length b.pins) new ∙ length-replicate {X = Option Pin} 16 None;
    pins = λ slot. rw (new, are_none) (none_at slot);
    floor = rw new (omega arith);
  };
} where
  length-replicate : {X : Type 0} (n : ℕ) (x : X) → length (replicate n x) ≡ n
  length-replicate zero x = refl
  length-replicate (suc n) x = ap suc (length-replicate n x)

  none_or : {X : Type 0} (n i : ℕ) → get_or (replicate n (let o : Option X = None in o)) i None ≡ None
  none_or zero i = refl
  none_or (suc n) zero = refl
  none_or (suc n) (suc i) = none_or n i

  free_length : length free ≡ length seats
  free_length = ap length are_free ∙ length-map seats (λ s. Some s)

  none_length : length sessions ≡ length seats
  none_length = ap length are_none ∙ length-replicate (length seats) None

  none_at : (slot : ℕ) → pin_at (replicate SEATS None) slot
      ≡ option_map holding (held_by (get_or (replicate (length seats) None) slot None))
  none_at slot = rw (none_or {X = Pin} SEATS slot, none_or {X = SessionView} (length seats) slot) refl

  one : (slot : ℕ) → slot < length seats → IsScriptSlot last slot (get_or free slot None) (get_or sessions slot None)
  one slot below =
      let d = some_seat seats slot below in
      free_slot last slot (get_or free slot None) (get_or sessions slot None) (get_or seats slot d)
      (ap (λ fs. get_or fs slot None) are_free ∙ get_or-map (λ s. Some s) seats slot d None below)
      (ap (λ fs. get_or fs slot None) are_none ∙ none_or (length seats) slot)
      (numbered seats (length seats) numbers slot d below (omega arith))

-- A slot that changes

seat_number : (last : VersionView) (slot : ℕ) (seat : Option SeatView) (session : Option SessionView) (s : SeatView)
    → IsScriptSlot last slot seat session → seat ≡ Some s → s.number ≡ slot
seat_number last slot (Some seat) None s is same = subst (λ (o : Option SeatView). IfSome o (λ x. x.number ≡ slot)) same is
seat_number last slot (Some seat) (Some session) s is same = absurd is
seat_number last slot None session s is same = cc

session_number : (last : VersionView) (slot : ℕ) (seat : Option SeatView) (session : Option SessionView) (s : SessionView)
    → IsScriptSlot last slot seat session → session ≡ Some s → s.number ≡ slot
session_number last slot None (Some session) s is same =
    subst (λ (o : Option SessionView). IfSome o (λ x. x.number ≡ slot)) same is.0
session_number last slot (Some seat) (Some session) s is same = absurd is
session_number last slot seat None s is same = cc

-- the pins with that slot's pin and session changed
pinned_set : (last : ℕ) (board : BoardState) (sessions : List (Option SessionView)) (slot : ℕ) (pin : Option Pin)
    (session : Option SessionView) → IsPinnedBySlots last board sessions → slot < length sessions → length sessions ≤ SEATS
    → pin ≡ option_map holding (held_by session)
    → IsPinnedBySlots last (with_pin board slot pin) (set sessions slot session)
pinned_set last board sessions slot pin session pinned below few same = record {
  seats = length-set board.pins slot pin ∙ pinned.seats;
  pins = λ other. elim (same_or_not other slot) [
    | inl is ↦ rw is (get_or-set_same board.pins slot pin None (omega (arith, pinned.seats))
        ∙ (same ∙ sym (ap (λ o. option_map holding (held_by o)) (get_or-set_same sessions slot session None below))))
    | inr not ↦ get_or-set_other board.pins slot other pin None not
        ∙ (pinned.pins other
        ∙ sym (ap (λ o. option_map holding (held_by o)) (get_or-set_other sessions slot other session None not)))
  ];
  floor = pinned.floor;
}

slots_set : (last : VersionView) (board : BoardState) (seats : List (Option SeatView)) (sessions : List (Option SessionView))
    (slot : ℕ) (pin : Option Pin) (seat : Option SeatView) (session : Option SessionView) → AreSlots last board seats sessions
    → slot < length sessions → IsScriptSlot last slot seat session → pin ≡ option_map holding (held_by session)
    → AreSlots last (with_pin board slot pin) (set seats slot seat) (set sessions slot session)
slots_set last board seats sessions slot pin seat session slots below is same = record {
  same_length = length-set seats slot seat ∙ (slots.same_length ∙ sym (length-set sessions slot session));
  few = rw (length-set sessions slot session) slots.few;
  each = λ other within. elim (same_or_not other slot) [
    | inl here ↦ rw here (rw (
      get_or-set_same seats slot seat None (omega (arith, slots.same_length)),
      get_or-set_same sessions slot session None below,
    ) is)
    | inr not ↦ rw (get_or-set_other seats slot other seat None not, get_or-set_other sessions slot other session None not)
        (slots.each other (omega (arith, length-set sessions slot session)))
  ];
  pinned = pinned_set (length last.batches) board sessions slot pin session slots.pinned below slots.few same;
}

-- the last version is lent
earlier_last : (last : VersionView) → IsVersion last → IsEarlier last last
earlier_last last version = record {
  version = version;
  opening = refl;
  count = omega arith;
  batches = sym (take-length last.batches);
}

pub slots_acquired : (last : VersionView) (board new : BoardState) (seats : List (Option SeatView))
    (sessions : List (Option SessionView)) (slot : ℕ) (seat : SeatView) (session : SessionView)
    → AreSlots last board seats sessions → IsVersion last → slice_get sessions slot ≡ Some None
    → get_or seats slot None ≡ Some seat → session ≡ session_lent seat last
    → new ≡ with_pin board seat.number (Some (record { number = max board.floor (length last.batches); is_settled = true }))
    → AreSlots last new (set seats slot None) (set sessions slot (Some session))
slots_acquired last board new seats sessions slot seat session slots version free there lent pinned =
    let below : slot < length sessions = slice_get_within sessions slot None free in
    let number : seat.number ≡ slot = seat_number last slot (get_or seats slot None) (get_or sessions slot None) seat
    (slots.each slot below) there in
    let most : max board.floor (length last.batches) ≡ length last.batches = max-eq_right slots.pinned.floor in
    rw (pinned, number, lent, most)
    (slots_set last board seats sessions slot (Some (record { number = length last.batches; is_settled = true })) None
    (Some (session_lent seat last)) slots below (number, earlier_last last version) refl)

pub slots_released : (last : VersionView) (board new : BoardState) (seats : List (Option SeatView))
    (sessions : List (Option SessionView)) (slot : ℕ) (seat : SeatView) (session : SessionView)
    → AreSlots last board seats sessions → slice_get sessions slot ≡ Some (Some session) → seat ≡ seat_of session
    → new ≡ with_pin board session.number None
    → AreSlots last new (set seats slot (Some seat)) (set sessions slot None)
slots_released last board new seats sessions slot seat session slots there is unpinned =
    let below : slot < length sessions = slice_get_within sessions slot (Some session) there in
    let number : session.number ≡ slot = session_number last slot (get_or seats slot None) (get_or sessions slot None) session
    (slots.each slot below) (get_or_from_slice_get sessions slot (Some session) None there) in
    rw (unpinned, is, number) (slots_set last board seats sessions slot None
    (Some (record { number = slot; seen = session.seen })) None slots below refl refl)

-- A batch more

earlier_more : (last new v : VersionView) (batch : List NamedOp) → new.opening ≡ last.opening
    → new.batches ≡ last.batches ++ batch ∷ [] → IsEarlier last v → IsEarlier new v
earlier_more last new v batch opening batches earlier = record {
  version = earlier.version;
  opening = earlier.opening ∙ sym opening;
  count = omega (arith, earlier.count, ap length batches, length-append last.batches (batch ∷ []));
  batches = earlier.batches ∙ (sym (take-append-le (length v.batches) last.batches (batch ∷ []) earlier.count)
      ∙ ap (take (length v.batches)) (sym batches));
}

slot_more : (last new : VersionView) (batch : List NamedOp) (slot : ℕ) (seat : Option SeatView) (session : Option SessionView)
    → new.opening ≡ last.opening → new.batches ≡ last.batches ++ batch ∷ [] → IsScriptSlot last slot seat session
    → IsScriptSlot new slot seat session
slot_more last new batch slot (Some seat) None opening batches is = is
slot_more last new batch slot (Some seat) (Some session) opening batches is = is
slot_more last new batch slot None None opening batches is = is
slot_more last new batch slot None (Some session) opening batches is =
    (is.0, earlier_more last new (held_version session) batch opening batches is.1)

pub slots_more : (last new : VersionView) (batch : List NamedOp) (board : BoardState) (seats : List (Option SeatView))
    (sessions : List (Option SessionView)) → new.opening ≡ last.opening → new.batches ≡ last.batches ++ batch ∷ []
    → AreSlots last board seats sessions → AreSlots new board seats sessions
slots_more last new batch board seats sessions opening batches slots = record {
  same_length = slots.same_length;
  few = slots.few;
  each = λ slot below. slot_more last new batch slot (get_or seats slot None) (get_or sessions slot None) opening batches
      (slots.each slot below);
  pinned = record {
    seats = slots.pinned.seats;
    pins = slots.pinned.pins;
    floor = omega (arith, slots.pinned.floor, ap length batches, length-append last.batches (batch ∷ []));
  };
}

-- The copy of the pins

pins_are : (pins : List (Option Pin)) (sessions : List (Option SessionView)) (free : ℕ)
    → length sessions + free ≡ length pins
    → ((slot : ℕ) → pin_at pins slot ≡ option_map holding (held_by (get_or sessions slot None)))
    → pins ≡ map (option_map holding) (map held_by sessions) ++ replicate free None
pins_are [] [] zero long same = refl
pins_are [] [] (suc free) long same = absurd (omega arith)
pins_are [] (s ∷ sessions) free long same = absurd (omega arith)
pins_are (p ∷ pins) [] zero long same = absurd (omega arith)
pins_are (p ∷ pins) [] (suc free) long same =
    ap₂ (λ x xs. x ∷ xs) (same 0) (pins_are pins [] free (omega arith) (λ slot. same (suc slot)))
pins_are (p ∷ pins) (s ∷ sessions) free long same =
    ap₂ (λ x xs. x ∷ xs) (same 0) (pins_are pins sessions free (omega arith) (λ slot. same (suc slot)))

-- the board's copy is that of the held versions
pub copy_is : (last number : ℕ) (board : BoardState) (sessions : List (Option SessionView)) → IsPinnedBySlots last board sessions
    → length sessions ≤ SEATS → copy_of number board.pins ≡ copy_of number (pins_of (map held_by sessions))
copy_is last number board sessions pinned few =
    let many : length (map held_by sessions) ≡ length sessions = length-map sessions held_by in
    ap (copy_of number)
    (pins_are board.pins sessions (SEATS - length (map held_by sessions)) (omega (arith, many, pinned.seats, few)) pinned.pins)

pub slots_raised : (last : VersionView) (board new : BoardState) (seats : List (Option SeatView))
    (sessions : List (Option SessionView)) (floor : ℕ) → new ≡ record board { floor = floor } → floor ≤ length last.batches
    → AreSlots last board seats sessions → AreSlots last new seats sessions
slots_raised last board new seats sessions floor raised below slots = rw raised (record {
  same_length = slots.same_length;
  few = slots.few;
  each = slots.each;
  pinned = record { seats = slots.pinned.seats; pins = slots.pinned.pins; floor = below };
})

-- Reads

-- a seat that is put back where it was taken out
pub slots_back : (last : VersionView) (board now : BoardState) (seats : List (Option SeatView)) (sessions : List (Option SessionView))
    (slot : ℕ) (taken : Option SeatView) (seat back : SeatView) → AreSlots last board seats sessions → get_or seats slot None ≡ Some seat
    → back ≡ seat → now ≡ board → AreSlots last now (set (set seats slot taken) slot (Some back)) sessions
slots_back last board now seats sessions slot taken seat back are at same unchanged =
    let put : set (set seats slot taken) slot (Some back) ≡ seats =
    set-set seats slot taken (Some back) ∙ ap (λ (o : Option SeatView). set seats slot o) (ap (λ (s : SeatView). Some s) same ∙ sym at)
    ∙ set-get_or seats slot None in
    subst (λ (b : BoardState). AreSlots last b (set (set seats slot taken) slot (Some back)) sessions) (sym unchanged)
    (subst (λ (ss : List (Option SeatView)). AreSlots last board ss sessions) (sym put) are)

pub held_acquired : (sessions : List (Option SessionView)) (slot : ℕ) (seat : SeatView) (session : SessionView)
    (last : VersionView) → session ≡ session_lent seat last
    → map held_by (set sessions slot (Some session)) ≡ set (map held_by sessions) slot (Some (held_of last))
held_acquired sessions slot seat session last lent = rw lent (map-set held_by sessions slot (Some (session_lent seat last)))

pub held_released : (sessions : List (Option SessionView)) (slot : ℕ)
    → map held_by (set sessions slot None) ≡ set (map held_by sessions) slot None
held_released sessions slot = map-set held_by sessions slot None

pub none_held : (sessions : List (Option SessionView)) (n : ℕ) → sessions ≡ replicate n None
    → map held_by sessions ≡ replicate n None
none_held sessions n same = ap (map held_by) same ∙ none n where
  none : (n : ℕ) → map held_by (replicate n None) ≡ replicate n None
  none zero = refl
  none (suc n) = ap (λ rest. None ∷ rest) (none n)

-- An iterator that gave all that a vector has

given : {X Z : Type 0} (s : IntoIter X Z) (xs : List X) (t : IntoIter X Z) → Yields into_iter_steps s xs t
    → (into_iter_items s ≡ xs ++ into_iter_items t) × (into_iter_len s ≡ length xs + into_iter_len t)
given s [] t same =
    let count : into_iter_len s ≡ into_iter_len t = ap (λ i. into_iter_len i) same in
    (ap (λ i. into_iter_items i) same, omega (arith, count))
given s (x ∷ xs) t yields =
    let rest = given yields.0 xs t yields.2 in
    (yields.1.0 ∙ ap (λ ys. x ∷ ys) rest.0, omega (arith, yields.1.1, rest.1))

pub all_given : {X Z : Type 0} (items : List X) (s : IntoIter X Z) (xs : List X) (t : IntoIter X Z) (r : Option X)
    (u : IntoIter X Z) → into_iter_items s ≡ items → into_iter_len s ≡ length items → Yields into_iter_steps s xs t
    → r ≡ None → into_iter_steps t r u → xs ≡ items
all_given items s xs t r u are count yields none step =
    let both = given s xs t yields in
    let end = subst (λ o. into_iter_steps t o u) none step in
    let whole : length items ≡ length xs + length (into_iter_items t) =
    ap length (sym are ∙ both.0) ∙ length-append xs (into_iter_items t) in
    let left : length (into_iter_items t) ≡ 0 = omega (arith, whole, count, both.1, end.0) in
    sym (append-nil xs) ∙ (ap (λ ys. xs ++ ys) (sym (nil_from_length (into_iter_items t) left)) ∙ (sym both.0 ∙ are))
