-- A desk's owner: what is held stays counted, each number at one seat.
use Rattle.std.proofs.Common.{◌≡◌, ℕ, ◌+◌, ◌<◌, ◌≤◌, true, false, List, [], ◌∷◌, length, replicate, ◌==◌, inl, inr, refl, sym, ap, subst}
use Rattle.std.proofs.Common.{◌∙◌, length-append, arith}
use Rattle.std.proofs.lemmas.{Bool.{eq-eqb, eqb-true, true≢false}, Grind.common_steps}
use Rattle.std.proofs.lemmas.List.{get_or-set_same, get_or-set_other, get_or-replicate, length-replicate}
use Rattle.std.proofs.Math.ListN.{length-set}
use Rattle.std.specs.{Prelude.{slice_set}, declared.option.Option.{Option, TheVariants.{None, Some}}}
use Rattle.block_reclamation.specs.{declared.copies.{Pin.Pin, TheConstants.SEATS}, Board.{BoardState, no_pins}, Copies.{pin_at, settled, unsettled}}
use Rattle.graph_types.specs.declared.batches.NamedOp.{NamedOp}
use Rattle.store_steps.specs.{Acceptances.Accepts, Desks.DeskView}
use Rattle.store_steps.proofs.AcceptedDesk.{batches_after}
use Rattle.owned_desk.specs.OwnedReady.{IsOwnedReady}
use Rattle.graph_version.specs.Versions.{VersionView, IsVersion}
use Rattle.owned_desk.specs.Kept.{KeptView}
use Rattle.owned_desk.specs.Owned.{OwnedView, IsOwned, IsHoldCounted, IsSeatFor, KeepsOwned, count_at, held_pin, opened_owned, owned_view, with_hold}
use Rattle.owned_desk.proofs.KeptVersions.{none_kept}

opened_is_owned : (d : DeskView) (n : ℕ) → IsOwned (opened_owned d n)
opened_is_owned d n = record {
  pins = length-replicate {A = Option Pin} SEATS None;
  seats = length-replicate {A = ℕ} SEATS 0;
  floor_low = omega arith;
  counted = λ seat low.
      let none : pin_at (replicate SEATS None) seat ≡ None = get_or-replicate SEATS seat None None low in
      let zero : count_at (replicate SEATS 0) seat ≡ 0 = get_or-replicate SEATS seat 0 0 low in
      subst (λ p. IsHoldCounted (length d.last.batches) p (count_at (replicate SEATS 0) seat)) (sym none) zero;
  apart = λ a b number x y p q.
      let none : pin_at (replicate SEATS None) a ≡ None = get_or-replicate SEATS a None None x in cc;
}

-- and so it is with a board that was made, and with what is kept
pub opens_owned : (d : DeskView) (n : ℕ) (board : BoardState) (kept : KeptView) → IsVersion d.last → board ≡ no_pins
    → kept ≡ record { versions = replicate SEATS None; touched = [] }
    → KeepsOwned (owned_view d board (replicate SEATS 0) n kept) kept.touched
opens_owned d n board kept version is none =
    subst (λ (b : BoardState). KeepsOwned (owned_view d b (replicate SEATS 0) n kept) kept.touched) (sym is)
    (subst (λ (k : KeptView). KeepsOwned (owned_view d no_pins (replicate SEATS 0) n k) k.touched) (sym none)
    (record { owned = opened_is_owned d n; kept = none_kept d [] version }))

-- One seat is changed

module _ (pins : List (Option Pin)) (seat : ℕ) (pin : Option Pin) (within : seat < length pins) where
  there : (s : ℕ) → (s == seat) ≡ true → pin_at (slice_set pins seat pin) s ≡ pin
  there s is = ap (pin_at (slice_set pins seat pin)) (eqb-true s seat is) ∙ get_or-set_same pins seat pin None within

  else : (s : ℕ) → (s == seat) ≡ false → pin_at (slice_set pins seat pin) s ≡ pin_at pins s
  else s isnt = get_or-set_other pins seat s pin None (λ same. true≢false (sym (eq-eqb s seat same) ∙ isnt))

  pub changed_apart : ((a b number : ℕ) → a < SEATS → b < SEATS → pin_at pins a ≡ Some (held_pin number)
      → pin_at pins b ≡ Some (held_pin number) → a ≡ b)
      → ((number b : ℕ) → pin ≡ Some (held_pin number) → b < SEATS → pin_at pins b ≡ Some (held_pin number) → b ≡ seat)
      → (a b number : ℕ) → a < SEATS → b < SEATS → pin_at (slice_set pins seat pin) a ≡ Some (held_pin number)
      → pin_at (slice_set pins seat pin) b ≡ Some (held_pin number) → a ≡ b
  changed_apart apart one a b number x y p q =
      elim (a == seat) as (λ t. (a == seat) ≡ t → a ≡ b) [
        | true ↦ λ e. elim (b == seat) as (λ t. (b == seat) ≡ t → a ≡ b) [
          | true ↦ λ f. eqb-true a seat e ∙ sym (eqb-true b seat f)
          | false ↦ λ f. eqb-true a seat e ∙ sym (one number b (sym (there a e) ∙ p) y (sym (else b f) ∙ q))
        ] refl
        | false ↦ λ e. elim (b == seat) as (λ t. (b == seat) ≡ t → a ≡ b) [
          | true ↦ λ f. one number a (sym (there b f) ∙ q) x (sym (else a e) ∙ p) ∙ sym (eqb-true b seat f)
          | false ↦ λ f. apart a b number x y (sym (else a e) ∙ p) (sym (else b f) ∙ q)
        ] refl
      ] refl

  pub changed_counted : (last : ℕ) (counts : List ℕ) (count s : ℕ) → seat < length counts → IsHoldCounted last pin count
      → IsHoldCounted last (pin_at pins s) (count_at counts s)
      → IsHoldCounted last (pin_at (slice_set pins seat pin) s) (count_at (slice_set counts seat count) s)
  changed_counted last counts count s low here before =
      elim (s == seat) as (λ t. (s == seat) ≡ t
      → IsHoldCounted last (pin_at (slice_set pins seat pin) s) (count_at (slice_set counts seat count) s)) [
        | true ↦ λ e.
            (let counted : count_at (slice_set counts seat count) s ≡ count =
            ap (count_at (slice_set counts seat count)) (eqb-true s seat e) ∙ get_or-set_same counts seat count 0 low in
            subst (λ p. IsHoldCounted last p (count_at (slice_set counts seat count) s)) (sym (there s e))
            (subst (IsHoldCounted last pin) (sym counted) here))
        | false ↦ λ e.
            (let counted : count_at (slice_set counts seat count) s ≡ count_at counts s =
            get_or-set_other counts seat s count 0 (λ same. true≢false (sym (eq-eqb s seat same) ∙ e)) in
            subst (λ p. IsHoldCounted last p (count_at (slice_set counts seat count) s)) (sym (else s e))
            (subst (IsHoldCounted last (pin_at pins s)) (sym counted) before))
      ] refl

-- with this pin, count and version at a seat all is owned still
pub changed_owned : (o : OwnedView) (seat count : ℕ) (pin : Option Pin) (version : Option VersionView) → IsOwned o → seat < SEATS
    → IsHoldCounted (length o.desk.last.batches) pin count
    → ((number b : ℕ) → pin ≡ Some (held_pin number) → b < SEATS → pin_at o.board.pins b ≡ Some (held_pin number) → b ≡ seat)
    → IsOwned (with_hold o seat pin count version)
changed_owned o seat count pin version is low here one =
    let pins = is.pins in
    let seats = is.seats in
    record {
      pins = length-set o.board.pins seat pin ∙ is.pins;
      seats = length-set o.counts seat count ∙ is.seats;
      floor_low = is.floor_low;
      counted = λ s within. changed_counted o.board.pins seat pin (omega arith) (length o.desk.last.batches) o.counts count s
          (omega arith) here (is.counted s within);
      apart = changed_apart o.board.pins seat pin (omega arith) is.apart one;
    }

-- a number is pinned at the seat for it
pub pinned_owned : (o : OwnedView) (number seat count : ℕ) (version : Option VersionView) → IsOwned o → IsSeatFor o number seat
    → number ≤ length o.desk.last.batches → 0 < count → IsOwned (with_hold o seat (Some (held_pin number)) count version)
pinned_owned o number seat count version is for low some =
    changed_owned o seat count (Some (held_pin number)) version is for.0 (some, refl, low) (λ n b same within at.
    let at_number : pin_at o.board.pins b ≡ Some (held_pin number) = at ∙ sym same in
    elim for.1 as (λ _. b ≡ seat) [
      | inl x ↦ is.apart b seat number within for.0 at_number x
      | inr x ↦ absurd (x.1 b within at_number)
    ])

-- A batch

later_counted : (a b count : ℕ) (pin : Option Pin) → a ≤ b → IsHoldCounted a pin count → IsHoldCounted b pin count
later_counted a b count None more is = is
later_counted a b count (Some pin) more is = let low = is.2 in (is.0, is.1, omega (arith, more, low))

-- once a batch is accepted all is owned still
pub accepted_owned : (o : OwnedView) (ops : List NamedOp) (new : DeskView) → IsOwned o → Accepts o.desk ops new
    → IsOwned (record o { desk = new })
accepted_owned o ops new is accepts =
    let longer : length new.last.batches ≡ length o.desk.last.batches + 1 =
    ap length (batches_after o.desk new ops accepts) ∙ length-append o.desk.last.batches (ops ∷ []) in
    let low = is.floor_low in
    record {
      pins = is.pins;
      seats = is.seats;
      floor_low = omega (arith, low, longer);
      counted = λ seat within. later_counted (length o.desk.last.batches) (length new.last.batches) (count_at o.counts seat)
          (pin_at o.board.pins seat) (omega (arith, longer)) (is.counted seat within);
      apart = is.apart;
    }

-- a batch that is ready at the desk of an owner
pub ready_owned : (o : OwnedView) (old new : DeskView) (ops batch : List NamedOp) → old ≡ o.desk → ops ≡ batch → IsOwned o
    → Accepts o.desk batch new → IsOwnedReady (record { old = record o { desk = old }; ops = ops; new = new })
ready_owned o old new ops batch desk same is accepts =
    let before : IsOwned (record o { desk = old }) = subst (λ d. IsOwned (record o { desk = d })) (sym desk) is in
    let accepted : Accepts old ops new =
    subst (λ b. Accepts old b new) (sym same) (subst (λ d. Accepts d batch new) (sym desk) accepts) in
    record { before = before; after = accepted_owned (record o { desk = old }) ops new before accepted; accepted = accepted }

-- with other versions all is owned still
pub owned_with : (o : OwnedView) (versions : List (Option VersionView)) → IsOwned o → IsOwned (record o { versions = versions })
owned_with o versions is = record {
  pins = is.pins;
  seats = is.seats;
  floor_low = is.floor_low;
  counted = is.counted;
  apart = is.apart;
}

-- The board

-- each pin is settled
pub pins_settled : (o : OwnedView) → IsOwned o → (seat : ℕ) (pin : Pin) → seat < SEATS → pin_at o.board.pins seat ≡ Some pin
    → pin.is_settled ≡ true
pins_settled o is seat pin low at =
    let counted : IsHoldCounted (length o.desk.last.batches) (Some pin) (count_at o.counts seat) =
    subst (λ p. IsHoldCounted (length o.desk.last.batches) p (count_at o.counts seat)) at (is.counted seat low) in
    ap (λ (p : Pin). p.is_settled) counted.1

-- a collection changes neither the last version nor the pins
pub collected_owned : (o : OwnedView) (desk : DeskView) (board : BoardState) → IsOwned o → desk.last ≡ o.desk.last
    → board.pins ≡ o.board.pins → board.floor ≤ length o.desk.last.batches → IsOwned (record o { desk = desk; board = board })
collected_owned o desk board is last pins low = record {
  pins = ap length pins ∙ is.pins;
  seats = is.seats;
  floor_low = subst (λ (v : VersionView). board.floor ≤ length v.batches) (sym last) low;
  counted = λ seat within.
      subst (λ (ps : List (Option Pin)). IsHoldCounted (length desk.last.batches) (pin_at ps seat) (count_at o.counts seat)) (sym pins)
      (subst (λ (v : VersionView). IsHoldCounted (length v.batches) (pin_at o.board.pins seat) (count_at o.counts seat)) (sym last)
      (is.counted seat within));
  apart = subst (λ (ps : List (Option Pin)). (a b number : ℕ) → a < SEATS → b < SEATS → pin_at ps a ≡ Some (held_pin number)
      → pin_at ps b ≡ Some (held_pin number) → a ≡ b) (sym pins) is.apart;
}

-- a pin at a floor that is no more than a number, settled at it
pub pin_held : (floor number : ℕ) → floor ≤ number → settled number (unsettled floor) ≡ held_pin number
pin_held floor number low = grind (arith, common_steps)
