-- What a block keeps true of its columns, after each change.
use Rattle.std.proofs.Common.{◌≡◌, ℕ, zero, suc, ◌*◌, ◌%◌, ◌^◌, ◌<◌, ◌≤◌, ℤ, List, length, set, replicate, sym, ◌∙◌, inl, inr}
use Rattle.std.proofs.{Common.arith, lemmas.Bool.cases_eq, lemmas.Bool.true≢false}
use Rattle.std.proofs.lemmas.List.{get_or-set_same, get_or-set_other, get_or-replicate, Elements.All-replicate}
use Rattle.std.proofs.lemmas.Nat.Bits.{bit_at_set_same, bit_at_set_other, bit_at_clear_other}
use Rattle.std.specs.{Int.{w32, bit_not, RustNames.{bit_or, bit_and}}, declared.option.Option.{Option, TheVariants.{None, Some}}}
use Rattle.lane_scan.specs.Masks.{IsPlaceOf}
use Rattle.edge_block.specs.Slots.{Slot, edge_slot, AreDistinct, IsSlot, IsBlock, BlockView, put_slot, take_slot}
use Rattle.edge_block.specs.Columns.{slots_of, AreColumns}
use Rattle.edge_block.proofs.{Entries.{AreDistinct-put_slot, AreDistinct-take_slot}, SlotLaws.{All-put_slot, All-take_slot}}
use Rattle.edge_block.proofs.Places.{slots_of-none, slots_of-put, slots_of-take, take_at, length-slots_of}

-- two blocks that differ in nothing
pub same_block : (v now : BlockView) (xs ys : List (Option Slot)) → v ≡ now → xs ≡ ys →
    (let b : BlockView = record { number = v.number; source = v.source; kind = v.kind; slots = xs } in b)
    ≡ record { number = now.number; source = now.source; kind = now.kind; slots = ys }
same_block v now xs ys e f = rw (e, f)

pub distinct_none : (n : ℕ) → AreDistinct (replicate n None)
distinct_none zero = tt
distinct_none (suc n) = ((λ target some. absurd (true≢false (sym some))), distinct_none n)

-- no place is live
pub columns_none : (ws : List ℤ) (fs rs : List ℕ) → AreColumns 0 (replicate 32 0) ws fs rs
columns_none ws fs rs = record {
  distinct = rw (slots_of-none (replicate 32 0) ws fs rs) (distinct_none 32);
  stamped = rw (slots_of-none (replicate 32 0) ws fs rs) (All-replicate IsSlot 32 None tt);
  cleared = λ place within dead. get_or-replicate 32 place 0 0 within;
}

-- the slots after a put, and after a take
pub after_put : (live : ℕ) (ts : List ℕ) (ws : List ℤ) (fs rs : List ℕ) (i t : ℕ) (w : ℤ) (f r : ℕ) → i < 32 →
    (length ts ≡ 32) × (length ws ≡ 32) × (length fs ≡ 32) × (length rs ≡ 32) →
    put_slot (edge_slot t w f r) (slots_of live ts ws fs rs) ≡ set (slots_of live ts ws fs rs) i (Some (edge_slot t w f r)) →
    slots_of (bit_or live (1 * 2 ^ i % 2 ^ 32)) (set ts i t) (set ws i w) (set fs i f) (set rs i r)
    ≡ put_slot (edge_slot t w f r) (slots_of live ts ws fs rs)
after_put live ts ws fs rs i t w f r few long puts =
    slots_of-put live ts ws fs rs i t w f r few long.0 long.1 long.2 long.3 ∙ sym puts

pub after_take : (live : ℕ) (ts : List ℕ) (ws : List ℤ) (fs rs : List ℕ) (target i : ℕ) → length ts ≡ 32
    → IsPlaceOf ts live target i →
    ((other : ℕ) → IsPlaceOf ts live target other → i ≤ other) →
    slots_of (bit_and live (bit_not w32 (1 * 2 ^ i % 2 ^ 32))) (set ts i 0) ws fs rs
    ≡ take_slot target (slots_of live ts ws fs rs)
after_take live ts ws fs rs target i lt at least =
    let within : i < length ts = at.within in
    slots_of-take live ts ws fs rs i 0 (omega arith) ∙ sym (take_at live ts ws fs rs target i lt at least).1

pub columns_put : (live : ℕ) (ts : List ℕ) (ws : List ℤ) (fs rs : List ℕ) (i t : ℕ) (w : ℤ) (f r : ℕ) → i < 32 →
    slots_of (bit_or live (1 * 2 ^ i % 2 ^ 32)) (set ts i t) (set ws i w) (set fs i f) (set rs i r)
    ≡ put_slot (edge_slot t w f r) (slots_of live ts ws fs rs) →
    IsSlot (Some (edge_slot t w f r)) → AreColumns live ts ws fs rs →
    AreColumns (bit_or live (1 * 2 ^ i % 2 ^ 32)) (set ts i t) (set ws i w) (set fs i f) (set rs i r)
columns_put live ts ws fs rs i t w f r few e stamp h = record {
  distinct = rw e (AreDistinct-put_slot (edge_slot t w f r) (slots_of live ts ws fs rs) h.distinct);
  stamped = rw e (All-put_slot (edge_slot t w f r) (slots_of live ts ws fs rs) stamp h.stamped);
  cleared = λ place within dead. elim (cases_eq place i) [
    | inl same ↦ absurd (dead (rw same (bit_at_set_same w32 live i few)))
    | inr ne ↦ rw (get_or-set_other ts i place t 0 ne)
        (h.cleared place within (λ lives. dead (rw (bit_at_set_other w32 live i few place ne) lives)))
  ];
}

pub columns_take : (live : ℕ) (ts : List ℕ) (ws : List ℤ) (fs rs : List ℕ) (target i : ℕ) → i < length ts → i < 32 →
    slots_of (bit_and live (bit_not w32 (1 * 2 ^ i % 2 ^ 32))) (set ts i 0) ws fs rs
    ≡ take_slot target (slots_of live ts ws fs rs) →
    AreColumns live ts ws fs rs → AreColumns (bit_and live (bit_not w32 (1 * 2 ^ i % 2 ^ 32))) (set ts i 0) ws fs rs
columns_take live ts ws fs rs target i in_ts few e h = record {
  distinct = rw e (AreDistinct-take_slot target (slots_of live ts ws fs rs) h.distinct);
  stamped = rw e (All-take_slot target (slots_of live ts ws fs rs) h.stamped);
  cleared = λ place within dead. elim (cases_eq place i) [
    | inl same ↦ rw same (get_or-set_same ts i 0 0 in_ts)
    | inr ne ↦ rw (get_or-set_other ts i place 0 0 ne)
        (h.cleared place within (λ lives. dead (rw (bit_at_clear_other w32 live i few place within ne) lives)))
  ];
}

pub block_of_columns : (n s k live : ℕ) (ts : List ℕ) (ws : List ℤ) (fs rs : List ℕ) → AreColumns live ts ws fs rs →
    IsBlock (record { number = n; source = s; kind = k; slots = slots_of live ts ws fs rs })
block_of_columns n s k live ts ws fs rs h =
    record { places = length-slots_of live ts ws fs rs; distinct = h.distinct; stamped = h.stamped }
