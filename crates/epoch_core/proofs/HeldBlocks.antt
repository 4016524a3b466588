-- What a whole collection leaves, by the versions that sessions hold.
use Rattle.std.proofs.Common.{◌≡◌, ◌⊎◌, inl, inr, ℕ, zero, suc, ◌<◌, ◌≤◌, Bool, true, false, refl, sym, ap, subst, ◌∙◌}
use Rattle.std.proofs.{Common.arith, lemmas.{Grind.common_steps, Bool.cases_lt}}
use Rattle.std.specs.{Prelude.slice_get, declared.option.Option.{Option, TheVariants.{Some}}}
use Rattle.block_reclamation.specs.declared.status.BlockStatus.{BlockStatus}
use Rattle.block_reclamation.specs.{Status.{is_at, is_among, is_retired, is_used}, Copies.{needs, settled_number, unsettled_number}}
use Rattle.block_reclamation.proofs.OneStatus.{not_used, RetiredThen, retired_then}
use Rattle.graph_types.proofs.Numbers.{below, is_below}
use Rattle.epoch_core.specs.declared.session_states.{Hold.Hold, SessionState.SessionState}
use Rattle.epoch_core.specs.Worlds.{World, held_in, last_blocks, last_number, present_copy, seat_pin, session_of, settled_in}
use Rattle.epoch_core.specs.{Worlds.unsettled_in, Versions.blocks_at, Runs.run, Collections.{has_settled, HaveSettled, collecting}}
use Rattle.epoch_core.specs.Collections.{IsHeldBlock, IsListedFromPin, IsPinned, LeavesWhatIsHeld, LeavesWhatMayBeHeld}
use Rattle.epoch_core.specs.Sound.{IsDatedAt, IsHeld, IsKeptAt, IsListedAt, IsListedBetween, IsSessionSound, IsSound}
use Rattle.epoch_core.proofs.Collected.{IsRetiredAt, leaves_what_pins_need, pinned, pin_needs, retired_by}

-- a session that has settled, or has no pin, has no unsettled one
none_unsettled : (session : SessionState) (pin : ℕ) → has_settled session ≡ true → unsettled_in session ≡ Some pin → ⊥
none_unsettled session pin told is = grind (arith, common_steps)

-- a session that holds a version holds it soundly, and its seat has its pin
pub record Holder (w : World) (session : SessionState) (n : ℕ) : Type 0 where
  pub hold : Hold
  pub version_is : hold.version ≡ n
  pub held : IsHeld w hold
  pub seat : seat_pin session ≡ Some (record { number = hold.pin; is_settled = hold.settled })

pub holder_of : (w : World) (session : SessionState) (n : ℕ) → IsSessionSound w session → held_in session ≡ Some n
    → Holder w session n
holder_of w session n sound held = grind (arith, common_steps)

-- a settled pin is the number of the version that its session holds
settled_holds : (w : World) (session : SessionState) (pin : ℕ) → IsSessionSound w session → settled_in session ≡ Some pin
    → (held_in session ≡ Some pin) × (pin ≤ last_number w)
settled_holds w session pin sound is = grind (arith, common_steps)

-- which versions list a retired block
listing : (w : World) (b birth retirement : ℕ) → IsSound w → IsRetiredAt w b birth retirement
    → IsListedBetween w b birth retirement
listing w b birth retirement sound at = subst (IsListedAt w b) at (sound.listed b)

dates : (w : World) (b birth retirement : ℕ) → IsSound w → IsRetiredAt w b birth retirement
    → (birth < retirement) × (retirement ≤ last_number w)
dates w b birth retirement sound at = subst (IsDatedAt (last_number w)) at (sound.dated b)

-- the version before the retirement lists the block
before : (w : World) (b birth retirement session pin : ℕ) → IsSound w → IsRetiredAt w b birth retirement
    → unsettled_in (session_of w session) ≡ Some pin → pin < retirement → IsListedFromPin w b
before w b birth zero session pin sound at is low = absurd (omega arith)
before w b birth (suc n) session pin sound at is low =
    let d = dates w b birth (suc n) sound at in
    record {
      session = session;
      pin = pin;
      version = n;
      is_pin = is;
      pin_version = omega arith;
      version_last = omega (arith, d.1);
      lists = listing w b birth (suc n) sound at n (omega (arith, d.0)) (omega (arith, d.1)) ∙ below n (suc n) (omega arith);
    }

-- what a pin needs, a version lists that a session holds or may come to hold
listed_of : (w : World) (b birth retirement : ℕ) → IsSound w → IsRetiredAt w b birth retirement → IsPinned w birth retirement
    → IsHeldBlock w b ⊎ IsListedFromPin w b
listed_of w b birth retirement sound at (inl need) =
    let holds = settled_holds w (session_of w need.session) need.pin (sound.sessions need.session) need.is_pin in
    inl (record {
      session = need.session;
      version = need.pin;
      holds = holds.0;
      lists = listing w b birth retirement sound at need.pin need.born holds.1 ∙ below need.pin retirement need.before;
    })
listed_of w b birth retirement sound at (inr need) =
    inr (before w b birth retirement need.session need.pin sound at need.is_pin need.before)

settled_there : (session : SessionState) (pin : ℕ) → seat_pin session ≡ Some (record { number = pin; is_settled = true })
    → settled_in session ≡ Some pin
settled_there session pin is = ap settled_number is

unsettled_there : (session : SessionState) (pin : ℕ) → seat_pin session ≡ Some (record { number = pin; is_settled = false })
    → unsettled_in session ≡ Some pin
unsettled_there session pin is = ap unsettled_number is

-- and what such a version lists, a pin needs
holder_needs : (w : World) (b birth retirement s n : ℕ) (told : Bool) (holder : Holder w (session_of w s) n)
    → holder.hold.settled ≡ told → birth ≤ holder.hold.version → holder.hold.version < retirement → IsPinned w birth retirement
holder_needs w b birth retirement s n true holder is low high =
    let same : holder.hold.pin ≡ holder.hold.version = holder.held.settled is in
    inl (record {
      session = s;
      pin = holder.hold.pin;
      is_pin = settled_there (session_of w s) holder.hold.pin (holder.seat ∙ ap (λ t. Some (record { number = holder.hold.pin; is_settled = t })) is);
      born = omega (arith, same, low);
      before = omega (arith, same, high);
    })
holder_needs w b birth retirement s n false holder is low high =
    inr (record {
      session = s;
      pin = holder.hold.pin;
      is_pin = unsettled_there (session_of w s) holder.hold.pin (holder.seat ∙ ap (λ t. Some (record { number = holder.hold.pin; is_settled = t })) is);
      before = omega (arith, holder.held.pin_held, high);
    })

pin_of : (w : World) (b birth retirement : ℕ) → IsSound w → IsRetiredAt w b birth retirement
    → IsHeldBlock w b ⊎ IsListedFromPin w b → IsPinned w birth retirement
pin_of w b birth retirement sound at (inl h) =
    let holder : Holder w (session_of w h.session) h.version =
    holder_of w (session_of w h.session) h.version (sound.sessions h.session) h.holds in
    let lists : is_among b (blocks_at w.opening w.versions holder.hold.version) ≡ true =
    ap (λ n. is_among b (blocks_at w.opening w.versions n)) holder.version_is ∙ h.lists in
    let kept = subst (IsKeptAt holder.hold.version) at (holder.held.kept b lists) in
    holder_needs w b birth retirement h.session h.version holder.hold.settled holder refl kept.0 kept.1
pin_of w b birth retirement sound at (inr f) =
    inr (record {
      session = f.session;
      pin = f.pin;
      is_pin = f.is_pin;
      before = elim (cases_lt f.version birth) [
        | inl early ↦ omega (arith, early, f.pin_version, (dates w b birth retirement sound at).0)
        | inr late ↦
            let h : f.version < retirement = is_below f.version retirement
            (sym (listing w b birth retirement sound at f.version late f.version_last) ∙ f.lists) in
            omega (arith, h, f.pin_version)
      ];
    })

-- the copy of the pins as they stand needs exactly the retired blocks that such a version lists
pub record NeedsWhatIsListed (w : World) (b birth retirement : ℕ) : Type 0 where
  pub listed : needs (present_copy w) birth retirement ≡ true → IsHeldBlock w b ⊎ IsListedFromPin w b
  pub needed : IsHeldBlock w b ⊎ IsListedFromPin w b → needs (present_copy w) birth retirement ≡ true

pub needs_what_is_listed : (w : World) (b birth retirement : ℕ) → IsSound w → IsRetiredAt w b birth retirement
    → NeedsWhatIsListed w b birth retirement
needs_what_is_listed w b birth retirement sound at = record {
  listed = λ need. listed_of w b birth retirement sound at
      (pinned w birth retirement (retired_by w b birth retirement sound at) need);
  needed = λ is. pin_needs w birth retirement (pin_of w b birth retirement sound at is);
}

pub leaves_what_may_be_held : (w : World) → IsSound w → LeavesWhatMayBeHeld w
leaves_what_may_be_held w sound blocks all b = (
  λ still.
      let then : RetiredThen (slice_get (run (collecting blocks) w).status b) = retired_then _ still in
      let was = (leaves_what_pins_need w sound blocks all b then.birth then.retirement).0 then.is in
      (ap (is_at is_retired) was.0, listed_of w b then.birth then.retirement sound was.0 was.1),
  λ h.
      let then : RetiredThen (slice_get w.status b) = retired_then _ h.0 in
      ap (is_at is_retired) ((leaves_what_pins_need w sound blocks all b then.birth then.retirement).1
      (then.is, pin_of w b then.birth then.retirement sound then.is h.1)),
)

-- so only held versions count where each pinned session has settled
pub held_alone : (w : World) (b : ℕ) → HaveSettled w → IsHeldBlock w b ⊎ IsListedFromPin w b → IsHeldBlock w b
held_alone w b told (inl h) = h
held_alone w b told (inr f) = absurd (none_unsettled (session_of w f.session) f.pin (told f.session) f.is_pin)

kept_retired : (n : ℕ) (o : Option BlockStatus) → IsKeptAt n o → is_at is_used o ≡ false → is_at is_retired o ≡ true
kept_retired n o kept unused = grind (arith, common_steps)

-- a retired block isn't listed by the last version, and a held block that it doesn't list is retired
pub unlisted : (w : World) (b : ℕ) → IsSound w → is_at is_retired (slice_get w.status b) ≡ true → is_among b (last_blocks w) ≡ false
unlisted w b sound is = sym (sound.used b) ∙ not_used (slice_get w.status b) is

pub held_is_retired : (w : World) (b : ℕ) → IsSound w → IsHeldBlock w b → is_among b (last_blocks w) ≡ false
    → is_at is_retired (slice_get w.status b) ≡ true
held_is_retired w b sound h none =
    let holder : Holder w (session_of w h.session) h.version =
    holder_of w (session_of w h.session) h.version (sound.sessions h.session) h.holds in
    let lists : is_among b (blocks_at w.opening w.versions holder.hold.version) ≡ true =
    ap (λ n. is_among b (blocks_at w.opening w.versions n)) holder.version_is ∙ h.lists in
    kept_retired holder.hold.version (slice_get w.status b) (holder.held.kept b lists) (sound.used b ∙ none)

pub leaves_what_is_held : (w : World) → IsSound w → LeavesWhatIsHeld w
leaves_what_is_held w sound blocks all told b = (
  λ still.
      let was = (leaves_what_may_be_held w sound blocks all b).0 still in
      (held_alone w b told was.1, unlisted w b sound was.0),
  λ h. (leaves_what_may_be_held w sound blocks all b).1 (held_is_retired w b sound h.0 h.1, inl h.0),
)
