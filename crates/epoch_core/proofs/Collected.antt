-- What a whole collection leaves.
use Rattle.std.proofs.Common.{◌≡◌, ℕ, suc, ◌≤◌, Bool, true, false, ◌||◌, inl, inr, List, [], ◌∷◌, ◌++◌, map, replicate}
use Rattle.std.proofs.{Common.{get_or, set, refl, sym, ap, subst, ◌∙◌, arith, eqb}, lemmas.{Grind.common_steps, Bool.{cases_eq, or_cases}}}
use Rattle.std.{proofs.lemmas.Bool.Decides.nat_tests, specs.{Prelude.slice_get, List.list_any, Option.unwrap_or}}
use Rattle.std.specs.declared.option.Option.{Option, TheVariants.{None, Some}}
use Rattle.block_reclamation.specs.declared.{copies.{PinCopy.PinCopy, Pin.Pin}, status.BlockStatus.BlockStatus}
use Rattle.block_reclamation.specs.{declared.status.BlockStatus.TheVariants.{Free, Retired}, Status.{is_at, is_among}}
use Rattle.block_reclamation.specs.{Status.is_retired, Copies.{needs, is_between, is_pin_before, settled_number, unsettled_number}}
use Rattle.block_reclamation.proofs.{OneStatus.not_retired, SeatPins.none_there}
use Rattle.graph_types.proofs.{Cases.{option_map_some, some_pin}, ListPlaces.{set_same, set_else}}
use Rattle.epoch_core.specs.declared.session_states.SessionState.{SessionState, TheVariants.Idle}
use Rattle.epoch_core.specs.{declared.events.Event.TheVariants.Recycle, Blocks.reclaimed, Collections.LeavesNoneUnpinned}
use Rattle.epoch_core.specs.{Collections.{IsSettledNeed, IsUnsettledNeed, IsPinned, collecting, LeavesWhatPinsNeed}, Worlds.World}
use Rattle.epoch_core.specs.{Worlds.{last_number, session_of, pin_in, present_copy, seat_pin}, Machine.{step, with_status}}
use Rattle.epoch_core.{specs.{Runs.{next_world, run}, Sound.{IsDatedAt, IsSound}}, proofs.Lists.ChangedAt}
use Rattle.epoch_core.proofs.{Lists.changed_at-some, Moves.{floored, settled_needs, unsettled_needs}}

-- a block was born and retired with these numbers
abbrev pub IsRetiredAt : World → ℕ → ℕ → ℕ → Type 0
IsRetiredAt w b birth retirement = slice_get w.status b ≡ Some (Retired birth retirement)

-- one Recycle
record Recycles (v new : World) (c : ℕ) : Type 0 where
  copy : new.copy ≡ v.copy
  back : (b birth retirement : ℕ) → IsRetiredAt new b birth retirement
      → IsRetiredAt v b birth retirement × (c ≡ b → needs v.copy birth retirement ≡ true)
  stays : (b birth retirement : ℕ) → IsRetiredAt v b birth retirement → needs v.copy birth retirement ≡ true → IsRetiredAt new b birth retirement

-- a Recycle that is skipped at a retired block: the block is needed
needed : (v : World) (b birth retirement : ℕ) → IsRetiredAt v b birth retirement → step v (Recycle b) ≡ None
    → needs v.copy birth retirement ≡ true
needed v b birth retirement at none = grind (arith, common_steps)

-- what is recycled was retired and isn't needed
unneeded : (copy : PinCopy) (before after : BlockStatus) (birth retirement : ℕ) → reclaimed copy before ≡ Some after
    → before ≡ Retired birth retirement → needs copy birth retirement ≡ false
unneeded copy before after birth retirement is at = grind (arith, common_steps)

freed : (copy : PinCopy) (before after : BlockStatus) → reclaimed copy before ≡ Some after → after ≡ Free
freed copy before after is = grind (arith, common_steps)

recycles : (v : World) (c : ℕ) → Recycles v (next_world v (Recycle c)) c
recycles v c =
    elim (step v (Recycle c)) as (λ o. step v (Recycle c) ≡ o → Recycles v (unwrap_or o v) c) [
      | None ↦ λ none. record {
        copy = refl;
        back = λ b birth retirement at. (at, λ same. needed v b birth retirement at (ap (λ k. step v (Recycle k)) (sym same) ∙ none));
        stays = λ b birth retirement at _. at;
      }
      | Some new ↦ λ is.
          let whole = option_map_some (with_status v) _ new is in
          let k : ChangedAt (reclaimed v.copy) v.status c whole.0 = changed_at-some (reclaimed v.copy) v.status c whole.0 whole.1 in
          let free : k.after ≡ Free = freed v.copy k.before k.after k.changed in
          let result : new ≡ with_status v (set v.status c Free) =
          whole.2 ∙ ap (with_status v) (k.result ∙ ap (set v.status c) free) in
          subst (λ u. Recycles v u c) (sym result) (record {
            copy = refl;
            back = λ b birth retirement at. elim (cases_eq b c) [
              | inl e ↦
                  let no : slice_get (set v.status c Free) b ≡ Some Free =
                  ap (slice_get (set v.status c Free)) e ∙ set_same v.status c k.before Free k.found in
                  absurd (let bad : Some (Retired birth retirement) ≡ Some Free = sym at ∙ no in cc)
              | inr ne ↦ (sym (set_else v.status c b Free ne) ∙ at, λ e. absurd (ne (sym e)))
            ];
            stays = λ b birth retirement at need. elim (cases_eq b c) [
              | inl e ↦
                  let both : Some k.before ≡ Some (Retired birth retirement) = sym k.found ∙ ap (slice_get v.status) (sym e) ∙ at in
                  let same : k.before ≡ Retired birth retirement = cc in
                  let not_need : needs v.copy birth retirement ≡ false = unneeded v.copy k.before k.after birth retirement k.changed same in
                  absurd (cc)
              | inr ne ↦ set_else v.status c b Free ne ∙ at
            ];
          })
    ] refl

-- all of them
still : (bs : List ℕ) (v : World) (b birth retirement : ℕ) → IsRetiredAt v b birth retirement → needs v.copy birth retirement ≡ true
    → IsRetiredAt (run (map Recycle bs) v) b birth retirement
still [] v b birth retirement at need = at
still (c ∷ cs) v b birth retirement at need =
    let r : Recycles v (next_world v (Recycle c)) c = recycles v c in
    still cs (next_world v (Recycle c)) b birth retirement (r.stays b birth retirement at need)
    (ap (λ k. needs k birth retirement) r.copy ∙ need)

was : (bs : List ℕ) (v : World) (b birth retirement : ℕ) → IsRetiredAt (run (map Recycle bs) v) b birth retirement
    → IsRetiredAt v b birth retirement × (is_among b bs ≡ true → needs v.copy birth retirement ≡ true)
was [] v b birth retirement at = (at, λ no. cc)
was (c ∷ cs) v b birth retirement at =
    let r : Recycles v (next_world v (Recycle c)) c = recycles v c in
    let rest = was cs (next_world v (Recycle c)) b birth retirement at in
    let here = r.back b birth retirement rest.0 in (
      here.0,
      elim (eqb c b) as (λ t. eqb c b ≡ t → (t || is_among b cs) ≡ true → needs v.copy birth retirement ≡ true) [
        | true ↦ λ e _. here.1 (grind (arith, e))
        | false ↦ λ _ listed. sym (ap (λ k. needs k birth retirement) r.copy) ∙ rest.1 listed
      ] refl,
    )

-- what the copy of the pins needs, a pin needs
record Found (number : Option Pin → Option ℕ) (p : Option ℕ → Bool) (states : List SessionState) : Type 0 where
  session : ℕ
  pin : ℕ
  at : number (seat_pin (get_or states session Idle)) ≡ Some pin
  holds : p (Some pin) ≡ true

found : (number : Option Pin → Option ℕ) (p : Option ℕ → Bool) (sessions : List SessionState) (k : ℕ) → p None ≡ false
    → number None ≡ None → list_any p (map number (map seat_pin sessions ++ replicate k None)) ≡ true → Found number p sessions
found number p [] k never none is =
    absurd (let bad : true ≡ false = sym is ∙ none_there number p k (ap p none ∙ never) in cc)
found number p (session ∷ sessions) k never none is =
    elim (p (number (seat_pin session))) as
    (λ t. p (number (seat_pin session)) ≡ t → (t || list_any p (map number (map seat_pin sessions ++ replicate k None))) ≡ true
    → Found number p (session ∷ sessions)) [
      | true ↦ λ holds _.
          let one = some_pin p (number (seat_pin session)) never holds in
          record { session = 0; pin = one.0; at = one.1; holds = one.2 }
      | false ↦ λ _ rest.
          let f : Found number p sessions = found number p sessions k never none rest in
          record { session = suc f.session; pin = f.pin; at = f.at; holds = f.holds }
    ] refl is

settled_need : (w : World) (birth retirement : ℕ) → Found settled_number (is_between birth retirement) w.sessions → IsSettledNeed w birth retirement
settled_need w birth retirement f = grind (arith, common_steps)

unsettled_need : (w : World) (retirement : ℕ) → Found unsettled_number (is_pin_before retirement) w.sessions → IsUnsettledNeed w retirement
unsettled_need w retirement f = grind (arith, common_steps)

pub pinned : (w : World) (birth retirement : ℕ) → retirement ≤ last_number w → needs (present_copy w) birth retirement ≡ true → IsPinned w birth retirement
pinned w birth retirement low need = grind (arith, common_steps, or_cases, nat_tests, settled_need, found, unsettled_need)

pub pin_needs : (w : World) (birth retirement : ℕ) → IsPinned w birth retirement → needs (present_copy w) birth retirement ≡ true
pin_needs w birth retirement (inl n) = settled_needs w n.session n.pin birth retirement n.is_pin n.born n.before
pin_needs w birth retirement (inr n) = unsettled_needs w n.session n.pin birth retirement n.is_pin n.before

pub retired_by : (w : World) (b birth retirement : ℕ) → IsSound w → IsRetiredAt w b birth retirement → retirement ≤ last_number w
retired_by w b birth retirement sound at = (subst (IsDatedAt (last_number w)) at (sound.dated b)).1

pub leaves_what_pins_need : (w : World) → IsSound w → LeavesWhatPinsNeed w
leaves_what_pins_need w sound blocks all b birth retirement = (
  λ at.
      let old = was blocks (floored w) b birth retirement at in
      let listed : is_among b blocks ≡ true = all b (ap (is_at is_retired) old.0) in
      (old.0, pinned w birth retirement (retired_by w b birth retirement sound old.0) (old.1 listed)),
  λ h. still blocks (floored w) b birth retirement h.0 (pin_needs w birth retirement h.1),
)

no_need : (w : World) (birth retirement : ℕ) → ((s : ℕ) → pin_in (session_of w s) ≡ None) → IsPinned w birth retirement → ⊥
no_need w birth retirement none h = grind (arith, common_steps)

pub leaves_none_unpinned : (w : World) → IsSound w → LeavesNoneUnpinned w
leaves_none_unpinned w sound blocks all none b =
    not_retired (slice_get (run (collecting blocks) w).status b)
    (λ birth retirement at. no_need w birth retirement none ((leaves_what_pins_need w sound blocks all b birth retirement).0 at).1)
