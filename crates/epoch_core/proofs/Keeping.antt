-- Each event keeps what is sound: blocks and versions.
use Rattle.std.proofs.Common.{◌≡◌, ◌≢◌, ℕ, ◌≤◌, Bool, true, false, not, inl, inr, List, [], set, take, refl, sym, ap, subst, ◌∙◌}
use Rattle.std.proofs.{Common.arith, lemmas.{Grind.common_steps, List.{get_or-set_other, length-set}, Bool.cases_eq}}
use Rattle.std.specs.{Prelude.{slice_get, if◌then◌else◌}, declared.option.Option.{Option, TheVariants.{None, Some}}}
use Rattle.graph_types.specs.declared.ids.Edge.{Edge}
use Rattle.block_reclamation.specs.{declared.status.BlockStatus.BlockStatus, declared.copies.PinCopy.PinCopy, Copies.needs}
use Rattle.block_reclamation.specs.declared.status.BlockStatus.TheVariants.{Free, Granted, Used, Retired}
use Rattle.block_reclamation.specs.Status.{is_at, is_among, is_used, IsDated, IsKept}
use Rattle.block_reclamation.proofs.ListedNumbers.{same_pieces, listed_take}
use Rattle.graph_types.proofs.ListPlaces.{set_else, set_same}
use Rattle.epoch_core.specs.declared.session_states.{Hold.Hold, SessionState.{SessionState, TheVariants.{Idle, Pinned, Holding}}}
use Rattle.epoch_core.specs.{declared.session_states.SessionState.TheVariants.Asking, Blocks.{filled_heap, status_taken, reclaimed}}
use Rattle.epoch_core.specs.{Machine.{with_heap, with_status}, Versions.{AreEdgesOf, blocks_at, edges_at, edges_of, graph_at}}
use Rattle.epoch_core.specs.{Versions.version_at, Worlds.{World, last_blocks, last_graph, last_number, session_of}}
use Rattle.epoch_core.specs.Sound.{IsCovered, IsDatedAt, IsHeld, IsKeptAt, IsListedAsDated, IsListedAt, IsNamed}
use Rattle.epoch_core.specs.Sound.{IsSessionSound, IsSound}

-- what a change of the world owes to each holder
pub record Carries (old new : World) : Type 0 where
  pub floor : new.floor ≡ old.floor
  pub copy : new.copy ≡ old.copy
  pub last : last_number old ≤ last_number new
  pub versions : (n : ℕ) → n ≤ last_number old → version_at new.opening new.versions n ≡ version_at old.opening old.versions n
  pub graphs : (n : ℕ) → n ≤ last_number old → graph_at new.opening new.versions n ≡ graph_at old.opening old.versions n
  -- no block that a holder keeps is freed or written
  pub kept : (b n : ℕ) → IsCovered old.copy n → n ≤ last_number old → IsKeptAt n (slice_get old.status b)
      → IsKeptAt n (slice_get new.status b)
  pub edges : (b n : ℕ) → IsKeptAt n (slice_get old.status b) → edges_at new.heap b ≡ edges_at old.heap b

-- a holder is carried over such a change
pub carry_held : (old new : World) (hold : Hold) → Carries old new → IsHeld old hold → IsHeld new hold
carry_held old new hold c h =
    let blocks : blocks_at new.opening new.versions hold.version ≡ blocks_at old.opening old.versions hold.version =
    ap (λ v. v.blocks) (c.versions hold.version h.held_last) in
    let pieces : edges_of new.heap (blocks_at old.opening old.versions hold.version)
    ≡ edges_of old.heap (blocks_at old.opening old.versions hold.version) =
    same_pieces (edges_at new.heap) (edges_at old.heap) _ (λ b is. c.edges b hold.version (h.kept b is)) in
    record {
      floor_pin = omega (arith, c.floor, h.floor_pin);
      pin_held = h.pin_held;
      held_last = omega (arith, c.last, h.held_last);
      settled = h.settled;
      covered = subst (λ k. IsCovered k hold.version) (sym c.copy) h.covered;
      kept = λ b is. c.kept b hold.version h.covered h.held_last (h.kept b (subst (λ bs. is_among b bs ≡ true) blocks is));
      shown =
          let same : edges_of new.heap (blocks_at new.opening new.versions hold.version)
          ≡ edges_of old.heap (blocks_at old.opening old.versions hold.version) = ap (edges_of new.heap) blocks ∙ pieces in
          subst (λ g. AreEdgesOf (edges_of new.heap (blocks_at new.opening new.versions hold.version)) g)
          (sym (c.graphs hold.version h.held_last))
          (subst (λ es. AreEdgesOf es (graph_at old.opening old.versions hold.version)) (sym same) h.shown);
    }

pub carry : (old new : World) (session : SessionState) → Carries old new → IsSessionSound old session → IsSessionSound new session
carry old new Idle c p = tt
carry old new (Pinned pin) c p = (omega (arith, c.floor, p.0), omega (arith, c.last, p.1))
carry old new (Holding hold) c p = carry_held old new hold c p
carry old new (Asking hold inquiry) c p =
    let blocks : blocks_at new.opening new.versions hold.version ≡ blocks_at old.opening old.versions hold.version =
    ap (λ v. v.blocks) (c.versions hold.version p.0.held_last) in
    let pieces : edges_of new.heap (take inquiry.next (blocks_at old.opening old.versions hold.version))
    ≡ edges_of old.heap (take inquiry.next (blocks_at old.opening old.versions hold.version)) =
    same_pieces (edges_at new.heap) (edges_at old.heap) _
    (λ b is. c.edges b hold.version (p.0.kept b (listed_take inquiry.next b _ is))) in
    (carry_held old new hold c p.0, p.1 ∙ sym pieces ∙ ap (λ bs. edges_of new.heap (take inquiry.next bs)) (sym blocks))

-- the status of one block changes, from what no holder keeps, and neither from nor to a used block
pub record FreesNone (copy : PinCopy) (before after : BlockStatus) : Type 0 where
  pub unused_before : is_used before ≡ false
  pub unused_after : is_used after ≡ false
  pub dated : (last : ℕ) → IsDated last after
  pub listed : (w : World) (b : ℕ) → IsListedAsDated w b after
  pub not_kept : (n : ℕ) → IsCovered copy n → IsKept n before → ⊥

pub frees_taken : (copy : PinCopy) (before after : BlockStatus) → status_taken before ≡ Some after → FreesNone copy before after
frees_taken copy before after is = grind (arith, common_steps)

abbrev freed_by : Bool → Option BlockStatus
freed_by t = if not t then Some Free else None

pub frees_recycled : (copy : PinCopy) (before after : BlockStatus) → reclaimed copy before ≡ Some after → FreesNone copy before after
frees_recycled copy Free after is = cc
frees_recycled copy Granted after is = cc
frees_recycled copy (Used birth) after is = cc
frees_recycled copy (Retired birth retirement) after is =
    elim (needs copy birth retirement) as (λ t. needs copy birth retirement ≡ t → freed_by t ≡ Some after
    → FreesNone copy (Retired birth retirement) after) [
      | true ↦ λ _ f. cc
      | false ↦ λ e f.
          let free : after ≡ Free = cc in
          record {
            unused_before = refl;
            unused_after = ap is_used free;
            dated = λ last. subst (IsDated last) (sym free) tt;
            listed = λ w b. subst (IsListedAsDated w b) (sym free) tt;
            not_kept = λ n covered k. let needed : needs copy birth retirement ≡ true = covered birth retirement k.0 k.1 in cc;
          }
    ] refl is

-- names are of versions alone
pub named_still : (w : World) (heap : List (List Edge)) (status : List BlockStatus) (floor : ℕ) (copy : PinCopy)
    (sessions : List SessionState) → IsSound w → (n : ℕ) → n ≤ last_number w
    → IsNamed (record w { heap = heap; status = status; floor = floor; copy = copy; sessions = sessions }) n
named_still w heap status floor copy sessions sound n h =
    record { names = (sound.named n h).names; kinds = (sound.named n h).kinds }

-- a change of blocks keeps the versions
carries_blocks : (w : World) (heap : List (List Edge)) (status : List BlockStatus)
    → ((b n : ℕ) → IsCovered w.copy n → IsKeptAt n (slice_get w.status b) → IsKeptAt n (slice_get status b))
    → ((b n : ℕ) → IsKeptAt n (slice_get w.status b) → edges_at heap b ≡ edges_at w.heap b)
    → Carries w (record w { heap = heap; status = status })
carries_blocks w heap status kept edges = record {
  floor = refl;
  copy = refl;
  last = omega arith;
  versions = λ n _. refl;
  graphs = λ n _. refl;
  kept = λ b n covered _ k. kept b n covered k;
  edges = edges;
}

pub sound_status : (w : World) (b : ℕ) (before after : BlockStatus) → IsSound w → slice_get w.status b ≡ Some before
    → FreesNone w.copy before after → IsSound (with_status w (set w.status b after))
sound_status w b before after sound found frees =
    let carries : Carries w (with_status w (set w.status b after)) = carries_blocks w w.heap (set w.status b after)
    (λ c n covered k. elim (cases_eq c b) [
      | inl e ↦ absurd (frees.not_kept n covered (subst (IsKeptAt n) (ap (slice_get w.status) e ∙ found) k))
      | inr ne ↦ subst (IsKeptAt n) (sym (set_else w.status b c after ne)) k
    ]) (λ c n _. refl) in
    record {
      floor_last = sound.floor_last;
      copy_last = sound.copy_last;
      used = λ c. elim (cases_eq c b) [
        | inl e ↦
            ap (λ k. is_at is_used (slice_get (set w.status b after) k)) e
            ∙ ap (is_at is_used) (set_same w.status b before after found) ∙ frees.unused_after
            ∙ sym frees.unused_before ∙ sym (ap (is_at is_used) found)
            ∙ sym (ap (λ k. is_at is_used (slice_get w.status k)) e) ∙ sound.used c
        | inr ne ↦ ap (is_at is_used) (set_else w.status b c after ne) ∙ sound.used c
      ];
      dated = λ c. elim (cases_eq c b) [
        | inl e ↦ subst (IsDatedAt (last_number w)) (sym
            (ap (slice_get (set w.status b after)) e ∙ set_same w.status b before after found)) (frees.dated (last_number w))
        | inr ne ↦ subst (IsDatedAt (last_number w)) (sym (set_else w.status b c after ne)) (sound.dated c)
      ];
      listed = λ c. elim (cases_eq c b) [
        | inl e ↦ subst (IsListedAt w c) (sym
            (ap (slice_get (set w.status b after)) e ∙ set_same w.status b before after found)) (frees.listed w c)
        | inr ne ↦ subst (IsListedAt w c) (sym (set_else w.status b c after ne)) (sound.listed c)
      ];
      listed_once = sound.listed_once;
      shown = sound.shown;
      named = named_still w w.heap (set w.status b after) w.floor w.copy w.sessions sound;
      sessions = λ s. carry w (with_status w (set w.status b after)) (session_of w s) carries (sound.sessions s);
      sizes = sound.sizes ∙ sym (length-set w.status b after);
    }

-- a Fill that is done names a granted block
pub record Fills (status : List BlockStatus) (heap : List (List Edge)) (b : ℕ) (edges : List Edge)
    (after : List (List Edge)) : Type 0 where
  pub granted : slice_get status b ≡ Some Granted
  pub result : after ≡ set heap b edges

pub fills : (status : List BlockStatus) (heap : List (List Edge)) (b : ℕ) (edges : List Edge) (after : List (List Edge))
    → filled_heap status heap b edges ≡ Some after → Fills status heap b edges after
fills status heap b edges after is = grind (arith, common_steps)

pub sound_fill : (w : World) (b : ℕ) (edges : List Edge) → IsSound w → slice_get w.status b ≡ Some Granted
    → IsSound (with_heap w (set w.heap b edges))
sound_fill w b edges sound granted =
    let carries : Carries w (with_heap w (set w.heap b edges)) = carries_blocks w (set w.heap b edges) w.status (λ c n _ k. k)
    (λ c n k. let apart : c ≢ b = λ e. subst (IsKeptAt n) (ap (slice_get w.status) e ∙ granted) k in
    get_or-set_other w.heap b c edges [] apart) in
    record {
      floor_last = sound.floor_last;
      copy_last = sound.copy_last;
      used = sound.used;
      dated = sound.dated;
      listed = sound.listed;
      listed_once = sound.listed_once;
      shown = subst (λ es. AreEdgesOf es (last_graph w))
          (sym (same_pieces (edges_at (set w.heap b edges)) (edges_at w.heap) (last_blocks w)
          (λ c is. let apart : c ≢ b = λ e. let unused : is_at is_used (slice_get w.status c)
          ≡ false = ap (λ k. is_at is_used (slice_get w.status k)) e ∙ ap (is_at is_used) granted in let used =
          sound.used c in cc in get_or-set_other w.heap b c edges [] apart)))
          sound.shown;
      named = named_still w (set w.heap b edges) w.status w.floor w.copy w.sessions sound;
      sessions = λ s. carry w (with_heap w (set w.heap b edges)) (session_of w s) carries (sound.sessions s);
      sizes = length-set w.heap b edges ∙ sound.sizes;
    }
