-- What is kept of the versions held, as seats change.
use Rattle.std.proofs.Common.{◌≡◌, ℕ, ◌+◌, ◌<◌, ◌≤◌, ◌==◌, ◌⊎◌, true, false, inl, inr, List, [], ◌∷◌, ◌++◌, length, replicate, set, get_or}
use Rattle.std.proofs.Common.{refl, sym, ap, subst, ◌∙◌, append-nil, append_assoc, length-append, arith}
use Rattle.std.proofs.{Math.ListN.{length-set, get_or-map}, lemmas.Bool.{eq-eqb, eqb-true, true≢false}}
use Rattle.std.proofs.lemmas.List.{get_or-set_same, get_or-set_other, get_or-replicate, length-replicate}
use Rattle.std.specs.{Prelude.{Option, None, Some, if◌then◌else◌}}
use Rattle.block_reclamation.specs.declared.copies.{Pin.Pin, PinCopy.PinCopy, TheConstants.SEATS}
use Rattle.block_reclamation.specs.Copies.{copy_of, number_if, pin_at, settled_number}
use Rattle.edge_block.specs.Slots.{BlockView}
use Rattle.graph_types.specs.declared.{batches.NamedOp.NamedOp, ids.VertexId.VertexId}
use Rattle.graph_version.specs.{Differences.DifferAt, Rows.{blocks_of}, Versions.{VersionView, IsVersion}}
use Rattle.store_steps.specs.{Acceptances.Accepts, Desks.{DeskView, IsCollected, IsDesk}}
use Rattle.store_steps.proofs.AcceptedDesk.{batches_after, opening_after}
use Rattle.owned_desk.specs.Kept.{HasBlocksOf, IsFormerVersion, IsSeatVersion, IsVersionOf, IsWithoutVersions, KeepsVersions, KeptView, seat_version}
use Rattle.owned_desk.specs.Touched.{SameNumbers, TouchesSources, is_source, number_at}
use Rattle.owned_desk.proofs.KeptBlocks.{block_in, blocks_stay, collected_kept, last_kept, next_block, next_blocks, same_blocks, version_blocks}

-- Nothing is held

pub none_kept : (d : DeskView) (touched : List ℕ) → IsVersion d.last
    → KeepsVersions d (replicate SEATS None) (record { versions = replicate SEATS None; touched = touched })
none_kept d touched is =
    let block_of : ℕ → BlockView = block_in (blocks_of d.last.rows) in
    record {
      seats = length-replicate {A = Option VersionView} SEATS None;
      block_of = block_of;
      last = version_blocks d.last is;
      each = λ seat low.
          let pin : pin_at (replicate SEATS None) seat ≡ None = get_or-replicate SEATS seat None None low in
          let version : seat_version (replicate SEATS None) seat ≡ None = get_or-replicate SEATS seat None None low in
          subst (λ p. IsSeatVersion touched block_of d p (seat_version (replicate SEATS None) seat)) (sym pin)
          (subst (IsSeatVersion touched block_of d None) (sym version) tt);
    }

-- One seat is changed

module _ (d : DeskView) (pins : List (Option Pin)) (kept : KeptView) (seat : ℕ) (is : KeepsVersions d pins kept)
    (many : length pins ≡ SEATS) (within : seat < SEATS) where
  -- to this pin and this version
  pub changed_kept : (pin : Option Pin) (version : Option VersionView) → IsSeatVersion kept.touched is.block_of d pin version
      → KeepsVersions d (set pins seat pin) (record kept { versions = set kept.versions seat version })
  changed_kept pin version here = record {
    seats = length-set kept.versions seat version ∙ is.seats;
    block_of = is.block_of;
    last = is.last;
    each = λ s low. elim (s == seat) as (λ t. (s == seat) ≡ t → IsSeatVersion kept.touched is.block_of d
        (pin_at (set pins seat pin) s) (seat_version (set kept.versions seat version) s)) [
          | true ↦ λ e.
              (let seats = is.seats in
              let at_pin : pin_at (set pins seat pin) s ≡ pin =
              ap (pin_at (set pins seat pin)) (eqb-true s seat e) ∙ get_or-set_same pins seat pin None (omega (arith, many, within)) in
              let at_version : seat_version (set kept.versions seat version) s ≡ version =
              ap (seat_version (set kept.versions seat version)) (eqb-true s seat e)
              ∙ get_or-set_same kept.versions seat version None (omega (arith, seats, within)) in
              subst (λ p. IsSeatVersion kept.touched is.block_of d p (seat_version (set kept.versions seat version) s)) (sym at_pin)
              (subst (IsSeatVersion kept.touched is.block_of d pin) (sym at_version) here))
          | false ↦ λ e.
              (let apart : (s ≡ seat → ⊥) = λ same. true≢false (sym (eq-eqb s seat same) ∙ e) in
              subst (λ p. IsSeatVersion kept.touched is.block_of d p (seat_version (set kept.versions seat version) s))
              (sym (get_or-set_other pins seat s pin None apart))
              (subst (IsSeatVersion kept.touched is.block_of d (pin_at pins s))
              (sym (get_or-set_other kept.versions seat s version None apart)) (is.each s low)))
        ] refl;
  }

-- the last version is the version of its number
pub last_is_version : (touched : List ℕ) (block_of : ℕ → BlockView) (d : DeskView) (pin : Pin) → length d.last.batches ≡ pin.number
    → HasBlocksOf block_of d.last → IsDesk d → IsVersionOf touched block_of d pin d.last
last_is_version touched block_of d pin number blocks is = record {
  number = number;
  former = record {
    opening = refl;
    later = [];
    batches = sym (append-nil d.last.batches);
    rows = λ source low. refl;
  };
  blocks = blocks;
  kept = last_kept d is;
}

-- The desk, or what was touched, is changed

seat_carried : (old new : DeskView) (touched now : List ℕ) (block_of next : ℕ → BlockView) (pin : Option Pin)
    (version : Option VersionView) → ((p : Pin) (v : VersionView) → pin ≡ Some p → version ≡ Some v
    → IsVersionOf touched block_of old p v → IsVersionOf now next new p v)
    → IsSeatVersion touched block_of old pin version → IsSeatVersion now next new pin version
seat_carried old new touched now block_of next None None carries is = tt
seat_carried old new touched now block_of next None (Some v) carries is = is
seat_carried old new touched now block_of next (Some p) None carries is = is
seat_carried old new touched now block_of next (Some p) (Some v) carries is = carries p v refl refl is

all_carried : (old new : DeskView) (pins : List (Option Pin)) (kept after : KeptView) (is : KeepsVersions old pins kept)
    (next : ℕ → BlockView) → after.versions ≡ kept.versions → HasBlocksOf next new.last
    → ((seat : ℕ) (p : Pin) (v : VersionView) → seat < SEATS → pin_at pins seat ≡ Some p → seat_version kept.versions seat ≡ Some v
    → IsVersionOf kept.touched is.block_of old p v → IsVersionOf after.touched next new p v) → KeepsVersions new pins after
all_carried old new pins kept after is next versions last carries = record {
  seats = ap length versions ∙ is.seats;
  block_of = next;
  last = last;
  each = λ seat low.
      subst (λ (vs : List (Option VersionView)). IsSeatVersion after.touched next new (pin_at pins seat) (seat_version vs seat))
      (sym versions) (seat_carried old new kept.touched after.touched is.block_of next (pin_at pins seat)
      (seat_version kept.versions seat) (λ p v. carries seat p v low) (is.each seat low));
}

-- a collection goes by the pins, which are settled
pub collected_versions : (old new : DeskView) (pins : List (Option Pin)) (kept : KeptView)
    → ((seat : ℕ) (p : Pin) → seat < SEATS → pin_at pins seat ≡ Some p → p.is_settled ≡ true) → KeepsVersions old pins kept
    → IsCollected old (copy_of (length old.last.batches) pins) new → KeepsVersions new pins kept
collected_versions old new pins kept settled is collected =
    let copy : PinCopy = copy_of (length old.last.batches) pins in
    all_carried old new pins kept kept is is.block_of refl
    (subst (HasBlocksOf is.block_of) (sym collected.last) is.last)
    (λ seat p v low at of_seat of.
    let here : get_or copy.settled seat None ≡ Some (length v.batches) =
    get_or-map settled_number pins seat None ∙ ap settled_number at ∙ ap (λ t. number_if t p.number) (settled seat p low at)
    ∙ ap Some (sym of.number) in
    record {
      number = of.number;
      former = subst (IsFormerVersion kept.touched v) (sym collected.last) of.former;
      blocks = of.blocks;
      kept = collected_kept old new copy seat v collected here of.kept;
    })

former_shorter : (touched : List ℕ) (v last : VersionView) → IsFormerVersion touched v last → length v.batches ≤ length last.batches
former_shorter touched v last former =
    let long = ap length former.batches ∙ length-append v.batches former.later in omega (arith, long)

-- what has a number below that of the batch isn't one of its sources, and has the number of before
stays_low : (touched now : List ℕ) (sources : List VertexId) (number n s : ℕ) → TouchesSources sources number touched now → n < number
    → number_at now s ≤ n → (is_source sources s ≡ false) × (number_at touched s ≤ n)
stays_low touched now sources number n s touches below low =
    elim (is_source sources s) as (λ t. is_source sources s ≡ t → (t ≡ false) × (number_at touched s ≤ n)) [
      | true ↦ λ e.
          absurd (let at = touches s ∙ ap (λ t. if t then number else number_at touched s) e in omega (arith, at, low, below))
      | false ↦ λ e.
          (refl, let at = touches s ∙ ap (λ t. if t then number else number_at touched s) e in omega (arith, at, low))
    ] refl

-- more is touched than before, where each version that is kept is asked for what came after it
still_versions : (d : DeskView) (pins : List (Option Pin)) (kept after : KeptView) → after.versions ≡ kept.versions
    → ((seat : ℕ) (v : VersionView) (s : ℕ) → seat < SEATS → seat_version kept.versions seat ≡ Some v
    → length v.batches ≤ length d.last.batches → number_at after.touched s ≤ length v.batches
    → number_at kept.touched s ≤ length v.batches) → KeepsVersions d pins kept → KeepsVersions d pins after
still_versions d pins kept after versions lower is =
    all_carried d d pins kept after is is.block_of versions is.last (λ seat p v within at of_seat of. record {
      number = of.number;
      former = record {
        opening = of.former.opening;
        later = of.former.later;
        batches = of.former.batches;
        rows = λ s low.
            of.former.rows s (lower seat v s within of_seat (former_shorter kept.touched v d.last of.former) low);
      };
      blocks = of.blocks;
      kept = of.kept;
    })

none_there : (versions : List (Option VersionView)) (seat : ℕ) (v : VersionView) → IsWithoutVersions versions → seat < SEATS
    → seat_version versions seat ≡ Some v → ⊥
none_there versions seat v none within of_seat = no_version v (sym (none seat within) ∙ of_seat)
  where
    no_version : (v : VersionView) → None ≡ Some v → ⊥
    no_version v same = cc

-- Of a batch that is ready

module _ (old new : DeskView) (ops : List NamedOp) (sources : List VertexId) (number : ℕ) (kept after : KeptView)
    (accepts : Accepts old ops new) (versions : after.versions ≡ kept.versions) (next : number ≡ length old.last.batches + 1) where
  -- its sources are touched, if a version is kept
  pub touched_before : IsWithoutVersions kept.versions ⊎ TouchesSources sources number kept.touched after.touched
      → (pins : List (Option Pin)) → KeepsVersions old pins kept → KeepsVersions old pins after
  touched_before (inl none) pins is = still_versions old pins kept after versions
      (λ seat v s within of_seat fewer low. absurd (none_there kept.versions seat v none within of_seat)) is
  touched_before (inr touches) pins is = still_versions old pins kept after versions
      (λ seat v s within of_seat fewer low. (stays_low kept.touched after.touched sources number (length v.batches) s touches
      (omega (arith, fewer, next)) low).1) is

  -- or none, where memory ran out
  pub untouched_before : SameNumbers kept.touched after.touched → (pins : List (Option Pin)) → KeepsVersions old pins kept
      → KeepsVersions old pins after
  untouched_before same pins is = still_versions old pins kept after versions
      (λ seat v s within of_seat fewer low. let at = same s in omega (arith, at, low)) is

  former_after : (v : VersionView) → TouchesSources sources number kept.touched after.touched
      → DifferAt sources old.last.rows new.last.rows → IsFormerVersion kept.touched v old.last
      → IsFormerVersion after.touched v new.last
  former_after v touches differ former = record {
    opening = opening_after old new ops accepts ∙ former.opening;
    later = former.later ++ ops ∷ [];
    batches = batches_after old new ops accepts ∙ ap (λ bs. bs ++ ops ∷ []) former.batches
        ∙ append_assoc v.batches former.later (ops ∷ []);
    rows = λ s low.
        let fewer = former_shorter kept.touched v old.last former in
        let stays = stays_low kept.touched after.touched sources number (length v.batches) s touches (omega (arith, fewer, next)) low in
        former.rows s stays.1 ∙ differ s stays.0;
  }

  -- once it is accepted
  pub touched_after : IsWithoutVersions kept.versions ⊎ TouchesSources sources number kept.touched after.touched
      → DifferAt sources old.last.rows new.last.rows → IsVersion new.last
      → (pins : List (Option Pin)) → KeepsVersions old pins kept → KeepsVersions new pins after
  touched_after (inl none) differ is_version pins is =
      all_carried old new pins kept after is (next_block old new ops accepts is.block_of) versions
      (next_blocks old new ops accepts is.block_of is.last is_version)
      (λ seat p v within at of_seat of. absurd (none_there kept.versions seat v none within of_seat))
  touched_after (inr touches) differ is_version pins is =
      all_carried old new pins kept after is (next_block old new ops accepts is.block_of) versions
      (next_blocks old new ops accepts is.block_of is.last is_version)
      (λ seat p v within at of_seat of.
      let fewer = former_shorter kept.touched v old.last of.former in
      record {
        number = of.number;
        former = former_after v touches differ of.former;
        blocks = same_blocks old new ops accepts is.block_of v of.blocks of.kept;
        kept = blocks_stay old new ops accepts v fewer of.kept;
      })
