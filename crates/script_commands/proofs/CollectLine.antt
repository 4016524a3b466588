-- What the line of a collection says of held versions.
use Rattle.std.proofs.Common.{◌≡◌, ℕ, zero, suc, ◌+◌, ◌-◌, Bool, true, false, not, ◌&&◌, ◌||◌, cond, if◌then◌else◌, List, [], ◌∷◌, ◌++◌, length, map}
use Rattle.std.proofs.Common.{count_by, get_or, replicate, refl, sym, ap, ap₂, subst, ◌∙◌, arith}
use Rattle.std.proofs.{lemmas.{Bool.{false≢true, true≢false}, List.Folds.list_any_at}, Math.ListN.get_or-map}
use Rattle.std.proofs.lemmas.Option.{get_or_from_slice_get}
use Rattle.std.specs.{Prelude.{IsTrue, Option, None, Some, Ok, slice_get}, Option.option_map, List.{list_any, range_with_len}}
use Rattle.block_reclamation.specs.declared.{copies.{PinCopy.PinCopy, TheConstants.SEATS}, status.BlockStatus.BlockStatus}
use Rattle.block_reclamation.specs.declared.status.BlockStatus.TheVariants.{Free, Granted, Used, Retired}
use Rattle.block_reclamation.specs.{Status.{is_among, is_at, is_reclaimable, is_retired, recycled}}
use Rattle.block_reclamation.specs.Copies.{copy_of, floor_of, least_of, lesser, needs, settled_number, unsettled_number}
use Rattle.epoch_core.specs.declared.session_states.SessionState.{SessionState, TheVariants.Idle}
use Rattle.epoch_core.specs.{Collections.{HaveSettled, IsHeldBlock, has_settled}, Sound.IsSound, Versions.blocks_at}
use Rattle.epoch_core.specs.Worlds.{World, held_in, last_blocks, last_number, present_copy, session_of}
use Rattle.epoch_core.proofs.{HeldBlocks.unlisted, HeldStatus.{held_is_left, left_is_held}, RunsTogether.world_sound}
use Rattle.epoch_core.proofs.SessionSteps.{within}
use Rattle.graph_types.proofs.{Cases.none_not, Sums.{count_filtered, count_more}}
use Rattle.store_steps.specs.Desks.{is_retired_by}
use Rattle.store_steps.proofs.{Reached.same_count}
use Rattle.script_lines.specs.Lines.{collect_line}
use Rattle.script_commands.specs.{Collected.{TellsWhatIsHeld, count_blocks, held_line, is_held, lists_block}, Machine.{ShowsMachine, session_for}}
use Rattle.script_commands.specs.{Servers.ShowsServer, Slots.held_slots, declared.server.Server.Server}
use Rattle.script_commands.specs.States.{Dates, Held, ServerState, after_collect, copy_in, floor_in, holding, pins_of}
use Rattle.script_commands.specs.States.{RecordResult, recycled_blocks}
use Rattle.script_commands.proofs.{DeskLaws.{all_counted_in, reclaimable_is, same_counts}, MachineMoves.copy_shown}

-- Counts

-- a list's elements are counted by their places, from this number on
count_from : {A : Type 0} (p : A → Bool) (f : ℕ → Bool) (from : ℕ) (xs : List A)
    → ((k : ℕ) (x : A) → slice_get xs k ≡ Some x → f (from + k) ≡ p x)
    → count_by f (range_with_len from (length xs)) ≡ count_by p xs
count_from p f from [] same = refl
count_from p f from (x ∷ xs) same =
    let here : (let n : ℕ = cond (f from) 1 0 in n) ≡ cond (p x) 1 0 =
    ap (λ t. cond t 1 0) (ap f (let e : from ≡ from + 0 = omega arith in e) ∙ same 0 x refl) in
    let rest : count_by f (range_with_len (from + 1) (length xs)) ≡ count_by p xs =
    count_from p f (from + 1) xs (λ k y is. ap f (let e : from + 1 + k ≡ from + suc k = omega arith in e) ∙ same (suc k) y is) in
    count_more f from (range_with_len (from + 1) (length xs))
    ∙ (ap₂ (λ (m k : ℕ). m + k) here rest ∙ sym (count_more p x xs))

zero_plus : (k : ℕ) → 0 + k ≡ k
zero_plus k = omega arith

count_places : {A : Type 0} (p : A → Bool) (f : ℕ → Bool) (xs : List A)
    → ((k : ℕ) (x : A) → slice_get xs k ≡ Some x → f k ≡ p x) → count_by f (range_with_len 0 (length xs)) ≡ count_by p xs
count_places p f xs same = count_from p f 0 xs (λ k x at. ap f (zero_plus k) ∙ same k x at)

-- Held blocks

module _ (w : World) (b : ℕ) where
  abbrev tells : SessionState → Bool
  tells session = lists_block w b (held_in session)

  found : (xs : List SessionState) → list_any tells xs ≡ true
      → (k : ℕ) × (session : SessionState) × (slice_get xs k ≡ Some session) × (tells session ≡ true)
  found [] is = absurd (false≢true is)
  found (x ∷ xs) is =
      elim (tells x) as (λ t. tells x ≡ t → list_any tells (x ∷ xs) ≡ true
      → (k : ℕ) × (session : SessionState) × (slice_get (x ∷ xs) k ≡ Some session) × (tells session ≡ true)) [
        | true ↦ λ here _. (0, x, refl, here)
        | false ↦ λ not_here all. (let more = found xs (subst (λ t. (t || list_any tells xs) ≡ true) not_here all) in (suc more.0, more.1, more.2, more.3))
      ] refl is

  holder : (session : ℕ) (held : Option ℕ) → held_in (session_of w session) ≡ held → lists_block w b held ≡ true → IsHeldBlock w b
  holder session None is lists = absurd (false≢true lists)
  holder session (Some n) is lists = record { session = session; version = n; holds = is; lists = lists }

  is_held_block : is_held w b ≡ true → IsHeldBlock w b
  is_held_block is =
      let f = found w.sessions is in
      let at : session_of w f.0 ≡ f.1 = get_or_from_slice_get w.sessions f.0 f.1 Idle f.2 in
      holder f.0 (held_in f.1) (ap held_in at) f.3

  held_is_told : IsHeldBlock w b → is_held w b ≡ true
  held_is_told h =
      let low = within w h.session (λ idle. none_not h.version (sym (ap held_in idle) ∙ h.holds)) in
      list_any_at tells w.sessions h.session Idle low (ap (lists_block w b) h.holds ∙ h.lists)

-- One block

retired_kept : (copy : PinCopy) (s : BlockStatus) → is_reclaimable copy s ≡ false → is_retired (recycled copy s) ≡ is_retired s
retired_kept copy s kept = ap (λ t. is_retired (if t then Free else s)) kept

retired_gone : (copy : PinCopy) (s : BlockStatus) → is_reclaimable copy s ≡ true → is_retired (recycled copy s) ≡ false
retired_gone copy s gone = ap (λ t. is_retired (if t then Free else s)) gone

unretired : (copy : PinCopy) (s : BlockStatus) → is_retired s ≡ false → is_reclaimable copy s ≡ false
unretired copy Free isnt = refl
unretired copy Granted isnt = refl
unretired copy (Used birth) isnt = refl
unretired copy (Retired birth retirement) isnt = absurd (true≢false isnt)

module _ (w : World) (sound : IsSound w) (told : HaveSettled w) (b : ℕ) (s : BlockStatus) (at : slice_get w.status b ≡ Some s) where
  abbrev copy : PinCopy
  copy = present_copy w

  left_then : is_retired (recycled copy s) ≡ true → (is_held w b ≡ true) × (is_among b (last_blocks w) ≡ false)
  left_then still =
      let both = left_is_held w b sound told (ap (λ o. is_at is_retired (option_map (recycled copy) o)) at ∙ still) in
      (held_is_told w b both.0, both.1)

  then_left : is_held w b ≡ true → is_among b (last_blocks w) ≡ false → is_retired (recycled copy s) ≡ true
  then_left held none =
      ap (λ o. is_at is_retired (option_map (recycled copy) o)) (sym at) ∙ held_is_left w b sound told (is_held_block w b held) none

  unlisted_then : is_retired s ≡ true → is_among b (last_blocks w) ≡ false
  unlisted_then retired = unlisted w b sound (ap (is_at is_retired) at ∙ retired)

  pub gone_is : (is_at is_retired (slice_get w.status b) && not (is_held w b)) ≡ is_reclaimable copy s
  gone_is =
      ap (λ o. is_at is_retired o && not (is_held w b)) at
      ∙ by_case (is_retired s) (is_held w b) (is_reclaimable copy s) refl refl refl
    where
      by_case : (r h c : Bool) → is_retired s ≡ r → is_held w b ≡ h → is_reclaimable copy s ≡ c → (r && not h) ≡ c
      by_case false h false r_is h_is c_is = refl
      by_case false h true r_is h_is c_is = absurd (true≢false (sym c_is ∙ unretired copy s r_is))
      by_case true true false r_is h_is c_is = refl
      by_case true true true r_is h_is c_is =
          absurd (true≢false (sym (then_left h_is (unlisted_then r_is)) ∙ retired_gone copy s c_is))
      by_case true false false r_is h_is c_is =
          absurd (true≢false (sym (left_then (retired_kept copy s c_is ∙ r_is)).0 ∙ h_is))
      by_case true false true r_is h_is c_is = refl

  pub left_is : (is_held w b && not (is_among b (last_blocks w))) ≡ is_retired (recycled copy s)
  left_is = by_case (is_held w b) (is_among b (last_blocks w)) (is_retired (recycled copy s)) refl refl refl
    where
      by_case : (h l r : Bool) → is_held w b ≡ h → is_among b (last_blocks w) ≡ l → is_retired (recycled copy s) ≡ r → (h && not l) ≡ r
      by_case true false true h_is l_is r_is = refl
      by_case true false false h_is l_is r_is = absurd (true≢false (sym (then_left h_is l_is) ∙ r_is))
      by_case true true true h_is l_is r_is = absurd (true≢false (sym l_is ∙ (left_then r_is).1))
      by_case true true false h_is l_is r_is = refl
      by_case false l true h_is l_is r_is = absurd (true≢false (sym (left_then r_is).0 ∙ h_is))
      by_case false l false h_is l_is r_is = refl

-- The floor

settled_least : (held : List (Option Held)) (n k : ℕ)
    → least_of n (map settled_number (map (option_map holding) held ++ replicate k None)) ≡ least_of n (map held_in (map session_for held))
settled_least [] n zero = refl
settled_least [] n (suc k) = settled_least [] n k
settled_least (None ∷ held) n k = settled_least held n k
settled_least (Some h ∷ held) n k = settled_least held (lesser n (Some h.number)) k

unsettled_least : (held : List (Option Held)) (n k : ℕ)
    → least_of n (map unsettled_number (map (option_map holding) held ++ replicate k None)) ≡ n
unsettled_least [] n zero = refl
unsettled_least [] n (suc k) = unsettled_least [] n k
unsettled_least (None ∷ held) n k = unsettled_least held n k
unsettled_least (Some h ∷ held) n k = unsettled_least held n k

floor_held : (n : ℕ) (held : List (Option Held)) → floor_of (copy_of n (pins_of held)) ≡ least_of n (map held_in (map session_for held))
floor_held n held =
    unsettled_least held (least_of n (map settled_number (pins_of held))) (SEATS - length held) ∙ settled_least held n (SEATS - length held)

-- The line

have_settled : (server : Server) (w : World) → ShowsMachine server w → HaveSettled w
have_settled server w shows s =
    subst (λ session. IsTrue (has_settled session))
    (sym (ap (λ xs. get_or xs s Idle) shows.sessions ∙ get_or-map session_for (held_slots server.slots) s None))
    (settled (get_or (held_slots server.slots) s None)) where
      settled : (held : Option Held) → IsTrue (has_settled (session_for held))
      settled None = refl
      settled (Some held) = refl

retired_by : (k : PinCopy) (s : BlockStatus) → is_retired_by (needs k) s ≡ is_retired (recycled k s)
retired_by k Free = refl
retired_by k Granted = refl
retired_by k (Used birth) = refl
retired_by k (Retired birth retirement) = cases (needs k birth retirement)
  where
    cases : (t : Bool) → t ≡ is_retired (if not t then Free else Retired birth retirement)
    cases true = refl
    cases false = refl

-- how many stay retired in the text are as many as the copy needs
and_true : (t : Bool) → (t && true) ≡ t
and_true true = refl
and_true false = refl

all_pass : (p : Dates → Bool) (ds : List Dates) → count_by (λ (d : Dates). p d && true) ds ≡ count_by p ds
all_pass p [] = refl
all_pass p (d ∷ ds) =
    let a = count_more (λ (e : Dates). p e && true) d ds in
    let b = count_more p d ds in
    let one : (let n : ℕ = cond (p d && true) 1 0 in n) ≡ cond (p d) 1 0 = ap (λ t. cond t 1 0) (and_true (p d)) in
    let rest = all_pass p ds in
    omega arith

stay_is : (s : ServerState) → length (after_collect s).retired
    ≡ count_by (λ (d : Dates). needs (copy_in s) d.birth d.retirement) s.retired
stay_is s =
    sym (all_counted_in (after_collect s).retired)
    ∙ (sym (count_filtered (λ (d : Dates). needs (copy_in s) d.birth d.retirement) (λ (d : Dates). true) s.retired)
    ∙ all_pass (λ (d : Dates). needs (copy_in s) d.birth d.retirement) s.retired)

pub tells_what_is_held : TellsWhatIsHeld
tells_what_is_held server s start here events outcome is_start runs shows state told =
    let w : World = here.world in
    let sound : IsSound w = world_sound start here events is_start runs in
    let settled : HaveSettled w = have_settled server w shows in
    let copy : present_copy w ≡ copy_in s =
    copy_shown server w shows ∙ (λ i. copy_of (length (state.desk.batches i)) (pins_of (state.held i))) in
    let floor : floor_in s ≡ least_of (last_number w) (map held_in w.sessions) =
    floor_held (length s.batches) s.held
    ∙ (λ i. least_of (sym (same_count server.desk.desk w shows.desk ∙ ap length state.desk.batches) i)
    (map held_in (sym (shows.sessions ∙ ap (map session_for) state.held) i))) in
    let gone : recycled_blocks s ≡ count_blocks w (λ b. is_at is_retired (slice_get w.status b) && not (is_held w b)) =
    sym (reclaimable_is s server.desk.desk (present_copy w) state.desk copy)
    ∙ (ap (count_by (is_reclaimable (present_copy w))) (sym shows.desk.status)
    ∙ sym (count_places (is_reclaimable (present_copy w)) (λ b. is_at is_retired (slice_get w.status b) && not (is_held w b)) w.status
    (λ b status at. gone_is w sound settled b status at))) in
    let stay : length (after_collect s).retired ≡ count_blocks w (λ b. is_held w b && not (is_among b (last_blocks w))) =
    stay_is s
    ∙ (sym (state.desk.retired (needs (copy_in s)))
    ∙ (ap (λ k. count_by (is_retired_by (needs k)) server.desk.desk.pool) (sym copy)
    ∙ (ap (count_by (is_retired_by (needs (present_copy w)))) (sym shows.desk.status)
    ∙ (same_counts (is_retired_by (needs (present_copy w))) (λ status. is_retired (recycled (present_copy w) status))
    (retired_by (present_copy w)) w.status
    ∙ sym (count_places (λ status. is_retired (recycled (present_copy w) status)) (λ b. is_held w b && not (is_among b (last_blocks w))) w.status (λ b status at. left_is w sound settled b status at)))))) in
    let line : collect_line (floor_in s) (recycled_blocks s) (length (after_collect s).retired) ≡ held_line w =
    λ i. collect_line (floor i) (gone i) (stay i) in
    told ∙ ap (λ (lines : List ℕ). let result : RecordResult = Ok lines in result) line
