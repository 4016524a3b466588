-- The start over an opening content is one from which a run may start.
use Rattle.std.proofs.Common.{◌≡◌, ◌≢◌, ℕ, zero, suc, ◌<◌, ◌==◌, ◌||◌, true, false, cond, List, [], ◌∷◌, ◌++◌, length, set}
use Rattle.std.proofs.{Common.{replicate, refl, sym, ap, subst, ◌∙◌, arith, All, AllPairs}, lemmas.Bool.{eqb-true, eqb-false}}
use Rattle.std.proofs.lemmas.List.{length-replicate, length-set, get_or-set_same, get_or-set_other, Elements.{All-head, All-tail}}
use Rattle.std.proofs.lemmas.List.Elements.{All-nil, All-cons}
use Rattle.std.specs.{Prelude.slice_get, List.flat_map, declared.option.Option.TheVariants.Some}
use Rattle.epoch_core.specs.Sound.{IsCore}
use Rattle.epoch_core.specs.{Versions.AreEdgesOf, Versions.edges_at, declared.session_states.SessionState.TheVariants.Idle}
use Rattle.epoch_core.specs.Opened.{BlockLists, numbers_in, heap_with, status_with, opened_state_in, IsOpeningIn}
use Rattle.epoch_core.{specs.Worlds.{IsStart, HasContents}, proofs.Steps.sound_start}
use Rattle.graph_types.{proofs.Counts.apart_tail, specs.{Graph.graph_in, Limits.LimitsView, declared.{ids.Edge.Edge, contents.Content.Content}}}
use Rattle.block_reclamation.specs.{declared.status.BlockStatus.{BlockStatus, TheVariants.{Free, Used}}, Status.is_among}
use Rattle.block_reclamation.proofs.OneStatus.{same_either, free_at}
use Rattle.graph_types.proofs.{Elements.differ_head, ListPlaces.{set_same, set_else}}

length-heap_with : (lists : BlockLists) (heap : List (List Edge)) → length (heap_with lists heap) ≡ length heap
length-heap_with [] heap = refl
length-heap_with (l ∷ lists) heap = length-heap_with lists (set heap l.0 l.1) ∙ length-set heap l.0 l.1

length-status_with : (lists : BlockLists) (status : List BlockStatus) → length (status_with lists status) ≡ length status
length-status_with [] status = refl
length-status_with (l ∷ lists) status = length-status_with lists (set status l.0 (Used 0)) ∙ length-set status l.0 (Used 0)

-- what each block is
status_at : (lists : BlockLists) (status : List BlockStatus) (b : ℕ) (s : BlockStatus) → slice_get status b ≡ Some s
    → slice_get (status_with lists status) b ≡ Some (cond (is_among b (numbers_in lists)) (Used 0) s)
status_at [] status b s at = at
status_at (l ∷ lists) status b s at =
    elim (l.0 == b) as (λ t. l.0 == b ≡ t → slice_get (status_with lists (set status l.0 (Used 0))) b
    ≡ Some (cond (t || is_among b (numbers_in lists)) (Used 0) s)) [
      | true ↦ λ t.
          let same : l.0 ≡ b = eqb-true l.0 b t in
          status_at lists (set status l.0 (Used 0)) b (Used 0)
          (ap (slice_get (set status l.0 (Used 0))) (sym same) ∙ set_same status l.0 s (Used 0) (ap (slice_get status) same ∙ at))
          ∙ ap (λ x. Some x) (same_either (is_among b (numbers_in lists)))
      | false ↦ λ t.
          status_at lists (set status l.0 (Used 0)) b s
          (set_else status l.0 b (Used 0) (λ e. eqb-false l.0 b t (sym e)) ∙ at)
    ] refl

-- a block that isn't listed keeps its edges
heap_else : (lists : BlockLists) (heap : List (List Edge)) (b : ℕ) → All (λ c. b ≢ c) (numbers_in lists)
    → edges_at (heap_with lists heap) b ≡ edges_at heap b
heap_else [] heap b apart = refl
heap_else (l ∷ lists) heap b apart =
    heap_else lists (set heap l.0 l.1) b (All-tail (λ c. b ≢ c) l.0 (numbers_in lists) apart)
    ∙ get_or-set_other heap l.0 b l.1 [] (All-head (λ c. b ≢ c) l.0 (numbers_in lists) apart)

heap_all : (lists : BlockLists) (heap : List (List Edge)) → All (λ l. l.0 < length heap) lists → AllPairs ◌≢◌ (numbers_in lists)
    → flat_map (edges_at (heap_with lists heap)) (numbers_in lists) ≡ flat_map (λ l. l.1) lists
heap_all [] heap within different = refl
heap_all (l ∷ lists) heap within different =
    let In : ℕ → ℕ × List Edge → Type 0 = λ n x. x.0 < n in
    let here : l.0 < length heap = All-head (In (length heap)) l lists within in
    let next = set heap l.0 l.1 in
    (λ i. (heap_else lists next l.0 (differ_head l.0 (numbers_in lists) different) ∙ get_or-set_same heap l.0 l.1 [] here) i
    ++ heap_all lists next
    (subst (λ n. All (In n) lists) (sym (length-set heap l.0 l.1)) (All-tail (In (length heap)) l lists within))
    (apart_tail l.0 (numbers_in lists) different) i)

numbers_within : (blocks : ℕ) (lists : BlockLists) → All (λ l. l.0 < blocks) lists → All (λ b. b < blocks) (numbers_in lists)
numbers_within blocks [] within = All-nil (λ b. b < blocks)
numbers_within blocks (l ∷ lists) within =
    let In : ℕ × List Edge → Type 0 = λ x. x.0 < blocks in
    All-cons (λ b. b < blocks) l.0 (numbers_in lists) (All-head In l lists within)
    (numbers_within blocks lists (All-tail In l lists within))

module _ (limits : LimitsView) (sessions blocks : ℕ) (content : Content) (lists : BlockLists)
    (is : IsOpeningIn limits blocks content lists) where
  long_status : length (status_with lists (replicate blocks Free)) ≡ blocks
  long_status = length-status_with lists (replicate blocks Free) ∙ length-replicate blocks Free

  long_heap : length (heap_with lists (replicate blocks [])) ≡ blocks
  long_heap = length-heap_with lists (replicate blocks []) ∙ length-replicate blocks []

  pub opened_is_start : IsStart (opened_state_in limits sessions blocks content lists)
  opened_is_start = record {
    alone = refl;
    within = subst (λ n. All (λ b. b < n) (numbers_in lists)) (sym long_status) (numbers_within blocks lists is.within);
    different = is.different;
    shown = subst (λ edges. AreEdgesOf edges (graph_in limits content))
        (sym (heap_all lists (replicate blocks [])
        (subst (λ n. All (λ l. l.0 < n) lists) (sym (length-replicate blocks [])) is.within) is.different)) is.shown;
    status = λ b low. let h : b < blocks = omega (arith, low, long_status) in
        status_at lists (replicate blocks Free) b Free (free_at blocks b h);
    heap = long_heap ∙ sym long_status;
    floor = refl;
    copy = refl;
    idle = ap (λ n. replicate n Idle) (sym (length-replicate sessions Idle));
    replies = ap (λ n. replicate n []) (sym (length-replicate sessions Idle));
  }

  opened_contents : HasContents (record { content = content; blocks = numbers_in lists; limits = limits }) []
  opened_contents zero h = (content, is.content_is, refl)
  opened_contents (suc n) h = absurd (omega arith)

  pub opened_is_core : sessions < 17 → IsCore (opened_state_in limits sessions blocks content lists)
  opened_is_core few = record {
    sound = sound_start (opened_state_in limits sessions blocks content lists) opened_is_start;
    contents = opened_contents;
    few = omega (arith, few, length-replicate sessions Idle);
    replies = length-replicate sessions [] ∙ sym (length-replicate sessions Idle);
  }
