-- One block after another is given back or retired.
use Rattle.std.proofs.{Common.{◌≡◌, ℕ, ◌==◌, true, false, List, [], ◌∷◌, set, refl, sym, ap, ◌∙◌}, lemmas.Bool.{eq-eqb, or_parts, true≢false}}
use Rattle.std.specs.{List.list_all, Prelude.{slice_get, Bool}}
use Rattle.block_reclamation.specs.{declared.status.BlockStatus.BlockStatus, Status.is_at, Status.is_among}
use Rattle.graph_types.proofs.{Cases.{and_left, and_right}, ListPlaces.set_else}
use Rattle.epoch_core.proofs.BlockSteps.{differ_head, differ_tail, AreMovable}

-- numbers that pass and are different do so yet, once another one was moved
still_pass : (test : BlockStatus → Bool) (n : ℕ) (ns : List ℕ) (s : BlockStatus) (pool : List BlockStatus)
    → list_all (λ m. is_at test (slice_get pool m)) ns ≡ true → is_among n ns ≡ false
    → list_all (λ m. is_at test (slice_get (set pool n s) m)) ns ≡ true
still_pass test n [] s pool pass apart = refl
still_pass test n (m ∷ ns) s pool pass apart =
    let parts : ((m == n) ≡ false) × (is_among n ns ≡ false) = or_parts (m == n) (is_among n ns) apart in
    let same : is_at test (slice_get (set pool n s) m) ≡ is_at test (slice_get pool m) =
    ap (is_at test) (set_else pool n m s (λ e. absurd (true≢false (sym (eq-eqb m n e) ∙ parts.0)))) in
    let here : is_at test (slice_get (set pool n s) m) ≡ true = same ∙ and_left _ _ pass in
    rw here (still_pass test n ns s pool (and_right _ _ pass) parts.1)

-- the first may be moved, and then the rest, whatever the first becomes
pub moving : (test : BlockStatus → Bool) (n : ℕ) (ns : List ℕ) (s : BlockStatus) (pool : List BlockStatus) → AreMovable test (n ∷ ns) pool
    → (is_at test (slice_get pool n) ≡ true) × AreMovable test ns (set pool n s)
moving test n ns s pool m = (
  and_left _ _ m.pass,
  record { pass = still_pass test n ns s pool (and_right _ _ m.pass) (differ_head n ns m.apart); apart = differ_tail n ns m.apart },
)
