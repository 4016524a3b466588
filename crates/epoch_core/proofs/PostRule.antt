-- The test of a Post decides its rule.
use Rattle.std.proofs.Common.{◌≡◌, ◌≢◌, ◌⊎◌, ◌↔◌, ℕ, true, not, List, [], ◌∷◌, length, Decides, refl, sym, ◌∙◌}
use Rattle.std.proofs.{Common.{arith, eqb, leb}, lemmas.Bool.Decides.{Decides-ltb, Decides-and, Decides-or}}
use Rattle.std.proofs.lemmas.{Bool.Decides.{Decides-not, Decides-like, Decides-by_and, Decides-eqb}, List.Kept.AllPairs-cons}
use Rattle.std.specs.Prelude.{slice_get, All, AllPairs, IsTrue}
use Rattle.std.specs.declared.option.Option.TheVariants.{Some}
use Rattle.graph_types.{proofs.Counts.apart_tail, specs.Step.{MeetsNameLimit, MeetsKindLimit}}
use Rattle.graph_types.{specs.declared.batches.NamedOp.NamedOp, proofs.LimitsKept.limits_after_all}
use Rattle.epoch_core.specs.{Blocks.all_differ, declared.events.Event.TheVariants.Post, Worlds.{World, last_blocks, last_graph, last_number}}
use Rattle.epoch_core.specs.{Runs.is_done, Posting.{all_listable, can_post, graph_after, is_listable}, Versions.edges_of}
use Rattle.epoch_core.{specs.Posts.{MayPost, posted}, proofs.Edges.Decides-edges}
use Rattle.block_reclamation.specs.declared.status.BlockStatus.{BlockStatus, TheVariants.Granted}
use Rattle.block_reclamation.specs.Status.{is_among}
use Rattle.block_reclamation.proofs.OneStatus.{Decides-granted}
use Rattle.graph_types.proofs.{Cases.{neither, and_right, and_left, some_if}, Elements.differ_head, Numbers.Decides-within}

Decides-listable : (status : List BlockStatus) (last : List ℕ) (blocks : List ℕ)
    → Decides (all_listable status last blocks) (All (λ b. (slice_get status b ≡ Some Granted) ⊎ IsTrue (is_among b last)) blocks)
Decides-listable status last blocks =
    Decides-by_and (is_listable status last) (λ b. (slice_get status b ≡ Some Granted) ⊎ IsTrue (is_among b last))
    (all_listable status last)
    (λ b. Decides-or _ _ (Decides-granted (slice_get status b)) (λ t. t, λ t. t)) refl (λ _ _. refl) blocks

-- a number that isn't listed differs from each that is
Decides-unlisted : (b : ℕ) (bs : List ℕ) → Decides (not (is_among b bs)) (All (λ c. b ≢ c) bs)
Decides-unlisted b bs =
    Decides-by_and (λ c. not (eqb c b)) (λ c. b ≢ c) (λ cs. not (is_among b cs))
    (λ c. Decides-like _ (λ apart same. apart (sym same)) (λ apart same. apart (sym same)) (Decides-not _ (Decides-eqb c b)))
    refl (λ c cs. neither (eqb c b) (is_among b cs)) bs

Decides-differ : (bs : List ℕ) → Decides (all_differ bs) (AllPairs ◌≢◌ bs)
Decides-differ [] = (λ _. λ i j d h g. absurd (omega arith), λ _. refl)
Decides-differ (b ∷ bs) =
    Decides-like _ (λ p. AllPairs-cons ◌≢◌ b bs p.0 p.1) (λ all. (differ_head b bs all, apart_tail b bs all))
    (Decides-and _ _ (Decides-unlisted b bs) (Decides-differ bs))

-- the limits of what a batch leaves are those of what was there before
within_names : (w : World) (batch : List NamedOp)
    → Decides (leb (length (graph_after w.opening w.versions batch).names) (graph_after w.opening w.versions batch).limits.names)
    (MeetsNameLimit batch (last_graph w) → ⊥)
within_names w batch =
    rw (limits_after_all batch (last_graph w)) (Decides-within (length (graph_after w.opening w.versions batch).names)
    (last_graph w).limits.names)

within_kinds : (w : World) (batch : List NamedOp)
    → Decides (leb (length (graph_after w.opening w.versions batch).kinds) (graph_after w.opening w.versions batch).limits.kinds)
    (MeetsKindLimit batch (last_graph w) → ⊥)
within_kinds w batch =
    rw (limits_after_all batch (last_graph w)) (Decides-within (length (graph_after w.opening w.versions batch).kinds)
    (last_graph w).limits.kinds)

pub Decides-post : (w : World) (batch : List NamedOp) (blocks : List ℕ)
    → Decides (can_post w.opening w.heap w.status w.versions batch blocks) (MayPost w batch blocks)
Decides-post w batch blocks =
    Decides-like _
    (λ p. record { few = p.0.0.0.0; listable = p.0.0.0.1; different = p.0.0.1; names = p.0.1.0; kinds = p.0.1.1; shown = p.1 })
    (λ may. ((((may.few, may.listable), may.different), (may.names, may.kinds)), may.shown))
    (Decides-and _ _
    (Decides-and _ _
    (Decides-and _ _ (Decides-and _ _ (Decides-ltb (last_number w) w.opening.limits.batches)
    (Decides-listable w.status (last_blocks w) blocks)) (Decides-differ blocks))
    (Decides-and _ _ (within_names w batch) (within_kinds w batch)))
    (Decides-edges (graph_after w.opening w.versions batch) (edges_of w.heap blocks)))

pub listable_of : (w : World) (batch : List NamedOp) (blocks : List ℕ)
    → can_post w.opening w.heap w.status w.versions batch blocks ≡ true → all_listable w.status (last_blocks w) blocks ≡ true
listable_of w batch blocks can = and_right _ _ (and_left _ _ (and_left _ _ (and_left _ _ can)))

-- in every world a Post is done exactly where its rule holds
pub posts_by_rule : (w : World) (batch : List NamedOp) (blocks : List ℕ) → IsTrue (is_done w (Post batch blocks))
    ↔ MayPost w batch blocks
posts_by_rule w batch blocks =
    let test = Decides-post w batch blocks in
    let same : is_done w (Post batch blocks) ≡ can_post w.opening w.heap w.status w.versions batch blocks =
    some_if (can_post w.opening w.heap w.status w.versions batch blocks) (posted w batch blocks) in
    (λ t. test.0 (sym same ∙ t), λ may. same ∙ test.1 may)
