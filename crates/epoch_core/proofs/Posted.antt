-- Each event keeps what is sound: a batch is posted.
use Rattle.std.proofs.Common.{◌≡◌, ◌≢◌, ◌||◌, add-one, ltb, ℕ, suc, ◌+◌, ◌<◌, ◌≤◌, Bool, true, false, inl, inr, List, [], ◌∷◌, ◌++◌}
use Rattle.std.{proofs.{Common.{length, refl, sym, ap, subst, ◌∙◌, arith}, lemmas.{Grind.common_steps, Bool.cases_eq}}, specs.Prelude.slice_get}
use Rattle.std.specs.{Prelude.AllPairs, declared.option.Option.{Option, TheVariants.{None, Some}}, Option.option_map}
use Rattle.graph_types.specs.declared.batches.NamedOp.{NamedOp}
use Rattle.epoch_core.specs.{declared.states.Version.Version, Blocks.{after_post, status_after}, Versions.{AreEdgesOf, edges_of}}
use Rattle.epoch_core.specs.{Versions.{graph_at, version_at}, Worlds.{World, last_blocks, last_graph, last_number, session_of}}
use Rattle.epoch_core.specs.{Posts.{MayPost, posted}, Sound.{IsDatedAt, IsKeptAt, IsNamed, IsSound}, Posting.all_listable}
use Rattle.epoch_core.specs.{Sound.{IsListedAsDated, IsListedAt, IsListedBetween}, Versions.blocks_at}
use Rattle.epoch_core.{specs.Posting.{can_post, graph_after, is_listable, version_by}, proofs.PostRule.Decides-post}
use Rattle.epoch_core.proofs.{PostRule.listable_of, Keeping.{Carries, carry}}
use Rattle.epoch_core.proofs.{Lists.all_listed, Changes.{length_next, version_before, graph_before, version_next, graph_next}}
use Rattle.block_reclamation.specs.{declared.status.BlockStatus.BlockStatus, Status.{is_at, is_granted, is_among, is_used, IsDated}}
use Rattle.block_reclamation.specs.declared.status.BlockStatus.TheVariants.{Free, Granted, Used, Retired}
use Rattle.graph_types.proofs.{Joined.{get_enumerated, length_enumerated}, Numbers.{below, not_below}}

-- the status of each block afterwards
pub status_at : (n : ℕ) (blocks : List ℕ) (status : List BlockStatus) (b : ℕ) → slice_get (status_after n blocks status) b
    ≡ option_map (after_post n (is_among b blocks)) (slice_get status b)
status_at n blocks status b = get_enumerated (λ i s. after_post n (is_among i blocks) s) 0 status b
    ∙ (let e : 0 + b ≡ b = omega arith in ap (λ i. option_map (after_post n (is_among i blocks)) (slice_get status b)) e)

used_after : (n : ℕ) (t : Bool) (o : Option BlockStatus) → (t ≡ true → (is_at is_granted o || is_at is_used o) ≡ true)
    → is_at is_used (option_map (after_post n t) o) ≡ t
used_after n t o may = grind (arith, common_steps)

dated_after : (last : ℕ) (t : Bool) (o : Option BlockStatus) → IsDatedAt last o
    → IsDatedAt (last + 1) (option_map (after_post (last + 1) t) o)
dated_after last t o d = grind (arith, common_steps)

kept_after : (n m : ℕ) (t : Bool) (o : Option BlockStatus) → m < n → IsKeptAt m o → IsKeptAt m (option_map (after_post n t) o)
kept_after n m t o h k = grind (arith, common_steps)

carries_posted : (w : World) (batch : List NamedOp) (blocks : List ℕ) → Carries w (posted w batch blocks)
carries_posted w batch blocks = grind (arith, common_steps, length_next, version_before, graph_before, status_at, kept_after)

named_posted : (w : World) (batch : List NamedOp) (blocks : List ℕ) → IsSound w → (n : ℕ)
    → n ≤ last_number (posted w batch blocks) → IsNamed (posted w batch blocks) n
named_posted w batch blocks sound n h =
    let v : Version = version_by w.opening w.versions batch blocks in
    let next : last_number (posted w batch blocks) ≡ suc (length w.versions) = length_next w.versions v in
    elim (cases_eq n (last_number (posted w batch blocks))) [
      | inl e ↦
          let at : version_at w.opening (w.versions ++ v ∷ []) n ≡ v =
          ap (version_at w.opening (w.versions ++ v ∷ [])) e ∙ version_next w.opening w.versions v in
          let made : graph_at w.opening (w.versions ++ v ∷ []) n ≡ graph_after w.opening w.versions batch =
          ap (graph_at w.opening (w.versions ++ v ∷ [])) e ∙ graph_next w.opening w.versions v in
          record {
            names = ap (λ u. u.names) at ∙ sym (ap (λ g. g.names) made);
            kinds = ap (λ u. u.kinds) at ∙ sym (ap (λ g. g.kinds) made);
          }
      | inr ne ↦
          let low : n ≤ length w.versions = omega (arith, next) in
          let at : version_at w.opening (w.versions ++ v ∷ []) n ≡ version_at w.opening w.versions n =
          version_before w.opening w.versions v n low in
          let made : graph_at w.opening (w.versions ++ v ∷ []) n ≡ graph_at w.opening w.versions n =
          graph_before w.opening w.versions v n low in
          let old : IsNamed w n = sound.named n low in
          record {
            names = ap (λ u. u.names) at ∙ old.names ∙ sym (ap (λ g. g.names) made);
            kinds = ap (λ u. u.kinds) at ∙ old.kinds ∙ sym (ap (λ g. g.kinds) made);
          }
    ]

-- a new version lists the blocks that it is posted on, and each older one those that it did
between_after : (w : World) (batch : List NamedOp) (blocks : List ℕ) (b first end : ℕ)
    → ((n : ℕ) → first ≤ n → n ≤ last_number w → is_among b (blocks_at w.opening w.versions n) ≡ ltb n end)
    → is_among b blocks ≡ ltb (last_number w + 1) end → IsListedBetween (posted w batch blocks) b first end
between_after w batch blocks b first end old new = λ n low high.
    let v : Version = version_by w.opening w.versions batch blocks in
    let next : last_number (posted w batch blocks) ≡ suc (length w.versions) = length_next w.versions v in
    elim (cases_eq n (last_number (posted w batch blocks))) [
      | inl e ↦
          let at : blocks_at w.opening (w.versions ++ v ∷ []) n ≡ blocks =
          ap (blocks_at w.opening (w.versions ++ v ∷ [])) e ∙ ap (λ u. u.blocks) (version_next w.opening w.versions v) in
          let number : n ≡ last_number w + 1 = e ∙ next ∙ sym (add-one (last_number w)) in
          ap (is_among b) at ∙ new ∙ ap (λ k. ltb k end) (sym number)
      | inr ne ↦
          let before : n ≤ length w.versions = omega (arith, next) in
          ap (λ u. is_among b u.blocks) (version_before w.opening w.versions v n before) ∙ old n low before
    ]

listed_after : (w : World) (batch : List NamedOp) (blocks : List ℕ) (b : ℕ) (s : BlockStatus) (t : Bool) → is_among b blocks ≡ t
    → (t ≡ true → (is_granted s || is_used s) ≡ true) → IsDated (last_number w) s → IsListedAsDated w b s
    → IsListedAsDated (posted w batch blocks) b (after_post (last_number w + 1) t s)
listed_after w batch blocks b Free true is may dated l = tt
listed_after w batch blocks b Free false is may dated l = tt
listed_after w batch blocks b Granted true is may dated l =
    let next = length_next w.versions (version_by w.opening w.versions batch blocks) in
    between_after w batch blocks b (last_number w + 1) (last_number (posted w batch blocks) + 1)
    (λ n low high. absurd (omega arith)) (is ∙ sym (below (last_number w + 1) _ (omega (arith, next))))
listed_after w batch blocks b Granted false is may dated l = tt
listed_after w batch blocks b (Used birth) true is may dated l =
    let next = length_next w.versions (version_by w.opening w.versions batch blocks) in
    between_after w batch blocks b birth (last_number (posted w batch blocks) + 1)
    (λ n low high. l n low high ∙ below n (last_number w + 1) (omega arith) ∙ sym (below n _ (omega (arith, next))))
    (is ∙ sym (below (last_number w + 1) _ (omega (arith, next))))
listed_after w batch blocks b (Used birth) false is may dated l =
    between_after w batch blocks b birth (last_number w + 1) l (is ∙ sym (not_below (last_number w + 1) _ (omega arith)))
listed_after w batch blocks b (Retired birth retirement) true is may dated l =
    absurd (let none = may refl in cc)
listed_after w batch blocks b (Retired birth retirement) false is may dated l =
    between_after w batch blocks b birth retirement l (is ∙ sym (not_below (last_number w + 1) retirement (omega (arith, dated.1))))

listed_at_after : (w : World) (batch : List NamedOp) (blocks : List ℕ) (b : ℕ) (o : Option BlockStatus) (t : Bool)
    → is_among b blocks ≡ t → (t ≡ true → (is_at is_granted o || is_at is_used o) ≡ true) → IsDatedAt (last_number w) o
    → IsListedAt w b o → IsListedAt (posted w batch blocks) b (option_map (after_post (last_number w + 1) t) o)
listed_at_after w batch blocks b None t is may dated l = tt
listed_at_after w batch blocks b (Some s) t is may dated l = listed_after w batch blocks b s t is may dated l

pub sound_posted : (w : World) (batch : List NamedOp) (blocks : List ℕ) → IsSound w
    → can_post w.opening w.heap w.status w.versions batch blocks ≡ true → IsSound (posted w batch blocks)
sound_posted w batch blocks sound can =
    let asked : MayPost w batch blocks = (Decides-post w batch blocks).0 can in
    let all : all_listable w.status (last_blocks w) blocks ≡ true = listable_of w batch blocks can in
    let may : (b : ℕ) → is_among b blocks ≡ true
    → (is_at is_granted (slice_get w.status b) || is_at is_used (slice_get w.status b)) ≡ true = λ b is.
    ap (λ t. is_at is_granted (slice_get w.status b) || t) (sound.used b)
    ∙ all_listed (is_listable w.status (last_blocks w)) blocks b all is in
    let v : Version = version_by w.opening w.versions batch blocks in
    let next : last_number (posted w batch blocks) ≡ suc (length w.versions) = length_next w.versions v in
    let at : last_blocks (posted w batch blocks) ≡ blocks = ap (λ u. u.blocks) (version_next w.opening w.versions v) in
    let made : last_graph (posted w batch blocks) ≡ graph_after w.opening w.versions batch = graph_next w.opening w.versions v in
    record {
      floor_last = omega (arith, next, sound.floor_last);
      copy_last = omega (arith, next, sound.copy_last);
      used = λ b.
          ap (is_at is_used) (status_at (last_number w + 1) blocks w.status b)
          ∙ used_after (last_number w + 1) (is_among b blocks) (slice_get w.status b) (may b) ∙ ap (is_among b) (sym at);
      dated = λ b. subst (λ n. IsDatedAt n (slice_get (posted w batch blocks).status b))
          (sym (next ∙ sym (add-one (last_number w))))
          (subst (IsDatedAt (last_number w + 1)) (sym (status_at (last_number w + 1) blocks w.status b))
          (dated_after (last_number w) (is_among b blocks) (slice_get w.status b) (sound.dated b)));
      listed = λ b.
          subst (IsListedAt (posted w batch blocks) b) (sym (status_at (last_number w + 1) blocks w.status b))
          (listed_at_after w batch blocks b (slice_get w.status b) (is_among b blocks) refl (may b) (sound.dated b)
          (sound.listed b));
      listed_once = subst (AllPairs ◌≢◌) (sym at) asked.different;
      shown = subst (λ g. AreEdgesOf (edges_of w.heap (last_blocks (posted w batch blocks))) g) (sym made)
          (subst (λ bs. AreEdgesOf (edges_of w.heap bs) (graph_after w.opening w.versions batch)) (sym at) asked.shown);
      named = named_posted w batch blocks sound;
      sessions = λ s. carry w (posted w batch blocks) (session_of w s) (carries_posted w batch blocks) (sound.sessions s);
      sizes = sound.sizes ∙ sym (length_enumerated (λ p. after_post (last_number w + 1) (is_among p.0 blocks) p.1) 0 w.status);
    }
