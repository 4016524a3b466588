-- A worker's operations as more of the batch are planned.
use Rattle.std.proofs.Common.{◌≡◌, ◌≢◌, ℕ, ◌<◌, ◌≤◌, ◌%◌, true, false, cond, List, [], ◌∷◌, ◌++◌, length}
use Rattle.std.proofs.Common.{length-append, map, refl, sym, ap, ap₂, ◌∙◌, arith, subst, All, AllPairs, nat_eq}
use Rattle.std.proofs.{Common.Bool, lemmas.List.{append-nil, map-append, get_or_append_left, Folds.list_any-append}}
use Rattle.std.proofs.lemmas.List.{Sums.sum_by_push, Quantifiers.all_pairs_push, Elements.{All-head, All-tail, All-push}}
use Rattle.std.{proofs.lemmas.{List.Elements.filter-append, Bool.true≢false}, specs.Prelude.slice_index}
use Rattle.std.specs.{List.{enumerate_from, list_any, sum_by}, declared.option.Option.{Option, TheVariants.{None, Some}}}
use Rattle.std.proofs.lemmas.Grind.{common_steps}
use Rattle.graph_types.specs.Graph.{Key}
use Rattle.graph_types.proofs.{Elements.{all_left, last_of}, Searches.absent}
use Rattle.edge_block.specs.Batches.{Resolved, AtKey, IsPlaced, is_in_shard, shard_ops}
use Rattle.edge_block.proofs.ShardSteps.{next_places, own_numbers, key_in, own_key}
use Rattle.batch_shards.specs.{Shards.{AreSteps, IsAct, IsPlace, key_at, resolved_at, resolved_in}, declared.shard.Act.Act}
use Rattle.batch_shards.specs.declared.shard.{Act.TheVariants.{Edge, Expire}, Place.Place, Step.Step}
use Rattle.batch_shards.proofs.ShardSizes.{steps_wider}
use Rattle.batch_apply.specs.Shards.{acts, unsourced, IsSourceBelow, AreShardSteps, with_source, with_op}

more_distinct : (o : Option Key) (sources : List ℕ) → AllPairs (λ a b. a ≢ b) sources
    → AllPairs (λ a b. a ≢ b) (with_source o sources)
more_distinct None sources u = u
more_distinct (Some k) sources u =
    elim (list_any (nat_eq k.source) sources) as (λ b. list_any (nat_eq k.source) sources ≡ b
    → AllPairs (λ a b. a ≢ b) (cond b sources (sources ++ k.source ∷ []))) [
      | true ↦ λ _. u
      | false ↦ λ none. all_pairs_push (λ a b. a ≢ b) sources k.source u (λ i d lt e. absent sources k.source none i d lt e)
    ] refl

more_all : (P : ℕ → Type 0) (o : Option Key) (sources : List ℕ) → All P sources → ((k : Key) → o ≡ Some k → P k.source)
    → All P (with_source o sources)
more_all P o sources all new = grind (arith, common_steps, All-push)

more_listed : (o : Option Key) (sources : List ℕ) (s : ℕ) → list_any (nat_eq s) sources ≡ true
    → list_any (nat_eq s) (with_source o sources) ≡ true
more_listed o sources s listed = grind (arith, common_steps, list_any-append)

more_length : (o : Option Key) (sources : List ℕ) → length sources ≤ length (with_source o sources)
more_length o sources = grind (arith, common_steps, length-append)

more_index : (o : Option Key) (sources : List ℕ) (i : ℕ) → i < length sources
    → slice_index (with_source o sources) i ≡ slice_index sources i
more_index o sources i lt = grind (arith, common_steps, get_or_append_left)

key_stays : (o : Option Key) (sources : List ℕ) (p : Option Place) → IsPlace (length sources) p
    → key_at (with_source o sources) p ≡ key_at sources p
key_stays o sources p h = grind (arith, common_steps, more_index)

acts_stay : (o : Option Key) (sources : List ℕ) (steps : List Step) → AreSteps (length sources) steps
    → acts (resolved_in (with_source o sources) steps) ≡ acts (resolved_in sources steps)
acts_stay o sources [] all = refl
acts_stay o sources (s ∷ steps) all =
    let Fine : Step → Type 0 = λ s. IsAct (length sources) s.act in
    ap₂ (λ (a : Resolved) as'. a ∷ as') (act_stays s.act (All-head Fine s steps all))
    (acts_stay o sources steps (All-tail Fine s steps all)) where
      act_stays : (act : Act) → IsAct (length sources) act
          → unsourced (resolved_at (with_source o sources) act) ≡ unsourced (resolved_at sources act)
      act_stays (Edge place change) is = ap (λ (q : Option Key). AtKey None q change) (key_stays o sources place is.0)
      act_stays (Expire time) is = refl

next_acts : (workers w : ℕ) (rs : List Resolved) (r : Resolved)
    → acts (shard_ops workers w (rs ++ r ∷ [])) ≡ acts (shard_ops workers w rs) ++ acts (shard_ops workers w (r ∷ []))
next_acts workers w rs r = grind (arith, common_steps, filter-append, map-append)

-- an operation of another worker changes nothing
pub passed : (workers w : ℕ) (rs : List Resolved) (r : Resolved) (is_old : ℕ → Bool) (sources : List ℕ) (steps : List Step)
    → AreShardSteps workers rs w is_old sources steps → is_in_shard workers w r ≡ false
    → AreShardSteps workers (rs ++ r ∷ []) w is_old sources steps
passed workers w rs r is_old sources steps is out = record {
  places = is.places ∙ sym (next_places workers w rs r ∙ ap (λ b. own_numbers workers w (enumerate_from 0 rs)
      ++ map (λ (p : ℕ × Resolved). p.0) (cond b ((length rs, r) ∷ []) [])) out
      ∙ append-nil (own_numbers workers w (enumerate_from 0 rs)));
  acts_are = is.acts_are ∙ sym (next_acts workers w rs r
      ∙ ap (λ b. acts (shard_ops workers w rs) ++ acts (cond b (r ∷ []) [])) out ∙ append-nil (acts (shard_ops workers w rs)));
  in_range = is.in_range;
  distinct = is.distinct;
  own = is.own;
  within = λ n all old. is.within n (all_left (IsSourceBelow n) rs (r ∷ []) all) old;
  old_rows = is.old_rows;
}

with_key : (r : Resolved) (sources : List ℕ) → with_op r sources ≡ with_source (key_in r) sources
with_key r sources = grind (arith, common_steps)

below_key : (n : ℕ) (r : Resolved) → IsSourceBelow n r → (k : Key) → key_in r ≡ Some k → k.source < n
below_key n r below = grind (arith, common_steps)

more_sum : (f : ℕ → ℕ) (o : Option Key) (sources : List ℕ)
    → ((k : Key) → o ≡ Some k → list_any (nat_eq k.source) sources ≡ false → f k.source ≡ 0)
    → sum_by f (with_source o sources) ≡ sum_by f sources
more_sum f o sources new = grind (arith, common_steps, sum_by_push)

module _ (workers w : ℕ) (rs : List Resolved) (r : Resolved) (is_old : ℕ → Bool) (sources : List ℕ) (steps : List Step)
    (is : AreShardSteps workers rs w is_old sources steps) (mine : is_in_shard workers w r ≡ true) (placed : IsPlaced r) where
  -- one of the worker's own is added, with its source
  pub added : (next : List ℕ) (op : ℕ) (act : Act) → next ≡ with_op r sources → op ≡ length rs
      → unsourced (resolved_at next act) ≡ unsourced r → IsAct (length next) act
      → AreShardSteps workers (rs ++ r ∷ []) w is_old next (steps ++ record { op = op; act = act } ∷ [])
  added next op act grows op_is at in_rows =
      let key : Option Key = key_in r in
      let more : List ℕ = with_source key sources in
      let next_is : next ≡ more = grows ∙ with_key r sources in
      let s : Step = record { op = op; act = act } in
      subst (λ (ss : List ℕ). AreShardSteps workers (rs ++ r ∷ []) w is_old ss (steps ++ s ∷ [])) (sym next_is)
      (let act_is : unsourced (resolved_at more act) ≡ unsourced r =
      subst (λ ss. unsourced (resolved_at ss act) ≡ unsourced r) next_is at in
      record {
        places =
            map-append (λ (t : Step). t.op) steps (s ∷ [])
            ∙ ap₂ (λ a b. a ++ b ∷ []) is.places op_is
            ∙ sym (next_places workers w rs r ∙ ap (λ b. own_numbers workers w (enumerate_from 0 rs)
            ++ map (λ (p : ℕ × Resolved). p.0) (cond b ((length rs, r) ∷ []) [])) mine);
        acts_are =
            ap acts (map-append (λ (t : Step). resolved_at more t.act) steps (s ∷ []))
            ∙ map-append unsourced (resolved_in more steps) (resolved_in more (s ∷ []))
            ∙ ap₂ (λ (a : List Resolved) (b : Resolved). a ++ b ∷ [])
            (acts_stay key sources steps is.in_range ∙ is.acts_are) act_is
            ∙ sym (next_acts workers w rs r ∙ ap (λ b. acts (shard_ops workers w rs) ++ acts (cond b (r ∷ []) [])) mine);
        in_range = All-push (λ (s : Step). IsAct (length more) s.act) steps s
            (steps_wider (length sources) (length more) (more_length key sources) steps is.in_range)
            (subst (λ (ss : List ℕ). IsAct (length ss) act) next_is in_rows);
        distinct = more_distinct key sources is.distinct;
        own = more_all (λ s. s % workers ≡ w) key sources is.own (own_key workers w r placed mine);
        within = λ n all old. more_all (λ s. s < n) key sources (is.within n (all_left (IsSourceBelow n) rs (r ∷ []) all) old)
            (below_key n r (last_of (IsSourceBelow n) rs r all));
        old_rows = λ t own old. more_listed key sources t (is.old_rows t own old);
      })

  -- a sum over the sources to which those with old rows alone add
  pub same_sum : (f : ℕ → ℕ) → ((s : ℕ) → is_old s ≡ false → f s ≡ 0) → (next : List ℕ) → next ≡ with_op r sources
      → sum_by f next ≡ sum_by f sources
  same_sum f none next grows = grind (arith, common_steps, with_key, more_sum, true≢false, own_key)
