-- Results of all shards, put together at their places, are the batch's results.
use Rattle.std.proofs.Common.{◌≡◌, ℕ, suc, ◌+◌, ◌<◌, List, [], ◌∷◌, ◌++◌, length, set, Bool, true, false, refl, sym, ap}
use Rattle.std.proofs.Common.{◌∙◌, arith, length-append, get_or, map, cond, replicate}
use Rattle.std.proofs.lemmas.{List.append_assoc, Grind.common_steps}
use Rattle.graph_types.specs.declared.batches.Outcome.{Outcome, TheVariants.Absent}
use Rattle.edge_block.specs.Rows.{OpenBlock}
use Rattle.edge_block.specs.Batches.{Resolved, is_in_shard, outcomes_all}
use Rattle.graph_types.specs.Outcomes.{together}
use Rattle.batch_apply.specs.Plans.{written, results, written_all}
use Rattle.graph_types.specs.Outcomes.{told}
use Rattle.graph_types.proofs.{Joined.none_more, OutcomeSteps.{get_middle, set_middle}}
use Rattle.edge_block.proofs.ShardResults.{long_told}
use Rattle.edge_block.proofs.ShardSteps.{mixed, so_far, all_sources, long_so_far, step, none_yet, all_done}

-- one shard's results written
one_shard : (p : Resolved → Bool) (rs : List Resolved) (ys before xs : List Outcome) (k : ℕ) → length before ≡ k
    → length ys ≡ length rs → length xs ≡ length rs
    → written (results p rs ys k) (before ++ xs) ≡ before ++ mixed p rs ys xs
one_shard p [] ys before xs k at a b = refl
one_shard p (r ∷ rs) [] before xs k at a b = absurd (omega arith)
one_shard p (r ∷ rs) (y ∷ ys) before [] k at a b = absurd (omega arith)
one_shard p (r ∷ rs) (y ∷ ys) before (x ∷ xs) k at a b =
    let go : (z : Outcome) → written (results p rs ys (k + 1)) (before ++ z ∷ xs) ≡ before ++ z ∷ mixed p rs ys xs = λ z.
    ap (written (results p rs ys (k + 1))) (sym (append_assoc before (z ∷ []) xs))
    ∙ one_shard p rs ys (before ++ z ∷ []) xs (k + 1) (length-append before (z ∷ []) ∙ ap (λ n. n + 1) at) (omega arith)
    (omega arith)
    ∙ append_assoc before (z ∷ []) (mixed p rs ys xs) in
    let all : List Outcome = before ++ x ∷ xs in
    elim (p r) as (λ b. written (cond b ((k, y) ∷ results p rs ys (k + 1)) (results p rs ys (k + 1))) (before ++ x ∷ xs)
    ≡ before ++ cond b (told (together x y)) x ∷ mixed p rs ys xs) [
      | true ↦ ap (written (results p rs ys (k + 1)))
          (ap (λ n. set all n (told (together (get_or all n Absent) y))) (sym at)
          ∙ ap (λ (o : Outcome). set all (length before) (told (together o y))) (get_middle before x Absent xs)
          ∙ set_middle before x (told (together x y)) xs)
          ∙ go (told (together x y))
      | false ↦ go x
    ]

-- Of so many first shards, which have these sources

shard_by_shard : (workers w : ℕ) (before : List ℕ) (shards : List (List ℕ)) → (w ≡ 0 → before ≡ [])
    → (rs : List Resolved) (rows : ℕ → List OpenBlock)
    → written_all workers w shards rs rows (so_far workers w before rs rows)
    ≡ so_far workers (w + length shards) (before ++ all_sources shards) rs rows
shard_by_shard workers w before [] first rs rows = grind (arith, common_steps, none_more)
shard_by_shard workers w before (sources ∷ shards) first rs rows =
    let next : w + 1 + length shards ≡ w + suc (length shards) = omega arith in
    ap (written_all workers (w + 1) shards rs rows)
    (one_shard (is_in_shard workers w) rs (map told (outcomes_all sources rs rows)) [] (so_far workers w before rs rows) 0 refl
    (long_told sources rs rows) (long_so_far workers w before rs rows)
    ∙ step workers w before sources first rs rows)
    ∙ shard_by_shard workers (w + 1) (before ++ sources) shards (λ e. absurd (omega (arith, e))) rs rows
    ∙ ap (λ n. so_far workers n ((before ++ sources) ++ all_sources shards) rs rows) next
    ∙ ap (λ xs. so_far workers (w + suc (length shards)) xs rs rows) (append_assoc before sources (all_sources shards))

-- for every number of workers the results of all shards, put together at their places, are the batch's over all sources
pub all_written : (workers : ℕ) → 0 < workers → (shards : List (List ℕ)) → length shards ≡ workers
    → (rs : List Resolved) (rows : ℕ → List OpenBlock)
    → written_all workers 0 shards rs rows (replicate (length rs) Absent)
    ≡ map told (outcomes_all (all_sources shards) rs rows)
all_written workers h shards long rs rows =
    ap (written_all workers 0 shards rs rows) (none_yet workers rs rows)
    ∙ shard_by_shard workers 0 [] shards (λ e. refl) rs rows
    ∙ ap (λ (n : ℕ). so_far workers n (all_sources shards) rs rows) (omega (arith, long))
    ∙ all_done workers h (all_sources shards) rs rows
